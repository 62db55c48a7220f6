use mathlib.Core.Path.{◌≡◌}
use mathlib.Core.Bool.{true, false}
use mathlib.Core.List.{List}
use Prim.Native.Nat.{ℕ, ◌+◌, ◌≤◌, ◌<◌}
use native.Mathlib.Omega.{arith}
use borrow.Author.Rules.{rules}
use lib.IntN.{ℤ}
use lib.ListN.{length, get_or, drop}
use mir.Syntax.{w64}
use mir.Val.{to_z}
use mir.Facts.{to_z-of_z}
use Rattle.board.specs.declared.Run.{Run}
use Rattle.board.specs.Runs.{no_run, follows, is_ascending}
use Rattle.board.proofs.Arrays.{left_more, left-none}
use Rattle.board.proofs.inner.is_ascending.Goals as goal

-- the run at place i, and then the others
module _ (k : ℕ) (last : ℤ) (rs : List Run) (i : ℕ) where
  stops : i < length rs → follows k last (get_or rs i no_run) ≡ false → is_ascending k last (drop i rs) ≡ false
  unfolding is_ascending
  stops h e = rw (left_more rs i no_run h, e)

  goes-on : i < length rs → follows k last (get_or rs i no_run) ≡ true
      → is_ascending k last (drop i rs) ≡ is_ascending k (get_or rs i no_run).end (drop (i + 1) rs)
  unfolding is_ascending
  goes-on h e = rw (left_more rs i no_run h, e)

  ends : length rs ≤ i → is_ascending k last (drop i rs) ≡ true
  unfolding is_ascending
  ends h = rw (left-none rs i h)

pub returns-then-not-follows : goal.returns-then-not-follows
returns-then-not-follows c =
    let e = stops c.args.limit (to_z w64 c.loop-run.last-bits) c.runs_of-run-items.result.now c.loop-run.run-index (omega arith) (cc) in
    cc

pub loop-run-preserved : goal.loop-run-preserved
loop-run-preserved c =
    let rs = c.runs_of-run-items.result.now in
    let e = goes-on c.args.limit (to_z w64 c.loop-run.last-bits) rs c.loop-run.run-index (omega arith) (cc) in
    (c.runs_of-run-items.ensures, cc (to_z-of_z {w = w64} {z = (get_or rs c.loop-run.run-index no_run).end} (search rules)))

pub returns : goal.returns
returns c =
    let e = ends c.args.limit (to_z w64 c.loop-run.last-bits) c.runs_of-run-items.result.now c.loop-run.run-index (omega arith) in
    cc
