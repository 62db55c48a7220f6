use mathlib.Core.Path.{◌≡◌, ap, ◌∙◌}
use mathlib.Core.List.{List}
use Prim.Native.Nat.{ℕ, ◌*◌, ◌≤◌}
use native.Mathlib.Omega.{arith}
use borrow.Author.Rules.{rules}
use lib.IntN.{ℤ}
use lib.ListN.{length, get_or, length-set}
use mir.Syntax.{w64}
use mir.Facts.{to_z-of_z}
use Rattle.board.specs.declared.Run.{Run}
use Rattle.board.specs.Runs.{flat, no_run}
use Rattle.board.specs.Boards.{over}
use Rattle.board.proofs.Arrays.{pasted, paste-length, paste-done, left_more}
use Rattle.board.proofs.Fronts.{live-few}
use Rattle.board.proofs.Listing.{flat-length, flat-turn}
use Rattle.board.proofs.inner.write_runs.Goals as goal

-- where the numbers of the first i runs are written
kept : (rs : List Run) (first out : List ℤ) (i : ℕ) → out ≡ pasted (flat rs) first (2 * i) → i ≤ length rs → 2 * length rs ≤ length first
    → length out ≡ length first
kept rs first out i e h room = ap length e ∙ paste-length (flat rs) first (2 * i) (omega (arith, flat-length rs)) (omega arith)

all-written : (rs : List Run) (first out : List ℤ) (i : ℕ) → out ≡ pasted (flat rs) first (2 * i) → i ≡ length rs → out ≡ over first rs
unfolding over
all-written rs first out i e h =
    let all : 2 * i ≡ length (flat rs) = omega (arith, flat-length rs) in
    e ∙ rw (← flat-length rs) (paste-done (flat rs) first (2 * i) all)

pub bounds-out-i : goal.bounds-out-i
bounds-out-i c =
    let few = live-few c.args.board.now in
    let room : 2 * length c.runs_of-run-items.result.now ≤ length c.args.out.now = rw c.runs_of-run-items.ensures (omega arith) in
    omega (arith, kept c.runs_of-run-items.result.now c.args.out.now c.loop-i.out c.loop-i.i c.loop-i.invariant.1 (omega arith) room)

pub bounds-out-i-in-loop-i : goal.bounds-out-i-in-loop-i
bounds-out-i-in-loop-i c =
    let few = live-few c.args.board.now in
    let room : 2 * length c.runs_of-run-items.result.now ≤ length c.args.out.now = rw c.runs_of-run-items.ensures (omega arith) in
    omega (arith, length-set {A = ℤ}, kept c.runs_of-run-items.result.now c.args.out.now c.loop-i.out c.loop-i.i c.loop-i.invariant.1 (omega arith) room)

pub loop-i-preserved : goal.loop-i-preserved
loop-i-preserved c =
    let rs = c.runs_of-run-items.result.now in
    let few = live-few c.args.board.now in
    let room : 2 * length c.runs_of-run-items.result.now ≤ length c.args.out.now = rw c.runs_of-run-items.ensures (omega arith) in
    let run : Run = get_or rs c.loop-i.i no_run in (
      c.runs_of-run-items.ensures,
      rw (to_z-of_z {w = w64} {z = run.start} (search rules), to_z-of_z {w = w64} {z = run.end} (search rules), c.loop-i.invariant.1)
          (flat-turn rs _ c.args.out.now c.loop-i.i run (omega arith) (left_more rs c.loop-i.i no_run (omega arith))),
    )

pub returns : goal.returns
returns c = rw (← c.runs_of-run-items.ensures) (all-written c.runs_of-run-items.result.now c.args.out.now c.loop-i.out c.loop-i.i c.loop-i.invariant.1 (omega arith))
