use mathlib.Core.Path.{◌≡◌, refl}
use mathlib.Core.List.{List}
use Prim.Native.Nat.{ℕ, ◌+◌, ◌*◌, ◌≤◌, ◌<◌}
use native.Mathlib.Omega.{arith}
use lib.IntN.{ℤ, pos, ◌+ℤ◌, ◌-ℤ◌, +ℤ_idr, +ℤ_assoc}
use lib.ListN.{length, get_or, drop}
use lib.Signed.{≤ℤ_refl}
use mir.Syntax.{w64}
use mir.Val.{SFits, to_z, of_z}
use Rattle.whole.specs.Number.{Within}
use Rattle.whole.proofs.Bounds.{within_more, within-add}
use Rattle.whole.proofs.Machine.{Hold, hold, hold-sub, hold-add, fits-add, fits_sub}
use Rattle.shapes.specs.Limits.{line_limit, board_runs}
use Rattle.board.specs.declared.Run.{Run}
use Rattle.board.specs.declared.Board.{Board}
use Rattle.board.specs.Runs.{no_run, total, edge, Ascending}
use Rattle.board.specs.Boards.{live, Sound}
use Rattle.board.proofs.Arrays.{left_more, left-none}
use Rattle.board.proofs.Fronts.{live-few}
use Rattle.board.proofs.Sound.{Inside, inside-at, longest}
use Rattle.board.proofs.inner.total_of.Goals as goal

-- ---- the total of the runs from place i on

module _ (rs : List Run) (i : ℕ) where
  total-next : i < length rs → total (drop i rs) ≡ ((get_or rs i no_run).end -ℤ (get_or rs i no_run).start) +ℤ total (drop (i + 1) rs)
  unfolding total
  total-next h = rw (left_more rs i no_run h)

  total-none : length rs ≤ i → total (drop i rs) ≡ pos 0
  unfolding total
  total-none h = rw (left-none rs i h)

few : {rs : List Run} (b : Board) → rs ≡ live b → Sound line_limit b → length rs ≤ board_runs
few b e s = rw e (omega (arith, live-few b, s.few))

-- ---- in a turn: the run lies inside the columns, and the sum is small

module _ (rs : List Run) (i bits : ℕ) (a : Ascending line_limit (edge line_limit) rs) (h : i < length rs) (few : length rs ≤ board_runs) (small : Within (to_z w64 bits) (longest * i)) where
  abbrev run : Run
  run = get_or rs i no_run

  near : Inside line_limit run
  near = inside-at a (≤ℤ_refl (edge line_limit)) i no_run h

  length-fits : SFits w64 (to_z w64 (of_z w64 run.end) -ℤ to_z w64 (of_z w64 run.start))
  length-fits = fits_sub (hold near.end_near tt) (hold near.start_near tt) tt

  length-held : Hold (of_z w64 (to_z w64 (of_z w64 run.end) -ℤ to_z w64 (of_z w64 run.start))) (run.end -ℤ run.start) longest
  length-held = hold-sub (hold near.end_near tt) (hold near.start_near tt) tt

  sum-held : Hold bits (to_z w64 bits) (longest * board_runs)
  sum-held = record { is = refl; small = within_more small (omega arith) }

  abbrev more : ℤ
  more = to_z w64 (of_z w64 (to_z w64 bits +ℤ to_z w64 (of_z w64 (to_z w64 (of_z w64 run.end) -ℤ to_z w64 (of_z w64 run.start)))))

  sum-fits : SFits w64 (to_z w64 bits +ℤ to_z w64 (of_z w64 (to_z w64 (of_z w64 run.end) -ℤ to_z w64 (of_z w64 run.start))))
  sum-fits = fits-add sum-held length-held tt

  more-is : more ≡ to_z w64 bits +ℤ (run.end -ℤ run.start)
  more-is = (hold-add sum-held length-held tt).is

  more-small : Within more (longest * (i + 1))
  more-small = rw more-is (within_more (within-add small length-held.small) (omega arith))

  more-sum : to_z w64 bits +ℤ total (drop i rs) ≡ total rs → more +ℤ total (drop (i + 1) rs) ≡ total rs
  more-sum e = rw (more-is, +ℤ_assoc (to_z w64 bits) (run.end -ℤ run.start) (total (drop (i + 1) rs))) (rw (total-next rs i h) at e)

pub overflow_sub-total : goal.overflow_sub-total
overflow_sub-total c =
    length-fits c.runs_of-run-items.result.now c.loop-run.run-index c.loop-run.total-bits (rw c.runs_of-run-items.ensures c.requires.ascending) (omega arith) (few c.args.board.now c.runs_of-run-items.ensures c.requires) c.loop-run.invariant.small

pub overflow_add-total : goal.overflow_add-total
overflow_add-total c =
    sum-fits c.runs_of-run-items.result.now c.loop-run.run-index c.loop-run.total-bits (rw c.runs_of-run-items.ensures c.requires.ascending) (omega arith) (few c.args.board.now c.runs_of-run-items.ensures c.requires) c.loop-run.invariant.small

pub loop-run-preserved : goal.loop-run-preserved
loop-run-preserved c =
    let rs = c.runs_of-run-items.result.now in
    let i = c.loop-run.run-index in
    let a : Ascending line_limit (edge line_limit) rs = rw c.runs_of-run-items.ensures c.requires.ascending in
    let f = few c.args.board.now c.runs_of-run-items.ensures c.requires in
    record {
      all = c.runs_of-run-items.ensures;
      small = more-small rs i c.loop-run.total-bits a (omega arith) f c.loop-run.invariant.small;
      sum = more-sum rs i c.loop-run.total-bits a (omega arith) f c.loop-run.invariant.small c.loop-run.invariant.sum;
    }

pub returns : goal.returns
returns c =
    let e = total-none c.runs_of-run-items.result.now c.loop-run.run-index (omega arith) in
    let f = +ℤ_idr (to_z w64 c.loop-run.total-bits) in
    cc
