use mathlib.Core.Path.{◌≡◌, ap, ◌∙◌}
use mathlib.Core.List.{List}
use Prim.Native.Nat.{◌+◌, ◌-◌}
use native.Mathlib.Omega.{arith}
use borrow.Author.Tests.{le-leb, lt-leb}
use lib.ListN.{length, length-drop}
use Rattle.shapes.specs.Limits.{board_runs}
use Rattle.board.specs.declared.Run.{Run}
use Rattle.board.specs.declared.inner.Front.{Front}
use Rattle.board.specs.Runs.{with_run}
use Rattle.board.specs.Boards.{live, span_run, added, answer_of, board_of}
use Rattle.board.specs.Fronts.{Gathered, whole_of}
use Rattle.board.proofs.Fronts.{live-long, filling-length, filling-all}
use Rattle.board.proofs.inner.offer_sound.Goals as goal

-- ---- what is known once the front is made

module _ {f : Front} {rs union : List Run} (g : Gathered f rs union) where
  whole_is : whole_of f rs ≡ union
  unfolding whole_of
  whole_is = filling-all g.filling

  gathered : Gathered f rs (whole_of f rs)
  gathered = rw whole_is g

  size : length union ≡ f.count + (1 + (length rs - f.next))
  size = omega (arith, filling-length g.filling, length-drop f.next rs, g.inside)

pub overflow_sub-board : goal.overflow_sub-board
overflow_sub-board c = omega (arith, live-long c.args.board.now (omega arith), c.front_of-front.ensures.inside)

pub returns-then-is_empty : goal.returns-then-is_empty
unfolding added
returns-then-is_empty c = rw (← c.is_empty.ensures, c.if-is_empty.true)

pub fill-requires-clause-gathered : goal.fill-requires-clause-gathered
fill-requires-clause-gathered c = gathered c.front_of-front.ensures

pub fill-requires-clause-board_len_bound : goal.fill-requires-clause-board_len_bound
fill-requires-clause-board_len_bound c =
    let long = live-long c.args.board.now (omega arith) in
    rw (whole_is c.front_of-front.ensures) (omega (arith, size c.front_of-front.ensures))

pub returns-then-front-board-ge-BOARD_RUNS : goal.returns-then-front-board-ge-BOARD_RUNS
unfolding added
returns-then-front-board-ge-BOARD_RUNS c =
    let long = live-long c.args.board.now (omega arith) in
    let g = rw c.from.ensures at c.front_of-front.ensures in
    rw (← c.is_empty.ensures, c.if-is_empty.false, lt-leb (length (with_run (span_run c.args.span) (live c.args.board.now))) board_runs (omega (arith, size g)))

pub returns : goal.returns
unfolding added
returns c =
    let long = live-long c.args.board.now (omega arith) in
    let g = rw c.from.ensures at c.front_of-front.ensures in
    rw (← c.is_empty.ensures, c.if-is_empty.false, le-leb (length (with_run (span_run c.args.span) (live c.args.board.now))) board_runs (omega (arith, size g)))
    (ap (answer_of 0) (c.fill.ensures ∙ ap (board_of c.args.board.now.row) (whole_is g)))
