-- What is left of the answer is what the grown run makes of the runs that are left.
use mathlib.Core.Path.{◌≡◌}
use Prim.Native.Nat.{◌≤◌}
use lib.ListN.{drop}
use Rattle.board.specs.Runs.{with_run}
use Rattle.board.specs.Boards.{live}
use Rattle.board.specs.Fronts.{Filling}
use Rattle.board.proofs.inner.front_of.Given as goal

abbrev pub invariant-loop-other : goal.invariant-loop-other
invariant-loop-other l = record {
  all : l.other-items ≡ live l.board;
  next : l.front.next ≡ l.other-index;
  fewer : l.front.count ≤ l.front.next;
  filling : Filling l.front.runs l.front.count (with_run l.front.run (drop l.other-index l.other-items)) (with_run l.fn.run l.other-items);
}
