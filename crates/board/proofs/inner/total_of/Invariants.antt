-- The sum, with the total of the runs that are left, is the whole total.
use mathlib.Core.Path.{◌≡◌}
use Prim.Native.Nat.{◌*◌}
use lib.IntN.{◌+ℤ◌}
use lib.ListN.{drop}
use Rattle.whole.specs.Number.{Within}
use Rattle.board.specs.Runs.{total}
use Rattle.board.specs.Boards.{live}
use Rattle.board.proofs.Sound.{longest}
use Rattle.board.proofs.inner.total_of.Given as goal

abbrev pub invariant-loop-run : goal.invariant-loop-run
invariant-loop-run l = record {
  all : l.run-items ≡ live l.board;
  small : Within l.total (longest * l.run-index);
  sum : l.total +ℤ total (drop l.run-index l.run-items) ≡ total l.run-items;
}
