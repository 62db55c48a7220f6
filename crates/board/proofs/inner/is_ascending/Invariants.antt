-- What is left from here passes where the whole does.
use mathlib.Core.Path.{◌≡◌}
use lib.ListN.{drop}
use Rattle.board.specs.Runs.{is_ascending, edge}
use Rattle.board.specs.Boards.{live}
use Rattle.board.proofs.inner.is_ascending.Given as goal

abbrev pub invariant-loop-run : goal.invariant-loop-run
invariant-loop-run l = (l.run-items ≡ live l.board) × (is_ascending l.limit l.last (drop l.run-index l.run-items) ≡ is_ascending l.limit (edge l.limit) l.run-items)
