-- The numbers of the first i runs are written.
use mathlib.Core.Path.{◌≡◌}
use Prim.Native.Nat.{◌*◌}
use Rattle.board.specs.Runs.{flat}
use Rattle.board.specs.Boards.{live}
use Rattle.board.proofs.Arrays.{pasted}
use Rattle.board.proofs.inner.write_runs.Given as goal

abbrev pub invariant-loop-i : goal.invariant-loop-i
invariant-loop-i l = (l.run-items ≡ live l.board) × (l.out ≡ pasted (flat l.run-items) l.fn.out (2 * l.i))
