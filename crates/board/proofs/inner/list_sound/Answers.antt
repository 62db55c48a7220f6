use Prim.Native.Nat.{◌*◌}
use native.Mathlib.Omega.{arith}
use borrow.Author.Rules.{rules}
use borrow.Author.Tests.{le-leb, lt-leb}
use lib.ListN.{length}
use mir.Syntax.{w64}
use mir.Facts.{to_z-of_z}
use Rattle.board.specs.Boards.{live, told, told_to}
use Rattle.board.proofs.Fronts.{live-long}
use Rattle.board.proofs.inner.list_sound.Goals as goal

pub returns-then-out-board : goal.returns-then-out-board
unfolding told told_to
returns-then-out-board c =
    let long = live-long c.args.board.now (omega (arith, c.requires.few)) in
    rw (lt-leb (2 * length (live c.args.board.now)) (length c.args.out.now) (omega arith)) (search rules)

pub returns : goal.returns
unfolding told told_to
returns c =
    let long = live-long c.args.board.now (omega (arith, c.requires.few)) in
    rw (le-leb (2 * length (live c.args.board.now)) (length c.args.out.now) (omega arith))
    (cc (to_z-of_z {w = w64} {z = c.total_of.result} (search rules)), c.write_runs.ensures)
