use mir.Syntax.{w64}
use mir.Facts.{to_z-of_z}
use Rattle.std.proofs.Common.{rules}
use Rattle.whole.proofs.Machine.{hold}
use Rattle.parallels.specs.Parallels.{bent}
use Rattle.parallels.proofs.inner.bend.Goals as goal

pub returns-then-falling : goal.returns-then-falling
unfolding bent
returns-then-falling c =
    rw (c.if-falling.true, to_z-of_z {w = w64} {z = c.decrease_error-down.result.error} (search rules), c.decrease_error-down.ensures, (hold c.requires.within tt).is)

pub returns : goal.returns
unfolding bent
returns c =
    rw (c.if-falling.false, to_z-of_z {w = w64} {z = c.increase_error-up.result.error} (search rules), c.increase_error-up.ensures, (hold c.requires.within tt).is)
