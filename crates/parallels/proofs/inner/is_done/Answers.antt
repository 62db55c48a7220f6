use mir.Syntax.{w64}
use mir.Facts.{to_z-of_z}
use Rattle.std.proofs.Common.{rules}
use Rattle.whole.proofs.Machine.{hold, hold-mul}
use Rattle.parallels.specs.Parallels.{is_done}
use Rattle.parallels.proofs.Room.{accumulator-small}
use Rattle.parallels.proofs.inner.is_done.Goals as goal

pub returns : goal.returns
unfolding is_done
returns c =
    let acc = hold (accumulator-small c.requires.sound c.requires.begun.going) tt in
    rw ((hold-mul acc acc tt).is, to_z-of_z {w = w64} {z = c.args.plan.now.threshold} (search rules))
