use Rattle.whole.proofs.Machine.{hold}
use Rattle.parallels.specs.Parallels.{turn_of}
use Rattle.parallels.proofs.Room.{error_small}
use Rattle.parallels.proofs.inner.turn.Goals as goal

pub returns-then-met : goal.returns-then-met
unfolding turn_of
returns-then-met c =
    let error = hold (error_small c.requires.sound.along_fair c.requires.ready.steady.bounded) tt in
    rw (c.extra_turn.ensures, c.bend.ensures, error.is, c.is_falling-falling.ensures, ← c.across-met.ensures, c.if-met.true)

pub returns : goal.returns
unfolding turn_of
returns c =
    let error = hold (error_small c.requires.sound.along_fair c.requires.ready.steady.bounded) tt in
    rw (c.normal_turn.ensures, error.is, ← c.across-met.ensures, c.if-met.false)
