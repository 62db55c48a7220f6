use mir.Syntax.{w64}
use mir.Facts.{to_z-of_z}
use Rattle.std.proofs.Common.{rules}
use Rattle.whole.proofs.Machine.{hold}
use Rattle.parallels.specs.Parallels.{yield_of}
use Rattle.parallels.proofs.Room.{accumulator-small, ready-going}
use Rattle.parallels.proofs.inner.next.Goals as goal

pub next_parallel-taken-requires-clause-ready : goal.next_parallel-taken-requires-clause-ready
next_parallel-taken-requires-clause-ready c = rw c.flank_at.ensures (ready-going c.args.state.now.side c.requires.sound c.requires.begun)

pub returns-clause-parallel : goal.returns-clause-parallel
unfolding yield_of
returns-clause-parallel c = rw (c.next_parallel-taken.ensures, c.flank_at.ensures)

pub returns-clause-after : goal.returns-clause-after
unfolding yield_of
returns-clause-after c =
    let accumulator = hold (accumulator-small c.requires.sound c.requires.begun.going) tt in
    rw (c.sides.ensures, c.follow.ensures, to_z-of_z {w = w64} {z = c.grow-accumulator.result} (search rules), c.grow-accumulator.ensures, accumulator.is, c.flank_at-other.ensures, c.swap.ensures, c.next_parallel-taken.ensures, c.flank_at.ensures)
