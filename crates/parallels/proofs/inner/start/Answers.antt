use Rattle.whole.proofs.Machine.{hold, literal, hold-add, hold-quot}
use Rattle.parallels.specs.Parallels.{parallels_start}
use Rattle.parallels.proofs.Room.{sized}
use Rattle.parallels.proofs.Plans.{ready-fresh}
use Rattle.parallels.proofs.inner.start.Goals as goal

pub next_parallel-skipped-requires-clause-ready : goal.next_parallel-skipped-requires-clause-ready
next_parallel-skipped-requires-clause-ready c = ready-fresh c.swap.result c.requires.sound c.requires.near

pub returns : goal.returns
unfolding parallels_start
returns c =
    let p = sized c.requires.sound.along_fair in
    cc (hold-quot (hold-add (hold p.loss_small tt) (hold p.gain_small tt) tt) (literal 2 tt) tt).is
