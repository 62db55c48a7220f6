use Rattle.whole.proofs.Machine.{hold, hold-add}
use Rattle.parallels.specs.Parallels.{grown}
use Rattle.parallels.proofs.Room.{sized}
use Rattle.parallels.proofs.inner.grow.Goals as goal

pub returns-then-extra : goal.returns-then-extra
unfolding grown
returns-then-extra c =
    simp (c.if-extra.true, (hold-add (hold c.requires.within tt) (hold (sized c.requires.sound.across_fair).gain_small tt) tt).is)

pub returns : goal.returns
unfolding grown
returns c =
    simp (c.if-extra.false, (hold-add (hold c.requires.within tt) (hold (sized c.requires.sound.across_fair).loss_small tt) tt).is)
