use Rattle.whole.proofs.Machine.{hold, hold-sub, lt-hold}
use Rattle.bresenham.specs.Walk.{turned}
use Rattle.bresenham.proofs.inner.turn.Goals as goal

pub returns-then-p-at : goal.returns-then-p-at
unfolding turned
returns-then-p-at c =
    let q = c.requires.sized in
    let error = hold c.requires.placed.error_small tt in
    simp (lt-hold (hold q.threshold_small tt) error c.if-p-at.true) (rw ((hold-sub error (hold q.loss_small tt) tt).is, c.plus.ensures))

pub returns : goal.returns
unfolding turned
returns c = simp (lt-hold (hold c.requires.sized.threshold_small tt) (hold c.requires.placed.error_small tt) c.if-p-at.false)
