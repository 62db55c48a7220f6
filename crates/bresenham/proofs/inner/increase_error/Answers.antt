use Rattle.whole.proofs.Machine.{hold, hold-add, hold-sub}
use Rattle.bresenham.specs.Walk.{increased}
use Rattle.bresenham.proofs.inner.increase_error.Goals as goal

pub returns-then-carry : goal.returns-then-carry
unfolding increased
returns-then-carry c =
    let q = c.requires.sized in
    let moved = hold-add (hold c.requires.within tt) (hold q.gain_small tt) tt in
    let due = rw (moved.is, (hold q.threshold_small tt).is) at c.if-carry.true in
    rw ((hold-sub moved (hold q.loss_small tt) tt).is, moved.is, (hold q.threshold_small tt).is, due)

pub returns-else-carry : goal.returns-else-carry
unfolding increased
returns-else-carry c =
    let q = c.requires.sized in
    let moved = hold-add (hold c.requires.within tt) (hold q.gain_small tt) tt in
    let due = rw (moved.is, (hold q.threshold_small tt).is) at c.if-carry.false in
    rw (moved.is, (hold q.threshold_small tt).is, due)
