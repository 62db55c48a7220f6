use Rattle.whole.proofs.Machine.{hold, fits-add, hold-add, hold-sub, hold-neg}
use Rattle.bresenham.specs.Walk.{decreased}
use Rattle.bresenham.proofs.inner.decrease_error.Goals as goal

pub overflow_add-error : goal.overflow_add-error
overflow_add-error c =
    let q = c.requires.sized in
    fits-add (hold-sub (hold c.requires.within tt) (hold q.gain_small tt) tt) (hold q.loss_small tt) tt

pub returns-then-carry : goal.returns-then-carry
unfolding decreased
returns-then-carry c =
    let q = c.requires.sized in
    let moved = hold-sub (hold c.requires.within tt) (hold q.gain_small tt) tt in
    let least = (hold-neg (hold q.threshold_small tt) tt).is in
    let due = rw (moved.is, least) at c.if-carry.true in
    rw ((hold-add moved (hold q.loss_small tt) tt).is, moved.is, least, due)

pub returns-else-carry : goal.returns-else-carry
unfolding decreased
returns-else-carry c =
    let q = c.requires.sized in
    let moved = hold-sub (hold c.requires.within tt) (hold q.gain_small tt) tt in
    let least = (hold-neg (hold q.threshold_small tt) tt).is in
    let due = rw (moved.is, least) at c.if-carry.false in
    rw (moved.is, least, due)
