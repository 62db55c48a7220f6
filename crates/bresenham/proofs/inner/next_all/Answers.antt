use Rattle.whole.proofs.Machine.{hold, hold-add, hold-sub}
use Rattle.bresenham.specs.Walk.{next_all}
use Rattle.bresenham.proofs.inner.next_all.Goals as goal
use Rattle.bresenham.proofs.inner.next_all.Goals.{then-extra, else-extra}

pub returns : goal.returns
unfolding next_all
returns c =
    let q = c.requires.sized in
    let error = hold c.requires.placed.error_small tt in
    let least = (hold q.threshold_small tt).is in
    elim c.if-extra.branch [
      | then-extra w ↦
          let due = rw (error.is, least) at w.if-extra.true in
          rw (w.state-is, (hold-sub error (hold q.loss_small tt) tt).is, error.is, least, due, w.plus.ensures)
      | else-extra w ↦
          let due = rw (error.is, least) at w.if-extra.false in
          rw (w.state-is, (hold-add error (hold q.gain_small tt) tt).is, error.is, least, due, w.plus-else-extra.ensures)
    ]
