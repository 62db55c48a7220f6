use Rattle.whole.proofs.Machine.{hold, hold-add, hold-sub, hold-neg}
use Rattle.bresenham.specs.Walk.{previous_all}
use Rattle.bresenham.proofs.inner.previous_all.Goals as goal
use Rattle.bresenham.proofs.inner.previous_all.Goals.{then-extra, else-extra}

pub returns : goal.returns
unfolding previous_all
returns c =
    let q = c.requires.sized in
    let error = hold c.requires.placed.error_small tt in
    let least = (hold-neg (hold q.threshold_small tt) tt).is in
    elim c.if-extra.branch [
      | then-extra w ↦
          let due = rw (error.is, least) at w.if-extra.true in
          rw (w.state-is, (hold-add error (hold q.loss_small tt) tt).is, error.is, least, due, w.minus.ensures)
      | else-extra w ↦
          let due = rw (error.is, least) at w.if-extra.false in
          rw (w.state-is, (hold-sub error (hold q.gain_small tt) tt).is, error.is, least, due, w.minus-else-extra.ensures)
    ]
