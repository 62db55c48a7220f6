use lib.Dec.{lit≤}
use Rattle.shapes.proofs.Laws.{near-more, near-plus, near-delta}
use Rattle.extents.specs.Edges.{closed}
use Rattle.extents.proofs.inner.close.Goals as goal
use Rattle.extents.proofs.inner.close.Goals.{then-edge, else-edge}

pub plus-whole-requires-clause-near_2 : goal.plus-whole-requires-clause-near_2
plus-whole-requires-clause-near_2 c = rw c.delta.ensures (near-more (near-delta c.requires.line_near) (lit≤ tt))

pub minus-end-requires-clause-near : goal.minus-end-requires-clause-near
minus-end-requires-clause-near c = rw (c.plus-whole.ensures, c.delta.ensures) (near-more (near-plus c.requires.near (near-delta c.requires.line_near)) (lit≤ tt))

pub minus-end-requires-clause-near_2 : goal.minus-end-requires-clause-near_2
minus-end-requires-clause-near_2 c = rw c.plus.ensures (near-more (near-plus c.requires.sized.major_near c.requires.sized.minor_near) (lit≤ tt))

pub returns : goal.returns
unfolding closed
returns c =
    elim c.if-edge.branch [
      | then-edge w ↦ rw (w.end-is, w.minus-end.ensures, w.plus.ensures, c.plus-whole.ensures, c.delta.ensures, w.if-edge.true)
      | else-edge w ↦ rw (w.end-is, c.plus-whole.ensures, c.delta.ensures, w.if-edge.false)
    ]
