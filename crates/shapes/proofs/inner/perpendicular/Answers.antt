use mathlib.Core.Path.{◌∙◌, ap}
use lib.Dec.{lit≤}
use Rattle.whole.proofs.Machine.{fits_neg, hold-neg}
use Rattle.shapes.specs.Shape.{plus, line_of, perpendicular}
use Rattle.shapes.proofs.Laws.{x-held, y-held, near-delta, near-held, point-held}
use Rattle.shapes.proofs.inner.perpendicular.Goals as goal

pub overflow_sub-turned : goal.overflow_sub-turned
overflow_sub-turned c = rw c.delta-d.ensures (fits_neg (x-held (near-delta c.requires) tt) tt)

pub plus-end-requires-clause-near_2 : goal.plus-end-requires-clause-near_2
plus-end-requires-clause-near_2 c =
    let d = near-delta c.requires in
    rw c.delta-d.ensures (near-held (y-held d tt) (hold-neg (x-held d tt) tt) (lit≤ tt) (lit≤ tt))

pub returns : goal.returns
unfolding perpendicular
returns c =
    let d = near-delta c.requires in
    let start = c.args.line.start in
    ap (line_of start) (c.plus-end.ensures ∙ ap (plus start) (rw c.delta-d.ensures (point-held (y-held d tt) (hold-neg (x-held d tt) tt))))
