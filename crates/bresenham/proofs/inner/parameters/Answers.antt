use lib.Dec.{lit≤}
use Rattle.shapes.proofs.Laws.{near-more, near-delta}
use Rattle.std.proofs.Common.{◌∙◌, ap}
use Rattle.bresenham.specs.Walk.{parameters_along, parameters_of}
use Rattle.bresenham.proofs.inner.parameters.Goals as goal

pub parameters_along-requires : goal.parameters_along-requires
parameters_along-requires c = rw c.delta.ensures (near-more (near-delta c.requires) (lit≤ tt))

pub returns : goal.returns
unfolding parameters_of
returns c = c.parameters_along.ensures ∙ ap parameters_along c.delta.ensures
