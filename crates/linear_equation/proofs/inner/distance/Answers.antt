use Rattle.whole.proofs.Machine.{hold, hold-as, fits_sub, hold-sub}
use Rattle.shapes.proofs.Laws.{within-dot}
use Rattle.linear_equation.specs.Equation.{distance_of}
use Rattle.linear_equation.proofs.inner.distance.Goals as goal

pub overflow_sub-result : goal.overflow_sub-result
overflow_sub-result c =
    fits_sub (hold-as c.dot_product.ensures (within-dot c.requires.near c.requires.tame.normal_near) tt) (hold c.requires.tame.distance_within tt) tt

pub returns : goal.returns
unfolding distance_of
returns c =
    (hold-sub (hold-as c.dot_product.ensures (within-dot c.requires.near c.requires.tame.normal_near) tt) (hold c.requires.tame.distance_within tt) tt).is
