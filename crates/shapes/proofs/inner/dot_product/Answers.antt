use Rattle.whole.proofs.Machine.{fits-add, hold-mul, hold-add}
use Rattle.shapes.specs.Shape.{dot_product}
use Rattle.shapes.proofs.Laws.{x-held, y-held}
use Rattle.shapes.proofs.inner.dot_product.Goals as goal

pub overflow_add-result : goal.overflow_add-result
overflow_add-result c =
    let a = c.requires.near in
    let b = c.requires.near_2 in
    fits-add (hold-mul (x-held a tt) (x-held b tt) tt) (hold-mul (y-held a tt) (y-held b tt) tt) tt

pub returns : goal.returns
unfolding dot_product
returns c =
    let a = c.requires.near in
    let b = c.requires.near_2 in
    (hold-add (hold-mul (x-held a tt) (x-held b tt) tt) (hold-mul (y-held a tt) (y-held b tt) tt) tt).is
