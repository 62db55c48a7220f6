use Rattle.whole.proofs.Machine.{fits_sub, hold-mul, hold-sub}
use Rattle.shapes.specs.Shape.{determinant}
use Rattle.shapes.proofs.Laws.{x-held, y-held}
use Rattle.shapes.proofs.inner.determinant.Goals as goal

pub overflow_sub-result : goal.overflow_sub-result
overflow_sub-result c =
    let a = c.requires.near in
    let b = c.requires.near_2 in
    fits_sub (hold-mul (x-held a tt) (y-held b tt) tt) (hold-mul (y-held a tt) (x-held b tt) tt) tt

pub returns : goal.returns
unfolding determinant
returns c =
    let a = c.requires.near in
    let b = c.requires.near_2 in
    (hold-sub (hold-mul (x-held a tt) (y-held b tt) tt) (hold-mul (y-held a tt) (x-held b tt) tt) tt).is
