use Prim.Native.Nat.{◌^◌}
use mir.Syntax.{w64}
use mir.Val.{of_z}
use Rattle.std.proofs.Common.{◌≡◌, ℤ, ◌∙◌}
use Rattle.whole.proofs.Machine.{Hold, hold, hold-as, literal, fits_neg, fits-mul, hold-neg, hold-mul}
use Rattle.shapes.specs.declared.Point.{Point}
use Rattle.shapes.specs.Shape.{Near, squared_length}
use Rattle.shapes.proofs.Laws.{x-held, y-held, point-held, within-dot}
use Rattle.bresenham.specs.declared.Parameters.{Parameters}
use Rattle.bresenham.specs.Walk.{parameters_along}
use Rattle.bresenham.proofs.Laws.{major_unit}
use Rattle.parallels.proofs.Room.{equal-points}
use Rattle.parallels.specs.Parallels.{delta_limit, thickness, plan_along}
use Rattle.parallels.proofs.inner.plan_along.Goals as goal

-- the squared length, in its bits
length : {d : Point} {r : ℤ} → Near delta_limit d → r ≡ squared_length d → Hold (of_z w64 r) (squared_length d) (2 ^ 31)
unfolding squared_length
length h e = hold-as e (within-dot h h) tt

-- the major step, in its bits
major-x : (d : Point) {p : Parameters} → p ≡ parameters_along d → Hold (of_z w64 p.major.x) (parameters_along d).major.x 1
major-x d e = rw e (x-held (major_unit d) tt)

major-y : (d : Point) {p : Parameters} → p ≡ parameters_along d → Hold (of_z w64 p.major.y) (parameters_along d).major.y 1
major-y d e = rw e (y-held (major_unit d) tt)

pub overflow_sub-opposite : goal.overflow_sub-opposite
overflow_sub-opposite c = fits_neg (major-x c.args.d c.parameters_along-parallel.ensures) tt

pub overflow_sub-opposite-2 : goal.overflow_sub-opposite-2
overflow_sub-opposite-2 c = fits_neg (major-y c.args.d c.parameters_along-parallel.ensures) tt

pub overflow_mul-result : goal.overflow_mul-result
overflow_mul-result c =
    let twice = hold-mul (literal 2 tt) (hold c.requires.within tt) tt in
    fits-mul twice twice tt

pub overflow_mul-result-2 : goal.overflow_mul-result-2
overflow_mul-result-2 c =
    let twice = hold-mul (literal 2 tt) (hold c.requires.within tt) tt in
    fits-mul (hold-mul twice twice tt) (length c.requires.near c.squared_length.ensures) tt

pub returns : goal.returns
unfolding plan_along thickness
returns c =
    let near = c.requires.near in
    let twice = hold-mul (literal 2 tt) (hold c.requires.within tt) tt in
    let along = c.parameters_along-parallel.ensures in
    let turned = point-held (y-held near tt) (hold-neg (x-held near tt) tt) in
    let opposite = point-held (hold-neg (major-x c.args.d along) tt) (hold-neg (major-y c.args.d along) tt) in
    let flip = c.eq.ensures ∙ equal-points c.parameters_along-perpendicular.result.minor _ in
    rw ((hold-mul (hold-mul twice twice tt) (length near c.squared_length.ensures) tt).is, flip, c.parameters_along-perpendicular.ensures, turned, opposite, along)
