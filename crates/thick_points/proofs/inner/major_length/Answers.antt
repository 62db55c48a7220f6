use lib.IntN.{nat_abs}
use lib.Signed.{◌≤ℤ◌}
use mir.Syntax.{w64}
use mir.Val.{of_z}
use Rattle.std.proofs.Common.{◌≡◌, ◌≤◌, pos, ap, ◌∙◌, arith}
use Rattle.whole.proofs.Machine.{Hold, hold-as, literal, fits-add, hold-add}
use Rattle.whole.proofs.Steps.{one_more}
use Rattle.shapes.specs.declared.Line.{Line}
use Rattle.shapes.specs.Limits.{line_limit}
use Rattle.shapes.specs.Shape.{LineNear, delta}
use Rattle.shapes.proofs.Laws.{near-delta}
use Rattle.bresenham.specs.declared.Parameters.{Parameters}
use Rattle.bresenham.specs.Walk.{parameters_of}
use Rattle.bresenham.specs.Points.{major_length}
use Rattle.bresenham.proofs.Laws.{threshold-natural}
use Rattle.parallels.specs.Parallels.{delta_limit}
use Rattle.thick_points.proofs.inner.major_length.Goals as goal

-- the threshold is a natural number
natural : (l : Line) → LineNear line_limit l → (pos 0 ≤ℤ (parameters_of l).threshold) × (nat_abs (parameters_of l).threshold ≤ delta_limit)
unfolding parameters_of
natural l h = threshold-natural (delta l) (near-delta h)

larger : (l : Line) {p : Parameters} → LineNear line_limit l → p ≡ parameters_of l → Hold (of_z w64 p.threshold) (parameters_of l).threshold delta_limit
larger l h e = hold-as (ap (λ p. p.threshold) e) (record { bound = (natural l h).1 }) tt

pub overflow_add-result : goal.overflow_add-result
overflow_add-result c = fits-add (larger c.args.line c.requires c.parameters.ensures) (literal 1 tt) tt

pub overflow_cast-result : goal.overflow_cast-result
overflow_cast-result c =
    let one = hold-add (larger c.args.line c.requires c.parameters.ensures) (literal 1 tt) tt in
    let n = natural c.args.line c.requires in
    rw (one.is, one_more n.0) (tt, record { fits = omega (arith, n.1) })

pub returns : goal.returns
unfolding major_length
returns c =
    ap nat_abs ((hold-add (larger c.args.line c.requires c.parameters.ensures) (literal 1 tt) tt).is ∙ one_more (natural c.args.line c.requires).0)
