-- What inner functions ask is met: solutions of small lines are small, and what is drawn has a determinant. Assumes nothing.
use mathlib.Core.Path.{◌≡◌}
use mathlib.Core.Logic.{◌≢◌}
use mathlib.Core.Bool.{true}
use Prim.Native.Nat.{ℕ}
use native.Mathlib.Omega.{arith}
use lib.IntN.{pos}
use Rattle.whole.proofs.Tests.{and_left, and_right}
use Rattle.shapes.specs.declared.Point.{Point}
use Rattle.shapes.specs.declared.Line.{Line}
use Rattle.shapes.specs.declared.Side.{Side}
use Rattle.shapes.specs.Limits.{crossing_limit, line_limit}
use Rattle.shapes.specs.Shape.{LineNear, is_line_near}
use Rattle.shapes.proofs.Laws.{within-determinant}
use Rattle.linear_equation.specs.declared.LinearEquation.{LinearEquation}
use Rattle.linear_equation.specs.Equation.{Tame}
use Rattle.linear_equation.proofs.Laws.{tame, line-room}
use Rattle.intersection_params.specs.declared.Solution.{Solution}
use Rattle.intersection_params.specs.declared.Intersection.TheVariants.{At, Colinear}
use Rattle.intersection_params.specs.Crossing.{Roomy, cramer_of, solution_of, drawn_of, are_lines_near}

pub roomy : {a b : LinearEquation} → Tame a → Tame b → Roomy (cramer_of a b)
unfolding cramer_of
roomy p q =
    record {
      determinant_within = within-determinant p.normal_near q.normal_near;
      x_within = within-determinant (record { x_near = p.distance_within; y_near = q.distance_within }) (record { x_near = p.normal_near.y_near; y_near = q.normal_near.y_near });
      y_within = within-determinant (record { x_near = p.normal_near.x_near; y_near = q.normal_near.x_near }) (record { x_near = p.distance_within; y_near = q.distance_within });
    }

pub solution-roomy : {a b : Line} → LineNear line_limit a → LineNear line_limit b → Roomy (solution_of a b)
unfolding solution_of
solution-roomy h i = roomy (tame h) (tame i)

-- a solution that is drawn at a point
pub some-drawn : (s : Solution) {p : Point} {t : Side} → drawn_of s ≡ At p t → s.determinant ≢ pos 0
unfolding drawn_of
some-drawn s e z =
    let none : drawn_of s ≡ Colinear = simp z in
    let n : ◌≡◌ {A = ℕ} 0 1 = cc in
    omega arith

-- what passes the entries' tests is small enough
pub near_first : (a b : Line) → are_lines_near crossing_limit a b ≡ true → LineNear line_limit a
unfolding are_lines_near
near_first a b e = line-room a (and_left (is_line_near crossing_limit a) (is_line_near crossing_limit b) e)

pub near-second : (a b : Line) → are_lines_near crossing_limit a b ≡ true → LineNear line_limit b
unfolding are_lines_near
near-second a b e = line-room b (and_right (is_line_near crossing_limit a) (is_line_near crossing_limit b) e)

-- what lets the entries call what asks for bounds
pub ruleset inside = (near_first, near-second, solution-roomy)
