-- 01, intersection_params.rs: the crossing of two lines, the near-colinear test, and the entries' answers; with 02's K4.
use Rattle.std.specs.Prelude.{Bool, false, ◌&&◌, cond, ℕ, ◌^◌, ℤ, pos, nat_abs, ◌*ℤ◌, Result, Ok, Err}
use Rattle.std.specs.Int.Signed.{lt_z}
use Rattle.whole.specs.Number.{Within, eq_z}
use Rattle.whole.specs.Rounded.{rounded}
use Rattle.whole.specs.declared.Division.{Division}
use Rattle.whole.specs.declared.Division.TheVariants.{Exact, Half, Rounded}
use Rattle.whole.specs.Divided.{division_of}
use Rattle.shapes.specs.declared.Divisions.{Divisions}
use Rattle.shapes.specs.declared.Line.{Line}
use Rattle.shapes.specs.declared.Side.{Side}
use Rattle.shapes.specs.declared.Side.TheVariants.{Left, Right}
use Rattle.shapes.specs.declared.refusals.Refusal.{Refusal}
use Rattle.shapes.specs.declared.refusals.Refusal.TheVariants.{Coordinate}
use Rattle.shapes.specs.Refusals.{coordinate_refused, number_of, bend_of}
use Rattle.shapes.specs.Shape.{point_of, is_line_near, determinant, dot_product, delta}
use Rattle.linear_equation.specs.declared.LinearEquation.{LinearEquation}
use Rattle.linear_equation.specs.Equation.{equation_of, Tested}
use Rattle.intersection_params.specs.declared.Solution.{Solution}
use Rattle.intersection_params.specs.declared.Intersection.{Intersection}
use Rattle.intersection_params.specs.declared.Intersection.TheVariants.{At, Colinear}
use Rattle.intersection_params.specs.declared.Crossed.{Crossed}
use Rattle.intersection_params.specs.declared.Crossed.TheVariants as crossed

-- ---- the true crossing: numerators by Cramer's rule

-- of the equations m · p = c and n · p = d
unfoldable pub cramer_of : LinearEquation → LinearEquation → Solution
cramer_of a b =
    record {
      determinant = determinant a.normal b.normal;
      x = determinant (point_of a.distance b.distance) (point_of a.normal.y b.normal.y);
      y = determinant (point_of a.normal.x b.normal.x) (point_of a.distance b.distance);
    }

unfoldable pub solution_of : Line → Line → Solution
solution_of a b = cramer_of (equation_of a) (equation_of b)

-- a solution that 64 bits hold, with its rounding: one that two lines within line_limit have
pub record Roomy (s : Solution) : Type 0 where
  pub determinant_within : Within s.determinant (2 ^ 31)
  pub x_within : Within s.x (2 ^ 46)
  pub y_within : Within s.y (2 ^ 46)

-- ---- the drawn crossing

-- the outer side is Left exactly when the determinant is negative
unfoldable pub side_of : ℤ → Side
side_of d = cond (lt_z d (pos 0)) Left Right

-- Colinear for a determinant of 0; else each numerator divided by it, and rounded
unfoldable pub drawn_of : Solution → Intersection
drawn_of s =
    cond (eq_z s.determinant (pos 0)) Colinear
    (At (point_of (rounded s.x s.determinant) (rounded s.y s.determinant)) (side_of s.determinant))

unfoldable pub crossing_of : Line → Line → Intersection
crossing_of a b = drawn_of (solution_of a b)

-- K4: each numerator's division by the determinant
unfoldable pub divisions_of : Solution → Divisions
divisions_of s = record { x = division_of s.x s.determinant; y = division_of s.y s.determinant }

-- the squared determinant is strictly below the absolute dot product of the deltas
unfoldable pub nearly_colinear : Line → Line → Bool
nearly_colinear a b =
    lt_z ((solution_of a b).determinant *ℤ (solution_of a b).determinant) (pos (nat_abs (dot_product (delta a) (delta b))))

-- ---- the entries' answers, for a limit k: refusal 4 for a coordinate beyond it, and then 0 in every other field

-- the drawn crossing with its divisions
abbrev pub with_divisions : Divisions → Intersection → Crossed
with_divisions ds (At p s) = crossed.At p s ds
with_divisions ds Colinear = crossed.Colinear

unfoldable pub found_of : Solution → Crossed
found_of s = with_divisions (divisions_of s) (drawn_of s)

-- the refusal; what was found, 1 Colinear, 2 a crossing with its outer side Left, 3 one with Right, and with a refusal the
-- position that comes with it, which is 0 with 4; where; and of each coordinate 1 exact, 2 half way, 3 rounded
pub record CrossingValues : Type 0 where
  pub refusal : ℕ
  pub found : ℕ
  pub x : ℤ
  pub y : ℤ
  pub x_division : ℕ
  pub y_division : ℕ

abbrev pub side_number : Side → ℕ
side_number Left = 2
side_number Right = 3

abbrev pub division_number : Division → ℕ
division_number Exact = 1
division_number Half = 2
division_number Rounded = 3

unfoldable pub crossing_values : Result Crossed Refusal → CrossingValues
crossing_values (Ok (crossed.At p s ds)) =
    record { refusal = 0; found = side_number s; x = p.x; y = p.y; x_division = division_number ds.x; y_division = division_number ds.y }
crossing_values (Ok crossed.Colinear) = record { refusal = 0; found = 1; x = pos 0; y = pos 0; x_division = 0; y_division = 0 }
crossing_values (Err r) = record { refusal = number_of r; found = bend_of r; x = pos 0; y = pos 0; x_division = 0; y_division = 0 }

-- whether both lines are inside the limit
unfoldable pub are_lines_near : ℕ → Line → Line → Bool
are_lines_near k a b = is_line_near k a && is_line_near k b

unfoldable pub crossing_answer : ℕ → Line → Line → CrossingValues
crossing_answer k a b = crossing_values (cond (are_lines_near k a b) (Ok (found_of (solution_of a b))) (Err Coordinate))

unfoldable pub nearly_answer : ℕ → Line → Line → Tested
nearly_answer k a b =
    cond (are_lines_near k a b) (record { refusal = 0; holds = nearly_colinear a b }) (record { refusal = coordinate_refused; holds = false })
