-- 01, linear_equation.rs: the equation of a line, the distance of a point, the side test, and the entries' answers.
use Rattle.std.specs.Prelude.{Bool, false, ◌&&◌, cond, ℕ, ◌^◌, ℤ, pos, ◌-ℤ◌, Result, Ok, Err}
use Rattle.std.specs.Int.Signed.{le_z}
use Rattle.whole.specs.Number.{Within}
use Rattle.shapes.specs.declared.Point.{Point}
use Rattle.shapes.specs.declared.Line.{Line}
use Rattle.shapes.specs.declared.Side.{Side}
use Rattle.shapes.specs.declared.Side.TheVariants.{Left, Right}
use Rattle.shapes.specs.declared.refusals.Refusal.{Refusal}
use Rattle.shapes.specs.Refusals.{coordinate_refused, number_of}
use Rattle.shapes.specs.Shape.{Near, point_of, is_near, is_line_near, quarter_turn, dot_product, delta}
use Rattle.linear_equation.specs.declared.LinearEquation.{LinearEquation}

-- the normal of a line is its delta turned by W1, and its distance from (0,0) is its start's dot product with the normal
unfoldable pub equation_of : Line → LinearEquation
equation_of l = record { normal = quarter_turn (delta l); distance = dot_product l.start (quarter_turn (delta l)) }

unfoldable pub distance_of : LinearEquation → Point → ℤ
distance_of e p = dot_product p e.normal -ℤ e.distance

-- Left for a distance ≤ 0, Right for ≥ 0: both on the line
abbrev pub side_holds : Side → ℤ → Bool
side_holds Left d = le_z d (pos 0)
side_holds Right d = le_z (pos 0) d

unfoldable pub is_on_side : LinearEquation → Point → Side → Bool
is_on_side e p s = side_holds s (distance_of e p)

-- an equation that 64 bits hold, with the distances of points: one that a line within line_limit has
pub record Tame (e : LinearEquation) : Type 0 where
  pub normal_near : Near (2 ^ 15) e.normal
  pub distance_within : Within e.distance (2 ^ 30)

-- ---- the entries' answers as numbers and values, for a limit k: refusal 4 for a coordinate beyond it, and then 0 in every other field

pub record Equated : Type 0 where
  pub refusal : ℕ
  pub equation : LinearEquation

pub record Measured : Type 0 where
  pub refusal : ℕ
  pub distance : ℤ

pub record Tested : Type 0 where
  pub refusal : ℕ
  pub holds : Bool

abbrev pub equation_values : Result LinearEquation Refusal → Equated
equation_values (Ok e) = record { refusal = 0; equation = e }
equation_values (Err r) = record { refusal = number_of r; equation = record { normal = point_of (pos 0) (pos 0); distance = pos 0 } }

abbrev pub distance_values : Result ℤ Refusal → Measured
distance_values (Ok d) = record { refusal = 0; distance = d }
distance_values (Err r) = record { refusal = number_of r; distance = pos 0 }

abbrev pub side_values : Result Bool Refusal → Tested
side_values (Ok b) = record { refusal = 0; holds = b }
side_values (Err r) = record { refusal = number_of r; holds = false }

unfoldable pub equation_answer : ℕ → Line → Equated
equation_answer k l =
    cond (is_line_near k l) (record { refusal = 0; equation = equation_of l })
    (record { refusal = coordinate_refused; equation = record { normal = point_of (pos 0) (pos 0); distance = pos 0 } })

-- whether a line and a point are both inside the limit
unfoldable pub are_inside : ℕ → Line → Point → Bool
are_inside k l p = is_line_near k l && is_near k p

unfoldable pub distance_answer : ℕ → Line → Point → Measured
distance_answer k l p =
    cond (are_inside k l p) (record { refusal = 0; distance = distance_of (equation_of l) p })
    (record { refusal = coordinate_refused; distance = pos 0 })

unfoldable pub side_answer : ℕ → Line → Point → Side → Tested
side_answer k l p s =
    cond (are_inside k l p) (record { refusal = 0; holds = is_on_side (equation_of l) p s })
    (record { refusal = coordinate_refused; holds = false })
