-- What demand 2 says of a crossing, in words that know no formula: the true crossing is a point of both lines, and the
-- drawn one lies nearest to it; and what 02's K4 says of its coordinates.
use Rattle.std.specs.Prelude.{◌≡◌, ◌≢◌, ◌↔◌, ℤ, pos, ◌-ℤ◌, ◌*ℤ◌, ◌<ℤ◌}
use Rattle.whole.specs.Rounded.{Nearest}
use Rattle.whole.specs.Divided.{ComesOut}
use Rattle.shapes.specs.declared.Point.{Point}
use Rattle.shapes.specs.declared.Divisions.{Divisions}
use Rattle.shapes.specs.declared.Line.{Line}
use Rattle.shapes.specs.declared.Side.{Side}
use Rattle.shapes.specs.declared.Side.TheVariants.{Left}
use Rattle.shapes.specs.Shape.{point_of, determinant, delta}
use Rattle.intersection_params.specs.declared.Solution.{Solution}

-- the determinant of the two directions
abbrev pub bend : Line → Line → ℤ
bend a b = determinant (delta a) (delta b)

-- the point (x / d, y / d) of a solution lies on a line: the way to it from the line's start, d times as long, runs along the line
abbrev pub OnLine : Line → Solution → Type 0
OnLine l t = determinant (delta l) (point_of (t.x -ℤ t.determinant *ℤ l.start.x) (t.y -ℤ t.determinant *ℤ l.start.y)) ≡ pos 0

pub record TrueCrossing (a b : Line) (t : Solution) : Type 0 where
  pub some : t.determinant ≢ pos 0
  pub on_first : OnLine a t
  pub on_second : OnLine b t

-- two solutions whose determinants are not 0 are the same point
pub record SamePoint (t u : Solution) : Type 0 where
  pub same_x : t.x *ℤ u.determinant ≡ u.x *ℤ t.determinant
  pub same_y : t.y *ℤ u.determinant ≡ u.y *ℤ t.determinant

-- p is drawn with the outer side s: the directions differ, each coordinate is the nearest whole number to the true one,
-- halves away from zero, and the side is Left exactly when the directions' determinant is negative
pub record IsDrawn (a b : Line) (p : Point) (s : Side) : Type 0 where
  pub crosses : bend a b ≢ pos 0
  pub nearest_x : (t : Solution) → TrueCrossing a b t → Nearest t.x t.determinant p.x
  pub nearest_y : (t : Solution) → TrueCrossing a b t → Nearest t.y t.determinant p.y
  pub left : (s ≡ Left) ↔ (bend a b <ℤ pos 0)

-- the coordinates of the true crossing come out so: whole numbers, half way between two, or neither
pub record IsDivided (a b : Line) (ds : Divisions) : Type 0 where
  pub x_comes_out : (t : Solution) → TrueCrossing a b t → ComesOut ds.x t.x t.determinant
  pub y_comes_out : (t : Solution) → TrueCrossing a b t → ComesOut ds.y t.y t.determinant

-- a point of whole coordinates as a solution
abbrev pub whole_point : Point → Solution
whole_point p = record { determinant = pos 1; x = p.x; y = p.y }
