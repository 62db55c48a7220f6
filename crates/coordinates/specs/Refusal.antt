-- 01, "What each number says", and K6: 1 to 4 and then 12 for a route's list and width, in this order; and what a list is that none of
-- them refuses.
use Rattle.std.specs.Prelude.{◌≡◌, ◌≢◌, Bool, true, ◌&&◌, ◌||◌, cond, List, [], ◌∷◌, ℕ, ◌*◌, ◌≤◌, eqb, ltb, ℤ, pos, length, get_or}
use Rattle.whole.specs.Number.{Within, is_within}
use Rattle.shapes.specs.Limits.{route_points}
use Rattle.shapes.specs.Refusals.{odd_refused, points_refused, doubled_refused, or_else}
use Rattle.shapes.specs.Strokes.{Thin, stroke_refusal}
use Rattle.coordinates.specs.Points.{point_count}
use Rattle.coordinates.specs.Neighbours.{is_doubled, Doubled}

-- a number is left over
unfoldable pub is_odd : List ℤ → Bool
is_odd cs = ltb (2 * point_count cs) (length cs)

-- more than 256 points, or a closed route of one
unfoldable pub is_miscounted : Bool → ℕ → Bool
is_miscounted closed n = ltb route_points n || (closed && eqb n 1)

-- every number is from -k to k
unfoldable pub are_within : ℕ → List ℤ → Bool
are_within k [] = true
are_within k (c ∷ cs) = is_within k c && are_within k cs

unfoldable pub route_refusal : ℕ → Bool → List ℤ → ℤ → ℕ
route_refusal k closed cs w =
    cond (is_odd cs) odd_refused
    (cond (is_miscounted closed (point_count cs)) points_refused
    (or_else (stroke_refusal w (are_within k cs)) (cond (is_doubled closed cs) doubled_refused 0)))

pub record AllWithin (k : ℕ) (cs : List ℤ) : Type 0 where
  pub within : (i : ℕ) → Within (get_or cs i (pos 0)) k

-- what the table says of a list and a width that nothing refuses
pub record Accepted (k : ℕ) (closed : Bool) (cs : List ℤ) (w : ℤ) : Type 0 where
  pub paired : length cs ≡ 2 * point_count cs
  pub few : point_count cs ≤ route_points
  pub several : closed ≡ true → point_count cs ≢ 1
  pub thin : Thin w
  pub near : AllWithin k cs
  pub single : Doubled closed cs → ⊥
