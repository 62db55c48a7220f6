-- 01, "What each number says": 3 for a width, then 4 for coordinates.
use Rattle.std.specs.Prelude.{Bool, ◌&&◌, cond, ℕ, ℤ, pos, ◌≤ℤ◌}
use Rattle.std.specs.Int.Signed.{le_z}
use Rattle.shapes.specs.Limits.{width_limit}
use Rattle.shapes.specs.Refusals.{width_refused, coordinate_refused}

-- a width from 0 to 64
pub record Thin (w : ℤ) : Type 0 where
  pub low : pos 0 ≤ℤ w
  pub high : w ≤ℤ pos width_limit

-- the test for that
unfoldable pub is_thin : ℤ → Bool
is_thin w = le_z (pos 0) w && le_z w (pos width_limit)

-- 3: width outside 0 to 64; 4: a coordinate outside its limit, where `near` tells whether all are inside; 0: neither
unfoldable pub stroke_refusal : ℤ → Bool → ℕ
stroke_refusal w near = cond (is_thin w) (cond near 0 coordinate_refused) width_refused
