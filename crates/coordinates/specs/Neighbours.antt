-- 02, K6: a route in which two consecutive points are equal; of a closed one also if the last equals the first.
use Rattle.std.specs.Prelude.{◌≡◌, ◌⊎◌, Bool, true, List, ℕ, ◌+◌, ◌-◌, ◌<◌, ℤ}
use Rattle.whole.specs.Places.{some_from}
use Rattle.shapes.specs.Shape.{same_point}
use Rattle.coordinates.specs.Points.{point_at, point_count, place_after, segments_of}

-- the point at place i and the one that follows it, round the route, are equal
abbrev pub is_repeated : List ℤ → ℕ → Bool
is_repeated cs i = same_point (point_at cs i) (point_at cs (place_after (point_count cs) i))

-- some segment goes from a point to the same point
unfoldable pub is_doubled : Bool → List ℤ → Bool
is_doubled closed cs = some_from (is_repeated cs) 0 (segments_of closed (point_count cs))

-- ---- in K6's words

-- two consecutive points are equal
pub record Repeated (cs : List ℤ) : Type 0 where
  pub place : ℕ
  pub followed : place + 1 < point_count cs
  pub equal : point_at cs place ≡ point_at cs (place + 1)

-- the last point equals the first: a point alone does too, but a closed route of one is refused with 2 before
pub record Returned (cs : List ℤ) : Type 0 where
  pub some : 0 < point_count cs
  pub equal : point_at cs (point_count cs - 1) ≡ point_at cs 0

abbrev pub Doubled : Bool → List ℤ → Type 0
Doubled closed cs = Repeated cs ⊎ ((closed ≡ true) × Returned cs)
