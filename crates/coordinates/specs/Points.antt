-- 01: points come as one list of numbers, x and y in turn.
use Rattle.std.specs.Prelude.{Bool, cond, List, [], ◌∷◌, ℕ, ◌+◌, ◌-◌, ◌*◌, ◌/◌, eqb, ℤ, pos, length, get_or}
use Rattle.shapes.specs.declared.Point.{Point}
use Rattle.shapes.specs.Shape.{point_of}

unfoldable pub point_at : List ℤ → ℕ → Point
point_at cs i = point_of (get_or cs (2 * i) (pos 0)) (get_or cs (2 * i + 1) (pos 0))

-- the points in turn; a number that is left over is none
unfoldable pub points_of : List ℤ → List Point
points_of [] = []
points_of (x ∷ []) = []
points_of (x ∷ y ∷ cs) = point_of x y ∷ points_of cs

-- the last two of the points p, q and those that follow
unfoldable pub last_two : {A : Type 0} → (Point → Point → A) → Point → Point → List Point → A
last_two f p q [] = f p q
last_two f p q (r ∷ rs) = last_two f q r rs

-- the places round a closed route of n points
unfoldable pub place_after : ℕ → ℕ → ℕ
place_after n i = cond (eqb (i + 1) n) 0 (i + 1)

unfoldable pub place_before : ℕ → ℕ → ℕ
place_before n i = cond (eqb i 0) (n - 1) (i - 1)

-- n points give n - 1 segments of an open route, none where n is 0, and n of a closed one
unfoldable pub segments_of : Bool → ℕ → ℕ
segments_of closed n = cond closed n (n - 1)

-- a number that is left over is no point
unfoldable pub point_count : List ℤ → ℕ
point_count cs = length cs / 2
