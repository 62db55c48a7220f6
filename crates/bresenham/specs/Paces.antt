-- Where a walk of W2 is when it hands out its n-th point, counted from 0, without walking it.
use Rattle.std.specs.Prelude.{Bool, true, false, cond, List, [], ◌∷◌, ℕ, zero, suc, ◌+◌, ◌*◌, ◌-◌, ◌/◌, ◌≤◌, ltb, ℤ, pos, nat_abs, neg_ℤ, ◌+ℤ◌, ◌*ℤ◌, ◌≤ℤ◌}
use Rattle.std.specs.Int.Signed.{lt_z}
use Rattle.whole.specs.Number.{lesser, greater}
use Rattle.shapes.specs.declared.Point.{Point}
use Rattle.shapes.specs.declared.Line.{Line}
use Rattle.shapes.specs.Shape.{point_of, delta}
use Rattle.bresenham.specs.declared.Parameters.{Parameters}
use Rattle.bresenham.specs.declared.Bresenham.{Bresenham}
use Rattle.bresenham.specs.Walk.{place_of, direction_of, next_of}

-- ---- a walk, a and c being the larger and the smaller absolute delta

-- one more, where a minor move is due
abbrev pub counted : Parameters → Bresenham → ℕ → ℕ
counted p b t = cond (lt_z p.threshold b.error) (suc t) t

-- how many minor moves are made before the n-th point of a walk from b, t being made before b
unfoldable pub turns : ℕ → Parameters → Bresenham → ℕ → ℕ
turns zero p b t = counted p b t
turns (suc n) p b t = turns n p (next_of p b).state (counted p b t)

-- n c and t a are at most half of a from each other: then they are t
pub record Paced (a c n t : ℕ) : Type 0 where
  pub below : t * (2 * a) ≤ n * (2 * c) + (a - 1)
  pub above : n * (2 * c) ≤ t * (2 * a) + a

-- which is one quotient: n c / a to the nearest, halves down
unfoldable pub turns_at : ℕ → ℕ → ℕ → ℕ
turns_at a c n = (n * (2 * c) + (a - 1)) / (2 * a)

-- a number to which each of n major moves adds M, and each of t minor ones m
abbrev pub moved : ℤ → ℤ → ℤ → ℕ → ℕ → ℤ
moved x M m n t = x +ℤ pos n *ℤ M +ℤ pos t *ℤ m

-- where these moves lead to, from q with error 0
unfoldable pub moved_to : Parameters → Point → ℕ → ℕ → Bresenham
moved_to p q n t =
    place_of
    (point_of (moved q.x p.major.x p.minor.x n t) (moved q.y p.major.y p.minor.y n t))
    (moved (pos 0) p.gain (neg_ℤ p.loss) n t)

-- k values of f, from the m-th on
unfoldable pub values_from : (ℕ → Point) → ℕ → ℕ → List Point
values_from f m zero = []
values_from f m (suc k) = f m ∷ values_from f (suc m) k

-- ---- a line

-- how many columns and rows it goes
abbrev pub wide : Line → ℕ
wide l = nat_abs (delta l).x

abbrev pub tall : Line → ℕ
tall l = nat_abs (delta l).y

-- y is major
abbrev pub steep : Line → Bool
steep l = ltb (wide l) (tall l)

-- the place k steps from x, in the direction of d
unfoldable pub steps_from : ℤ → ℤ → ℕ → ℤ
steps_from x d k = x +ℤ pos k *ℤ direction_of d

-- the pixel k columns and r rows from the line's start, toward its end
abbrev pub pixel_at : Line → ℕ → ℕ → Point
pixel_at l k r = point_of (steps_from l.start.x (delta l).x k) (steps_from l.start.y (delta l).y r)

-- how many columns and rows the n-th point is from the start of a line that goes w columns and h rows, y being major or not
abbrev pub across_at : Bool → ℕ → ℕ → ℕ → ℕ
across_at major w h n = cond major (turns_at h w n) n

abbrev pub down_at : Bool → ℕ → ℕ → ℕ → ℕ
down_at major w h n = cond major n (turns_at w h n)

unfoldable pub point_at : Line → ℕ → Point
point_at l n = pixel_at l (across_at (steep l) (wide l) (tall l) n) (down_at (steep l) (wide l) (tall l) n)

-- what makes the pixel k columns and r rows from its start a point of such a line
abbrev pub Passes : Bool → ℕ → ℕ → ℕ → ℕ → Type 0
Passes true w h k r = Paced h w r k
Passes false w h k r = Paced w h k r

-- z is from the one to the other, whichever is the lesser
pub record Between (a b z : ℤ) : Type 0 where
  pub low : lesser a b ≤ℤ z
  pub high : z ≤ℤ greater a b
