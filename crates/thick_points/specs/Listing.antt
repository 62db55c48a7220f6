-- The parallels of a line and its thick points, as numbers in a lent list.
use Rattle.std.specs.Prelude.{Bool, cond, List, [], ◌∷◌, ◌++◌, ℕ, ◌+◌, ◌*◌, ◌-◌, ◌≤◌, ltb, eqb, ℤ, pos, nat_abs, neg_ℤ, ◌+ℤ◌, length, drop, ◌≤ℤ◌, Result, Ok, Err}
use Rattle.shapes.specs.declared.Point.{Point}
use Rattle.shapes.specs.declared.Line.{Line}
use Rattle.shapes.specs.declared.Offset.{Offset}
use Rattle.shapes.specs.declared.Offset.TheVariants as offset
use Rattle.shapes.specs.declared.refusals.Refusal.{Refusal}
use Rattle.shapes.specs.Refusals.{room_refused, or_else, number_of}
use Rattle.shapes.specs.Shape.{is_line_near}
use Rattle.shapes.specs.Strokes.{stroke_refusal}
use Rattle.bresenham.specs.declared.Parameters.{Parameters}
use Rattle.bresenham.specs.declared.Bresenham.{Bresenham}
use Rattle.bresenham.specs.Points.{points_from, major_length}
use Rattle.parallels.specs.declared.Parallel.{Parallel}
use Rattle.parallels.specs.Parallels.{plan_of, parallels_of}
use Rattle.thick_points.specs.declared.inner.Telling.{Telling}
use Rattle.thick_points.specs.declared.inner.Telling.TheVariants.{Start, Points}

-- ---- the points of a thick line

-- an Extra parallel has one point less than the line
abbrev pub length_on : ℕ → Bool → ℕ
length_on n extra = n - cond extra 1 0

unfoldable pub thick_from : ℕ → Parameters → List Parallel → List Point
thick_from n along [] = []
thick_from n along (p ∷ ps) = points_from (length_on n p.extra) along p.start ++ thick_from n along ps

-- the Rust's ThickPoints, on both sides of the line
unfoldable pub thick_points_of : Line → ℤ → List Point
thick_points_of l width = thick_from (major_length l) (plan_of l width offset.None).parallel (parallels_of l width offset.None)

-- ---- as numbers

-- of a parallel: x and y of its start, the error that it starts with, and 1 where it is Extra, else 0
abbrev pub numbers_of : Parallel → List ℤ
numbers_of p = p.start.point.x ∷ p.start.point.y ∷ p.start.error ∷ cond p.extra (pos 1) (pos 0) ∷ []

unfoldable pub parallel_numbers : List Parallel → List ℤ
parallel_numbers [] = []
parallel_numbers (p ∷ ps) = numbers_of p ++ parallel_numbers ps

-- of a point: x and y
unfoldable pub point_numbers : List Point → List ℤ
point_numbers [] = []
point_numbers (q ∷ qs) = q.x ∷ q.y ∷ point_numbers qs

-- ---- in a lent list

-- the numbers first, and then what was there
unfoldable pub listed : List ℤ → List ℤ → List ℤ
listed out ns = ns ++ drop (length ns) out

-- 3, then 4, then 8 where the list is too short
unfoldable pub list_refusal : ℕ → Line → ℤ → List ℤ → List ℤ → ℕ
list_refusal k l width ns out = or_else (stroke_refusal width (is_line_near k l)) (cond (ltb (length out) (length ns)) room_refused 0)

-- the answer as numbers: a refusal, or 0 and how many were written
pub record Listed : Type 0 where
  pub refusal : ℕ
  pub count : ℕ

abbrev pub listed_values : Result ℕ Refusal → Listed
listed_values (Ok count) = record { refusal = 0; count = count }
listed_values (Err r) = record { refusal = number_of r; count = 0 }

-- a refusal writes nothing and counts nothing
unfoldable pub answered : ℕ → ℕ → Listed
answered n count = record { refusal = n; count = cond (eqb n 0) count 0 }

unfoldable pub written : ℕ → List ℤ → List ℤ → List ℤ
written n ns out = cond (eqb n 0) (listed out ns) out

-- the two entries
unfoldable pub parallels_refusal : ℕ → Line → ℤ → Offset → List ℤ → ℕ
parallels_refusal k l width offset out = list_refusal k l width (parallel_numbers (parallels_of l width offset)) out

unfoldable pub points_refusal : ℕ → Line → ℤ → List ℤ → ℕ
points_refusal k l width out = list_refusal k l width (point_numbers (thick_points_of l width)) out

-- ---- the one listing below both: what it tells of a parallel, where the line has n points

abbrev pub told_of : Telling → ℕ → Parameters → Parallel → List ℤ
told_of Start n along p = numbers_of p
told_of Points n along p = point_numbers (points_from (length_on n p.extra) along p.start)

-- in how many numbers
abbrev pub size_of : Telling → ℕ → Bool → ℕ
size_of Start n extra = 4
size_of Points n extra = 2 * length_on n extra

unfoldable pub told_all : Telling → ℕ → Parameters → List Parallel → List ℤ
told_all telling n along [] = []
told_all telling n along (p ∷ ps) = told_of telling n along p ++ told_all telling n along ps

-- of all parallels of a line
unfoldable pub told_numbers : Telling → Line → ℤ → Offset → List ℤ
told_numbers telling l width offset = told_all telling (major_length l) (plan_of l width offset).parallel (parallels_of l width offset)

-- ---- what a walk of n points asks, so that nothing wraps

abbrev pub walk_limit : ℕ
walk_limit = 1000000

pub record Walk (n : ℕ) (along : Parameters) (b : Bresenham) : Type 0 where
  pub x_room : nat_abs b.point.x + 2 * n ≤ walk_limit
  pub y_room : nat_abs b.point.y + 2 * n ≤ walk_limit
  pub low : neg_ℤ along.threshold ≤ℤ b.error
  pub high : b.error ≤ℤ (along.threshold +ℤ along.gain)
