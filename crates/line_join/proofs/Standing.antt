-- Joins of points know of no list: their position is 0 until it is set, and nothing else asks for it. Assumes nothing.
use mathlib.Core.Path.{◌≡◌, refl, sym, ap}
use Prim.Native.Nat.{ℕ}
use lib.IntN.{ℤ}
use Rattle.whole.proofs.Tests.{either}
use Rattle.shapes.specs.declared.Point.{Point}
use Rattle.shapes.specs.declared.Side.{Side}
use Rattle.shapes.specs.declared.Offset.{Offset}
use Rattle.shapes.specs.Shape.{line_of}
use Rattle.intersection_params.specs.declared.Intersection.{Intersection}
use Rattle.intersection_params.specs.declared.Intersection.TheVariants.{At, Colinear}
use Rattle.extents.specs.Sides.{Edges}
use Rattle.extents.specs.Edges.{extents_of}
use Rattle.line_join.specs.Sides.{Corners}
use Rattle.line_join.specs.declared.Join.{Join}
use Rattle.line_join.specs.Miter.{reaches}
use Rattle.line_join.specs.Join.{meet, corners_of, outer, overlapping, bent_at, bent_left, bent_of, start_of, end_of, join_of}
use Rattle.line_join.specs.Caps.{is_join_near}
use Rattle.line_join.specs.Standing.{standing_at}

-- the corners' test
pub standing-near : (k i : ℕ) (j : Join) → is_join_near k (standing_at i j) ≡ is_join_near k j
unfolding is_join_near
standing-near k i j = refl

-- a join whose position was not set yet, with the position taken off
pub taken-off : (i : ℕ) {j : Join} → j.position ≡ 0 → standing_at 0 (standing_at i j) ≡ j
taken-off i {j} e = ap (λ p. standing_at p j) (sym e)

-- ---- the three constructors

abbrev pub Unplaced : Join → Type 0
Unplaced j = j.position ≡ 0

module _ (first second : Edges) (mid : Point) (w : ℤ) where
  at-unplaced : (s : Side) (c : Corners) → Unplaced (bent_at s c first second mid w)
  unfolding bent_at
  at-unplaced s c = either Unplaced (overlapping s first second) (λ e. refl) (λ e. either Unplaced (reaches mid (outer s c) w) (λ e. refl) (λ e. refl))

  bent-by : (x y : Intersection) → Unplaced (bent_left x y first second mid w)
  bent-by (At l s) (At r t) = at-unplaced s (corners_of l r)
  bent-by (At l s) Colinear = refl
  bent-by Colinear y = refl

pub join-unplaced : (a b c : Point) (w : ℤ) (o : Offset) → Unplaced (join_of a b c w o)
unfolding join_of bent_of
join-unplaced a b c w o =
    let first = extents_of (line_of a b) w o in
    let second = extents_of (line_of b c) w o in
    bent-by first second b w (meet second.left first.left) (meet second.right first.right)

module _ (a b : Point) (w : ℤ) (o : Offset) where
  pub start-unplaced : Unplaced (start_of a b w o)
  unfolding start_of
  start-unplaced = refl

  pub end-unplaced : Unplaced (end_of a b w o)
  unfolding end_of
  end-unplaced = refl
