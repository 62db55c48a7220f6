-- What 01 says in words of joins. Assumes nothing.
use mathlib.Core.Path.{◌≡◌, refl, sym, ap, subst, ◌∙◌}
use mathlib.Core.Logic.{◌↔◌, inl, inr}
use mathlib.Core.Bool.{Bool, true, false}
use Prim.Native.Nat.{ℕ, ◌+◌, ◌*◌, ◌≤◌}
use native.Mathlib.Omega.{arith}
use borrow.Author.Tests.{ltb-true}
use lib.IntN.{ℤ, pos, negsuc, nat_abs, ◌-ℤ◌, ◌*ℤ◌}
use lib.Signed.{lt_z, ◌≤ℤ◌, ◌<ℤ◌}
use Rattle.whole.proofs.Squares.{squares-beyond-left, squares-beyond-right, lt_not_le, not-le-lt}
use Rattle.whole.proofs.Tests.{le_iff, lt_iff}
use Rattle.shapes.specs.declared.Point.{Point}
use Rattle.shapes.specs.declared.Line.{Line}
use Rattle.shapes.specs.declared.Side.{Side}
use Rattle.shapes.specs.declared.Offset.{Offset}
use Rattle.shapes.specs.Limits.{width_limit, line_limit}
use Rattle.shapes.specs.Shape.{Near, point_of, line_of, minus, dot_product, squared_length}
use Rattle.intersection_params.specs.declared.Intersection.{Intersection}
use Rattle.intersection_params.specs.declared.Intersection.TheVariants.{At, Colinear}
use Rattle.intersection_params.specs.Crossing.{crossing_of, nearly_colinear}
use Rattle.intersection_params.specs.Words.{bend}
use Rattle.intersection_params.proofs.Laws.{colinear-exactly}
use Rattle.extents.specs.Sides.{Edges}
use Rattle.extents.specs.Edges.{EdgesNear, extents_of}
use Rattle.line_join.specs.declared.Kind.{Kind}
use Rattle.line_join.specs.declared.Kind.TheVariants as kind
use Rattle.line_join.specs.Sides.{Corners}
use Rattle.shapes.specs.Strokes.{Thin}
use Rattle.line_join.specs.Miter.{miter_limit, reaches}
use Rattle.line_join.specs.Join.{mended, meet, corners_of, ends_of, starts_of, outer, overlapping, alike, plain, cut, bent_at, bent_left, bent_of, start_of, end_of, join_of}
use Rattle.line_join.specs.Caps.{CornersNear, JoinNear}
use Rattle.line_join.specs.Words.{Bend, Parallel, Overlap, Short, Long, HasKind}
use Rattle.line_join.proofs.Room.{edges-within}

-- ---- the miter's length

-- a miter with one component beyond 2·width is too long: no square is needed to see it
pub too_wide : (mid tip : Point) (w : ℤ) → Thin w → lt_z (pos 2 *ℤ w) (pos (nat_abs (tip.x -ℤ mid.x))) ≡ true → reaches mid tip w ≡ false
unfolding reaches squared_length dot_product minus miter_limit
too_wide mid tip (pos k) h e = squares-beyond-left (tip.x -ℤ mid.x) (tip.y -ℤ mid.y) (2 * k) (ltb-true (2 * k) (nat_abs (tip.x -ℤ mid.x)) e)
too_wide mid tip (negsuc k) h e = absurd h.low.le

pub too-tall : (mid tip : Point) (w : ℤ) → Thin w → lt_z (pos 2 *ℤ w) (pos (nat_abs (tip.y -ℤ mid.y))) ≡ true → reaches mid tip w ≡ false
unfolding reaches squared_length dot_product minus miter_limit
too-tall mid tip (pos k) h e = squares-beyond-right (tip.x -ℤ mid.x) (tip.y -ℤ mid.y) (2 * k) (ltb-true (2 * k) (nat_abs (tip.y -ℤ mid.y)) e)
too-tall mid tip (negsuc k) h e = absurd h.low.le

-- the miter is kept exactly when the squared distance is at most the limit, and cut exactly when it is beyond
pub reaches-exactly : (mid tip : Point) (w : ℤ) → (reaches mid tip w ≡ true) ↔ (squared_length (minus tip mid) ≤ℤ miter_limit w)
unfolding reaches
reaches-exactly mid tip w = le_iff (squared_length (minus tip mid)) (miter_limit w)

pub misses-exactly : (mid tip : Point) (w : ℤ) → (reaches mid tip w ≡ false) ↔ (miter_limit w <ℤ squared_length (minus tip mid))
unfolding reaches
misses-exactly mid tip w =
    let long = squared_length (minus tip mid) in
    let most = miter_limit w in
    (λ e. (lt_iff most long).0 (not-le-lt long most e), λ h. lt_not_le most long ((lt_iff most long).1 h))

-- at width 3 a squared length of 36 is kept, and 37 is cut
pub limit-at-3 : (reaches (point_of (pos 0) (pos 0)) (point_of (pos 6) (pos 0)) (pos 3) ≡ true) × (reaches (point_of (pos 0) (pos 0)) (point_of (pos 6) (pos 1)) (pos 3) ≡ false)
unfolding reaches squared_length dot_product minus miter_limit
limit-at-3 = (refl, refl)

-- ---- kinds

mended-none : (t : Bool) (end : Point) (x : Intersection) → mended t end x ≡ Colinear → x ≡ Colinear
mended-none t end (At p s) e = let z : ◌≡◌ {A = ℕ} 0 1 = cc in absurd (omega arith)
mended-none t end Colinear e = refl

-- two edges meet nowhere exactly where the determinant of their directions is 0
pub meet-nowhere : (a b : Line) → (meet a b ≡ Colinear) ↔ (bend a b ≡ pos 0)
unfolding meet
meet-nowhere a b =
    let exactly = colinear-exactly a b in
    (λ e. exactly.0 (mended-none (nearly_colinear a b) b.end (crossing_of a b) e), λ z. simp (exactly.1 z))

module _ (first second : Edges) (mid : Point) (w : ℤ) where
  -- where both pairs of edges cross, by the two tests
  bend-has : (s : Side) (c : Corners) → Bend first second s c → (o t : Bool) → overlapping s first second ≡ o → reaches mid (outer s c) w ≡ t → HasKind first second mid w (bent_at s c first second mid w).kind
  unfolding bent_at
  bend-has s c b true t e f = rw e (record { crossing = c; bend = b; overlaps = e })
  bend-has s c b false true e f = rw (e, f) (record { side = s; crossing = c; bend = b; apart = e; within = (reaches-exactly mid (outer s c) w).0 f })
  bend-has s c b false false e f = rw (e, f) (record { crossing = c; bend = b; apart = e; beyond = (misses-exactly mid (outer s c) w).0 f })

  crossed-has : (x y : Intersection) → meet second.left first.left ≡ x → meet second.right first.right ≡ y → HasKind first second mid w (bent_left x y first second mid w).kind
  crossed-has (At l s) (At r t) e f = bend-has s (corners_of l r) (record { left_at = e; other = t; right_at = f }) (overlapping s first second) (reaches mid (outer s (corners_of l r)) w) refl refl
  crossed-has (At l s) Colinear e f = inr ((meet-nowhere second.right first.right).0 f)
  crossed-has Colinear y e f = inl ((meet-nowhere second.left first.left).0 e)

  -- what is said of a join's kind holds
  has-kind : HasKind first second mid w (bent_of first second mid w).kind
  unfolding bent_of
  has-kind = crossed-has (meet second.left first.left) (meet second.right first.right) refl refl

  bend-is : {s : Side} {c : Corners} → Bend first second s c → bent_of first second mid w ≡ bent_at s c first second mid w
  unfolding bent_of
  bend-is b = simp (b.left_at, b.right_at)

  right-nowhere : (x : Intersection) → bent_left x Colinear first second mid w ≡ plain kind.Colinear first second
  right-nowhere (At l s) = refl
  right-nowhere Colinear = refl

  -- each of the four, whole but for its origins
  pub miter-is : (h : Short first second mid w) → bent_of first second mid w ≡ alike kind.Miter h.crossing
  unfolding bent_at
  miter-is h = bend-is h.bend ∙ simp (h.apart, (reaches-exactly mid (outer h.side h.crossing) w).1 h.within)

  pub bevel-is : {s : Side} (h : Long first second mid w s) → bent_of first second mid w ≡ cut s h.crossing first second
  unfolding bent_at
  bevel-is {s} h = bend-is h.bend ∙ simp (h.apart, (misses-exactly mid (outer s h.crossing) w).1 h.beyond)

  pub degenerate-is : {s : Side} → Overlap first second s → bent_of first second mid w ≡ plain (kind.Degenerate s) first second
  unfolding bent_at
  degenerate-is h = bend-is h.bend ∙ simp h.overlaps

  pub colinear-is : Parallel first second → bent_of first second mid w ≡ plain kind.Colinear first second
  unfolding bent_of
  colinear-is (inl z) = simp ((meet-nowhere second.left first.left).1 z)
  colinear-is (inr z) = simp ((meet-nowhere second.right first.right).1 z, right-nowhere)

  is-kind : (k : Kind) → HasKind first second mid w k → (bent_of first second mid w).kind ≡ k
  is-kind kind.Miter h = ap (λ j. j.kind) (miter-is h)
  is-kind (kind.Bevel s) h = ap (λ j. j.kind) (bevel-is h)
  is-kind (kind.Degenerate s) h = ap (λ j. j.kind) (degenerate-is h)
  is-kind kind.Colinear h = ap (λ j. j.kind) (colinear-is h)
  is-kind kind.Start h = absurd h
  is-kind kind.End h = absurd h

  -- a join is of a kind exactly when 01 says so
  pub kind-exactly : (k : Kind) → ((bent_of first second mid w).kind ≡ k) ↔ HasKind first second mid w k
  kind-exactly k = (λ e. subst (HasKind first second mid w) e has-kind, is-kind k)

  -- no join is of two kinds
  pub kinds-exclusive : (k l : Kind) → HasKind first second mid w k → HasKind first second mid w l → k ≡ l
  kinds-exclusive k l h i = sym (is-kind k h) ∙ is-kind l i

-- the join of three points
module _ (a b c : Point) (w : ℤ) (o : Offset) where
  abbrev First : Edges
  First = extents_of (line_of a b) w o

  abbrev Second : Edges
  Second = extents_of (line_of b c) w o

  pub join-kind-exactly : (k : Kind) → ((join_of a b c w o).kind ≡ k) ↔ HasKind First Second b w k
  unfolding join_of
  join-kind-exactly k = kind-exactly First Second b w k

  -- Colinear exactly when one of the two determinants is 0
  pub colinear-exactly-when : ((join_of a b c w o).kind ≡ kind.Colinear) ↔ Parallel First Second
  colinear-exactly-when = join-kind-exactly kind.Colinear

  -- Miter exactly when both pairs of edges cross, the lines do not overlap and the squared distance is within the limit
  pub miter-exactly : ((join_of a b c w o).kind ≡ kind.Miter) ↔ Short First Second b w
  miter-exactly = join-kind-exactly kind.Miter

-- ---- corners of a route's first and last join, of points within k

module _ {j k : ℕ} {a b : Point} {w : ℤ} (o : Offset) (fits : k ≤ line_limit) (le : k + (4 * width_limit + 3) ≤ j) (p : Near k a) (q : Near k b) (h : Thin w) where
  abbrev edges : EdgesNear j (extents_of (line_of a b) w o)
  edges = edges-within o fits le p q h

  pub start-within : JoinNear j (start_of a b w o)
  unfolding start_of
  start-within =
      let corners : CornersNear j (starts_of (extents_of (line_of a b) w o)) = record { left_near = edges.left_near.start_near; right_near = edges.right_near.start_near } in
      record { ending_near = corners; starting_near = corners }

  pub end-within : JoinNear j (end_of a b w o)
  unfolding end_of
  end-within =
      let corners : CornersNear j (ends_of (extents_of (line_of a b) w o)) = record { left_near = edges.left_near.end_near; right_near = edges.right_near.end_near } in
      record { ending_near = corners; starting_near = corners }
