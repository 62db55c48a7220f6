-- What joins ask is met, the test of all joins of a route, and how far the edges of an accepted route lie. Assumes nothing.
use mathlib.Core.Path.{◌≡◌, refl}
use mathlib.Core.Logic.{◌↔◌, ◌≢◌}
use mathlib.Core.Bool.{Bool, true, false, cond}
use mathlib.Core.List.{List}
use Prim.Native.Nat.{ℕ, ◌+◌, ◌*◌, ◌≤◌, ◌<◌}
use native.Mathlib.Omega.{arith}
use borrow.Author.Tests.{leb-true}
use lib.Dec.{leb, lit≤}
use lib.IntN.{ℤ}
use mir.Syntax.{w64}
use mir.Val.{to_z, of_z}
use Rattle.whole.proofs.Bounds.{within_more}
use Rattle.whole.proofs.Places.{all-exactly}
use Rattle.shapes.specs.declared.Offset.{Offset}
use Rattle.shapes.specs.Limits.{panel, width_limit, line_limit, stroke_limit}
use Rattle.shapes.specs.declared.Point.{Point}
use Rattle.shapes.specs.Shape.{Near, line_of}
use Rattle.shapes.proofs.Widths.{thin-back}
use Rattle.line_join.specs.Caps.{JoinNear, is_join_near}
use Rattle.extents.specs.Edges.{EdgesNear, extents_of}
use Rattle.line_join.proofs.Room.{join-near-iff, edges-within}
use Rattle.coordinates.specs.Points.{point_at, point_count, segments_of}
use Rattle.coordinates.specs.Refusal.{AllWithin, Accepted}
use Rattle.coordinates.proofs.Lists.{point_near}
use Rattle.coordinates.proofs.Places.{after-inside, before-inside}
use Rattle.route_joins.specs.Joins.{join_at, join_count, are_joins_near, end_place, segment_count, Drawable}

-- ---- what joins ask

pub drawable-back : {cs : List ℤ} {w : ℤ} → Drawable cs w → Drawable cs (to_z w64 (of_z w64 w))
drawable-back d = record { near = d.near; thin = thin-back d.thin; several = d.several }

pub all_more : {j k : ℕ} {cs : List ℤ} → AllWithin j cs → j ≤ k → AllWithin k cs
all_more a le = record { within = λ i. within_more (a.within i) le }

-- a point of such a list
pub near_at : {k : ℕ} {cs : List ℤ} {p : Point} (i : ℕ) → p ≡ point_at cs i → AllWithin k cs → Near k p
near_at i e a = rw e (point_near a i)

counted-by : (n : ℕ) (t : Bool) {i : ℕ} → leb 2 n ≡ t → i < cond t n 0 → (2 ≤ n) × (i < n)
counted-by n true e h = (leb-true 2 n e, h)
counted-by n false e h = absurd (omega arith)

-- at the place of a join there are two points or more
pub join-inside : {i : ℕ} (cs : List ℤ) → i < join_count cs → (2 ≤ point_count cs) × (i < point_count cs)
unfolding join_count
join-inside cs h = counted-by (point_count cs) (leb 2 (point_count cs)) refl h

-- a place of a segment is one of n points, and so is the place where it ends
pub place_inside : {n k : ℕ} (closed : Bool) → k < segments_of closed n → (k < n) × (end_place closed n k < n)
unfolding segments_of end_place
place_inside true h = (h, after-inside h)
place_inside false h = (omega arith, omega arith)

-- what lets the functions call what asks for bounds
pub ruleset asked = (place_inside, after-inside, before-inside)

-- a route that nothing refuses, and that has a segment, has two points or more
pub several-by : (n : ℕ) (closed : Bool) {k : ℕ} → (closed ≡ true → n ≢ 1) → k < segments_of closed n → 2 ≤ n
unfolding segments_of
several-by n true s h = omega (arith, s refl)
several-by n false s h = omega arith

-- a list and a width that nothing refuses, and that have a segment, may be drawn
pub accepted-drawable : {k i : ℕ} {closed : Bool} {cs : List ℤ} {w : ℤ} → k ≤ stroke_limit → Accepted k closed cs w → i < segment_count closed cs → Drawable cs w
unfolding segment_count
accepted-drawable {closed} {cs} le a h = record { near = all_more a.near le; thin = a.thin; several = several-by (point_count cs) closed a.several h }

-- ---- 5: the route passes exactly where every join of it is near

pub joins-exactly : (k : ℕ) (closed : Bool) (cs : List ℤ) (w : ℤ) → (are_joins_near k closed cs w ≡ true) ↔ ((i : ℕ) → i < join_count cs → JoinNear k (join_at closed cs w i))
unfolding are_joins_near
joins-exactly k closed cs w =
    let all = all-exactly (λ i. is_join_near k (join_at closed cs w i)) (join_count cs) in
    (λ e i h. (join-near-iff k (join_at closed cs w i)).0 (all.0 e i h), λ f. all.1 (λ i h. (join-near-iff k (join_at closed cs w i)).1 (f i h)))

-- ---- 01: edges of an accepted route stay within the crossing's limit

-- of a list within k, between any two of its points, at any offset
pub route-edges : {j k : ℕ} {closed : Bool} {cs : List ℤ} {w : ℤ} → k ≤ line_limit → k + (4 * width_limit + 3) ≤ j → Accepted k closed cs w
    → (a b : ℕ) (o : Offset) → EdgesNear j (extents_of (line_of (point_at cs a) (point_at cs b)) w o)
route-edges fits le h a b o = edges-within o fits le (point_near h.near a) (point_near h.near b) h.thin

-- at the limits of a panel
pub panel-edges : {closed : Bool} {cs : List ℤ} {w : ℤ} → Accepted panel.point closed cs w
    → (a b : ℕ) (o : Offset) → EdgesNear panel.crossing (extents_of (line_of (point_at cs a) (point_at cs b)) w o)
panel-edges h = route-edges (lit≤ tt) (lit≤ tt) h
