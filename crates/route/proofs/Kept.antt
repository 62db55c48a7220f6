-- The joins that a route keeps are its joins, and the segments between them are those of the walk. Assumes nothing.
use mathlib.Core.Path.{◌≡◌, refl, ◌∙◌}
use mathlib.Core.Logic.{◌⊎◌, inl, inr, ⊎_elim}
use mathlib.Core.Bool.{Bool, true, false, cond}
use mathlib.Core.List.{List}
use Prim.Native.Nat.{ℕ, ◌-◌, ◌≤◌, ◌<◌}
use native.Mathlib.Nat.{zero-add}
use native.Mathlib.Omega.{arith}
use borrow.Author.Tests.{leb-true, leb-false}
use lib.Dec.{leb}
use lib.IntN.{ℤ}
use lib.ListN.{length, get_or, replicate, get_or-append}
use Rattle.whole.specs.Places.{list_from}
use Rattle.whole.proofs.Places.{list_length, list_at}
use Rattle.shapes.specs.Limits.{route_points}
use Rattle.line_join.specs.declared.Join.{Join}
use Rattle.line_join.proofs.Room.{join-near-more}
use Rattle.thick_segment.specs.declared.Segment.{Segment}
use Rattle.thick_segment.specs.Segments.{SegmentNear}
use Rattle.coordinates.specs.Points.{point_count, segments_of}
use Rattle.coordinates.specs.Refusal.{Accepted}
use Rattle.route_joins.specs.Joins.{join_at, join_count, are_joins_near, end_place, segment_at, segment_of, segment_count}
use Rattle.route_joins.proofs.Near.{place_inside, joins-exactly}
use Rattle.route.specs.declared.Joins.{Joins}
use Rattle.route.specs.Joined.{no_join, kept_in, joins_of, Kept, segments_in, segment_in}

-- ---- in the array

-- both joins of a segment are among those that are kept
pub ends-in-array : {k i : ℕ} {route : Joins} → Kept k route → i < segments_in route → (i < route_points) × (end_place route.closed route.count i < route_points)
ends-in-array {route} kept h = let p = place_inside route.closed h in let few = kept.few in (omega (arith, p.0, few), omega (arith, p.1, few))

-- the segment between two joins of the array, the second at the place where it ends
pub segment-made : (route : Joins) (i : ℕ) {next : ℕ} → next ≡ end_place route.closed route.count i
    → ◌≡◌ {A = Segment} (record { start = get_or route.joins i no_join; end = get_or route.joins next no_join }) (segment_in route i)
unfolding segment_in
segment-made route i e = rw e

pub segment-near : {k i : ℕ} {route : Joins} → Kept k route → i < segments_in route → SegmentNear k (segment_in route i)
unfolding segment_in
segment-near {route} kept h = let p = place_inside route.closed h in record { start_near = kept.near _ p.0; end_near = kept.near _ p.1 }

pub kept_more : {j k : ℕ} {route : Joins} → Kept j route → j ≤ k → Kept k route
kept_more kept le = record { few = kept.few; near = λ i h. join-near-more (kept.near i h) le }

-- the join at place i of the array
pub kept_at : (join : ℕ → Join) {n i : ℕ} → i < n → get_or (kept_in (list_from join 0 n)) i no_join ≡ join i
unfolding kept_in
kept_at join {n} {i} h =
    let long = list_length join 0 n in
    get_or-append (list_from join 0 n) (replicate (route_points - length (list_from join 0 n)) no_join) no_join i (omega arith) ∙ simp zero-add at (list_at join 0 n i no_join h)

-- ---- of a route

count_by : (n : ℕ) (t : Bool) → leb 2 n ≡ t → ((2 ≤ n) × (cond t n 0 ≡ n)) ⊎ ((n ≤ 1) × (cond t n 0 ≡ 0))
count_by n true e = inl (leb-true 2 n e, refl)
count_by n false e = let low = leb-false 2 n e in inr (omega arith, refl)

-- the joins of two points or more are as many as the points; of fewer there are none
counted : (cs : List ℤ) → ((2 ≤ point_count cs) × (join_count cs ≡ point_count cs)) ⊎ ((point_count cs ≤ 1) × (join_count cs ≡ 0))
unfolding join_count
counted cs = count_by (point_count cs) (leb 2 (point_count cs)) refl

pub count_most : (cs : List ℤ) → join_count cs ≤ point_count cs
count_most cs = ⊎_elim (λ s. omega (arith, s.1)) (λ f. omega (arith, f.1)) (counted cs)

pub segments-all : {k : ℕ} {closed : Bool} {cs : List ℤ} {w : ℤ} → Accepted k closed cs w → segments_of closed (join_count cs) ≡ segment_count closed cs
unfolding segments_of segment_count
segments-all {closed = true} {cs} a = ⊎_elim (λ s. s.1) (λ f. let other = a.several refl in omega (arith, f.0, f.1, other)) (counted cs)
segments-all {closed = false} {cs} a = ⊎_elim (λ s. omega (arith, s.1)) (λ f. omega (arith, f.0, f.1)) (counted cs)

module _ (k : ℕ) (closed : Bool) (cs : List ℤ) (w : ℤ) where
  kept-join : {i : ℕ} → i < join_count cs → get_or (joins_of k closed cs w).joins i no_join ≡ join_at closed cs w i
  unfolding joins_of
  kept-join h = kept_at (join_at closed cs w) h

  -- the segments between them are those of the walk
  pub segment-is : {i : ℕ} → i < segments_of closed (join_count cs) → segment_in (joins_of k closed cs w) i ≡ segment_at closed cs w i
  unfolding segment_in joins_of segment_of
  segment-is {i} h =
      let p = place_inside closed h in
      let all = ⊎_elim (λ s. s.1) (λ f. absurd (omega (arith, f.1, p.0))) (counted cs) in
      rw (kept-join p.0, kept-join p.1, all)

  -- those of a route that nothing refuses may be drawn
  pub kept-joins : point_count cs ≤ route_points → are_joins_near k closed cs w ≡ true → Kept k (joins_of k closed cs w)
  unfolding joins_of
  kept-joins few near =
      record {
        few = omega (arith, count_most cs, few);
        near = λ i h. rw (kept_at (join_at closed cs w) h) ((joins-exactly k closed cs w).0 near i h);
      }
