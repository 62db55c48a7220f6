-- The segments of the printed open iterator are those of the open walk but for positions, and past the last one it answers none. Assumes
-- nothing.
use mathlib.Core.Path.{◌≡◌, refl, sym, ap, ◌∙◌}
use mathlib.Core.Bool.{true, false}
use mathlib.Core.List.{[], ◌∷◌, List}
use Prim.Native.Nat.{ℕ, zero, suc, ◌+◌, ◌-◌, ◌≤◌}
use native.Mathlib.Omega.{arith}
use lib.Dec.{lit≤}
use lib.IntN.{ℤ}
use lib.ListN.{length}
use Rattle.whole.specs.Places.{list_from}
use Rattle.shapes.specs.declared.Point.{Point}
use Rattle.shapes.specs.declared.Offset.TheVariants.{None}
use Rattle.line_join.specs.declared.Kind.{Kind}
use Rattle.line_join.specs.declared.Kind.TheVariants.{Miter, Bevel, Degenerate, Colinear, Start, End}
use Rattle.line_join.specs.declared.Join.{Join}
use Rattle.line_join.specs.Join.{end_of, join_of}
use Rattle.line_join.proofs.Laws.{join-kind-exactly}
use Rattle.coordinates.specs.Points.{point_at, point_count, points_of, segments_of}
use Rattle.coordinates.proofs.Lists.{points-in-turn, last-two}
use Rattle.route_joins.specs.Joins.{open_join, segment_count, bare, open_segment, open_count}
use Rattle.route_joins.proofs.Open.{first-join, last-join, inner-join, segment-is}
use Rattle.thick_segment_iter.specs.Printed.{Iterator, is_end, past_windows, moved_by, answered, open_segments}

-- a join of three points is no End, and the join at a route's end is one
not_end : (k : Kind) → (k ≡ End → ⊥) → is_end k ≡ false
not_end Miter h = refl
not_end (Bevel s) h = refl
not_end (Degenerate s) h = refl
not_end Colinear h = refl
not_end Start h = refl
not_end End h = absurd (h refl)

bend-on : (a b c : Point) (w : ℤ) → is_end (join_of a b c w None).kind ≡ false
bend-on a b c w = not_end (join_of a b c w None).kind (λ e. (join-kind-exactly a b c w None End).0 e)

-- past the last window
past_is : (w : ℤ) (p q : Point) (ps : List Point) (it : Iterator) → length ps ≤ 2 → moved_by w p q ps it ≡ past_windows w p q it
past_is w p q [] it h = refl
past_is w p q (a ∷ []) it h = refl
past_is w p q (a ∷ b ∷ []) it h = refl
past_is w p q (a ∷ b ∷ c ∷ ps) it h = absurd (omega arith)

stopped : (w : ℤ) (p q : Point) (it : Iterator) (calls : ℕ) → it.stop ≡ true → answered w p q it calls ≡ []
unfolding answered
stopped w p q it zero e = refl
stopped w p q it (suc calls) e = rw e

module _ (cs : List ℤ) (w : ℤ) where
  abbrev n : ℕ
  n = point_count cs

  abbrev at : ℕ → Join
  at k = open_join cs w k

  abbrev point : ℕ → Point
  point k = point_at cs k

  -- the iterator at place k, with windows over some points
  abbrev iterator : List Point → ℕ → Iterator
  iterator ps k = record { windows = ps; start = at k; end = at (suc k); stop = false }

  -- it answers the segments from place k on, and then none, however many calls more are made
  abbrev Answers : List Point → ℕ → ℕ → Type 0
  Answers ps k left = (more : ℕ) → answered w (point (n - 2)) (point (n - 1)) (iterator ps k) (suc left + more) ≡ list_from (λ i. bare (open_segment cs w i)) k (suc left)

  -- at the last segment
  at_last : (ps : List Point) (k : ℕ) → length ps ≤ 2 → suc (suc k) ≡ n → Answers ps k 0
  unfolding answered list_from end_of
  at_last ps k h e more =
      let j = last-join cs w k e in
      let one : suc 0 + more ≡ suc more = omega arith in
      rw (one, past_is w _ _ ps (iterator ps k) h, segment-is cs w k, j) (ap (λ ss. record { start = at k; end = end_of (point k) (point (suc k)) w None } ∷ ss) (stopped w _ _ _ more refl))

  -- before it, past the last window
  before_last : (ps : List Point) (k : ℕ) → length ps ≤ 2 → suc (suc (suc k)) ≡ n → Answers ps k 1
  unfolding answered list_from
  before_last ps k h e more =
      let j = inner-join cs w k (omega (arith, e)) in
      let p : n - 2 ≡ suc k = omega (arith, e) in
      let q : n - 1 ≡ suc (suc k) = omega (arith, e) in
      let on : is_end (at (suc k)).kind ≡ false = ap (λ i. is_end i.kind) j ∙ bend-on (point k) (point (suc k)) (point (suc (suc k))) w in
      let two : suc 1 + more ≡ suc (suc 0 + more) = omega arith in
      let rest = at_last ps (suc k) h e more in
      rw (two, past_is w _ _ ps (iterator ps k) h, on, segment-is cs w k) (ap (λ ss. record { start = at k; end = at (suc k) } ∷ ss) (rw (p, q, sym (last-join cs w (suc k) e)) rest))

  -- one window more
  by-window : (left k : ℕ) → k + suc (suc (suc (suc left))) ≡ n → Answers (list_from point (suc (suc k)) (suc (suc left))) (suc k) (suc left) → Answers (list_from point (suc k) (suc (suc (suc left)))) k (suc (suc left))
  unfolding answered list_from
  by-window left k e rest more =
      let j = inner-join cs w (suc k) (omega (arith, e)) in
      let calls : suc (suc (suc left)) + more ≡ suc (suc (suc left) + more) = omega arith in
      rw (calls, segment-is cs w k, sym j) (ap (λ ss. record { start = at k; end = at (suc k) } ∷ ss) (rest more))

  from_place : (left k : ℕ) → k + suc (suc left) ≡ n → Answers (list_from point (suc k) (suc left)) k left
  unfolding list_from
  from_place zero k e = at_last (point (suc k) ∷ []) k (lit≤ tt) (omega (arith, e))
  from_place (suc zero) k e = before_last (point (suc k) ∷ point (suc (suc k)) ∷ []) k (lit≤ tt) (omega (arith, e))
  from_place (suc (suc left)) k e = by-window left k e (from_place (suc left) (suc k) (omega (arith, e)))

  by_count : (m more : ℕ) → m ≡ n → open_segments w (list_from point 0 m) (m - 1 + more) ≡ list_from (λ i. bare (open_segment cs w i)) 0 (m - 1)
  unfolding open_segments list_from
  by_count zero more e = refl
  by_count (suc zero) more e = refl
  by_count (suc (suc zero)) more e =
      let p : n - 2 ≡ 0 = omega (arith, e) in
      let q : n - 1 ≡ 1 = omega (arith, e) in
      rw (sym (first-join cs w), sym (last-join cs w 0 e)) (rw (p, q) at (at_last [] 0 (lit≤ tt) e more))
  by_count (suc (suc (suc m))) more e =
      let less : suc (suc (suc m)) - 1 ≡ suc (suc m) = omega arith in
      let p : n - 2 ≡ 1 + m = omega (arith, e) in
      let q : n - 1 ≡ 2 + m = omega (arith, e) in
      rw (less, last-two point _ m 1, sym (first-join cs w), sym (inner-join cs w 0 (omega (arith, e)))) (rw (p, q) at (from_place (suc m) 0 (omega (arith, e)) more))

  -- from `new` on, `next` answers the walk's segments, which have positions besides, and then none for ever
  pub open-equal : (more : ℕ) → open_segments w (points_of cs) (open_count cs + more) ≡ list_from (λ i. bare (open_segment cs w i)) 0 (open_count cs)
  unfolding segment_count segments_of
  open-equal more = rw (points-in-turn cs) (by_count n more refl)
