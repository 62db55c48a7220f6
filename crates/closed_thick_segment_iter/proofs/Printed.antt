-- The segments of the printed closed iterator are those of the closed walk but for positions. Assumes nothing.
use mathlib.Core.Path.{◌≡◌, refl, sym, ap, ◌∙◌}
use mathlib.Core.Logic.{◌≢◌}
use mathlib.Core.Bool.{true, false}
use mathlib.Core.List.{[], ◌∷◌, List}
use Prim.Native.Nat.{ℕ, zero, suc, ◌+◌, ◌-◌, ◌≤◌, ◌<◌}
use native.Mathlib.Numerals.{add-one}
use native.Mathlib.Omega.{arith}
use borrow.Author.Tests.{eq-eqb, ne_eqb}
use lib.Dec.{lit≤}
use lib.IntN.{ℤ}
use lib.ListN.{length}
use Rattle.whole.specs.Places.{list_from}
use Rattle.whole.proofs.Places.{list_length}
use Rattle.shapes.specs.declared.Point.{Point}
use Rattle.shapes.specs.declared.Offset.{Offset}
use Rattle.line_join.specs.declared.Join.{Join}
use Rattle.line_join.specs.Join.{start_of, join_of}
use Rattle.coordinates.specs.Points.{point_at, point_count, points_of, place_after, place_before, segments_of}
use Rattle.coordinates.proofs.Lists.{points-in-turn, last-two}
use Rattle.coordinates.proofs.Places.{after-inner, after_last}
use Rattle.route_joins.specs.Joins.{bend_at, closed_join, join_on, end_place, segment_of, segment_count, bare, closed_segment, closed_count}
use Rattle.route_joins.proofs.Bends.{closed-unplaced, bare_of}
use Rattle.closed_thick_segment_iter.specs.Printed.{between, Known, Iterator, past_windows, turned, answered, closed_segments}

module _ (cs : List ℤ) (w : ℤ) (o : Offset) where
  abbrev n : ℕ
  n = point_count cs

  abbrev at : ℕ → Join
  at k = closed_join cs w o k

  abbrev point : ℕ → Point
  point k = point_at cs k

  -- behind the first, a join bends round the route
  bend : (k m : ℕ) → 1 < n → place_after n (suc k) ≡ m → at (suc k) ≡ join_of (point k) (point (suc k)) (point m) w o
  unfolding closed_join bend_at place_before
  bend k m some e =
      let back : suc k - 1 ≡ k = omega arith in
      rw (ne_eqb (n + suc k) 2 (λ z. omega (arith, z, some)), e, ne_eqb (suc k) 0 (λ z. omega arith), back)

  on : (k : ℕ) → suc k < n → place_after n k ≡ suc k
  on k h = after-inner n k (omega arith) ∙ add-one k

  round : (k : ℕ) → suc k ≡ n → place_after n k ≡ 0
  round k e = after_last n k (omega (arith, e))

  segment-to : (k m : ℕ) → place_after n k ≡ m → bare (closed_segment cs w o k) ≡ between (at k) (at m)
  unfolding segment_of join_on end_place
  segment-to k m e = rw e (bare_of (at k) (at m) k m (closed-unplaced cs w o k) (closed-unplaced cs w o m))

  abbrev known : Known
  known = record { count = n; first = point 0; before = point (n - 2); last = point (n - 1); join = at 0 }

  -- the iterator at place k, with windows over some points
  abbrev iterator : List Point → ℕ → Iterator
  iterator ps k = record { windows = ps; start = at k; idx = suc k; stop = false }

  -- it answers the segments from place k on, and then none, however many calls more are made
  abbrev Answers : List Point → ℕ → ℕ → Type 0
  Answers ps k left = (more : ℕ) → answered w o known (iterator ps k) (suc left + more) ≡ list_from (λ i. bare (closed_segment cs w o i)) k (suc left)

  stopped : (it : Iterator) (calls : ℕ) → it.stop ≡ true → answered w o known it calls ≡ []
  unfolding answered
  stopped it zero e = refl
  stopped it (suc calls) e = rw e

  past_is : (ps : List Point) (i : ℕ) → length ps ≤ 2 → turned w o known i ps ≡ past_windows w o known i ps
  past_is [] i h = refl
  past_is (a ∷ []) i h = refl
  past_is (a ∷ b ∷ []) i h = refl
  past_is (a ∷ b ∷ c ∷ ps) i h = absurd (omega arith)

  -- at the closing segment
  at_last : (ps : List Point) (k : ℕ) → length ps ≤ 2 → suc k ≡ n → Answers ps k 0
  unfolding answered list_from
  at_last ps k h e more =
      let one : suc 0 + more ≡ suc more = omega arith in
      rw (one, past_is ps (suc (suc k)) h, ne_eqb (suc (suc k)) n (λ z. omega (arith, z, e)), segment-to k 0 (round k e))
      (ap (λ ss. between (at k) (at 0) ∷ ss) (stopped _ more refl))

  -- at the one before it, which ends at the last point
  before_last : (ps : List Point) (k : ℕ) → length ps ≤ 2 → suc (suc k) ≡ n → Answers ps k 1
  unfolding answered list_from
  before_last ps k h e more =
      let j = bend k 0 (omega (arith, e)) (round (suc k) e) in
      let p : n - 2 ≡ k = omega (arith, e) in
      let q : n - 1 ≡ suc k = omega (arith, e) in
      let two : suc 1 + more ≡ suc (suc 0 + more) = omega arith in
      let rest = at_last ps (suc k) h e more in
      rw (two, past_is ps (suc (suc k)) h, eq-eqb (suc (suc k)) n e, segment-to k (suc k) (on k (omega (arith, e))), p, q, sym j)
      (ap (λ ss. between (at k) (at (suc k)) ∷ ss) rest)

  -- one window more
  by-window : (left k : ℕ) → k + suc (suc (suc left)) ≡ n → Answers (list_from point (suc k) (suc (suc left))) (suc k) (suc left) → Answers (list_from point k (suc (suc (suc left)))) k (suc (suc left))
  unfolding answered list_from
  by-window left k e rest more =
      let j = bend k (suc (suc k)) (omega (arith, e)) (on (suc k) (omega (arith, e))) in
      let calls : suc (suc (suc left)) + more ≡ suc (suc (suc left) + more) = omega arith in
      rw (calls, segment-to k (suc k) (on k (omega (arith, e))), sym j) (ap (λ ss. between (at k) (at (suc k)) ∷ ss) (rest more))

  from_place : (left k : ℕ) → k + suc (suc left) ≡ n → Answers (list_from point k (suc (suc left))) k (suc left)
  unfolding list_from
  from_place zero k e = before_last (point k ∷ point (suc k) ∷ []) k (lit≤ tt) (omega (arith, e))
  from_place (suc left) k e = by-window left k e (from_place left (suc k) (omega (arith, e)))

  -- the first join: of two points a start, of more a bend
  first-of-two : 2 ≡ n → at 0 ≡ start_of (point 0) (point 1) w o
  unfolding closed_join
  first-of-two e = let two : n + 0 ≡ 2 = omega (arith, e) in rw (eq-eqb (n + 0) 2 two)

  first-of-more : (m : ℕ) → suc (suc (suc m)) ≡ n → at 0 ≡ join_of (point (2 + m)) (point 0) (point 1) w o
  unfolding closed_join bend_at place_before
  first-of-more m e =
      let last : n - 1 ≡ 2 + m = omega (arith, e) in
      rw (ne_eqb (n + 0) 2 (λ z. omega (arith, z, e)), on 0 (omega (arith, e)), last)

  by_count : (m more : ℕ) → m ≡ n → m ≢ 1 → closed_segments w o (list_from point 0 m) (m + more) ≡ list_from (λ i. bare (closed_segment cs w o i)) 0 m
  unfolding closed_segments list_from
  by_count zero more e one = refl
  by_count (suc zero) more e one = absurd (one refl)
  by_count (suc (suc zero)) more e one = rw (sym (first-of-two e)) (rw (sym e) at (before_last [] 0 (lit≤ tt) e more))
  by_count (suc (suc (suc m))) more e one =
      let p : n - 2 ≡ 1 + m = omega (arith, e) in
      let q : n - 1 ≡ 2 + m = omega (arith, e) in
      rw (last-two point _ m 1, list_length point 3 m, sym (first-of-more m e)) (rw (p, q, sym e) at (from_place (suc m) 0 (omega (arith, e)) more))

  -- from `new` on, `next` answers the walk's segments, which have positions besides, and then none for ever
  pub closed-equal : n ≢ 1 → (more : ℕ) → closed_segments w o (points_of cs) (closed_count cs + more) ≡ list_from (λ i. bare (closed_segment cs w o i)) 0 (closed_count cs)
  unfolding segment_count segments_of
  closed-equal one more = rw (points-in-turn cs) (by_count n more refl one)
