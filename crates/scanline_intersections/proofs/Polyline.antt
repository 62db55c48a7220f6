-- The segments of the polyline's `next_segment` are those of the open walk but for positions. Assumes nothing.
use mathlib.Core.Path.{◌≡◌, refl, sym, ap, ◌∙◌}
use mathlib.Core.List.{List, ◌∷◌}
use Prim.Native.Nat.{ℕ, zero, suc, ◌+◌, ◌-◌, ◌<◌}
use native.Mathlib.Nat.{zero-add}
use native.Mathlib.Omega.{arith}
use lib.IntN.{ℤ}
use lib.ListN.{length, get_or}
use Rattle.whole.specs.Places.{list_from}
use Rattle.whole.proofs.Places.{list_length, list_at}
use Rattle.thick_segment.specs.declared.Segment.{Segment}
use Rattle.coordinates.specs.Points.{point_at, point_count, points_of, segments_of}
use Rattle.coordinates.proofs.Lists.{points-in-turn}
use Rattle.route_joins.specs.Joins.{open_join, segment_count, bare, open_segment, open_count}
use Rattle.route_joins.proofs.Open.{first-join, last-join, inner-join, segment-is}
use Rattle.scanline_intersections.specs.Polyline.{next_segments, polyline_segments}

module _ (cs : List ℤ) (w : ℤ) where
  abbrev n : ℕ
  n = point_count cs

  -- from place k on, with the join at place k carried
  from_place : (m k : ℕ) → k + suc m ≡ n → next_segments w (open_join cs w k) (list_from (point_at cs) k (suc m)) ≡ list_from (λ i. bare (open_segment cs w i)) k m
  unfolding next_segments list_from
  from_place zero k e = refl
  from_place (suc zero) k e = rw (segment-is cs w k, sym (last-join cs w k (omega (arith, e))))
  from_place (suc (suc m)) k e =
      rw (segment-is cs w k, sym (inner-join cs w k (omega (arith, e)))) (ap (λ ss. record { start = open_join cs w k; end = open_join cs w (suc k) } ∷ ss) (from_place (suc m) (suc k) (omega (arith, e))))

  by_count : (m : ℕ) → m ≡ n → polyline_segments w (list_from (point_at cs) 0 m) ≡ list_from (λ i. bare (open_segment cs w i)) 0 (m - 1)
  unfolding polyline_segments list_from
  by_count zero e = refl
  by_count (suc zero) e = refl
  by_count (suc (suc m)) e =
      let less : suc (suc m) - 1 ≡ suc m = omega arith in
      rw (less, sym (first-join cs w)) (from_place (suc m) 0 (omega (arith, e)))

  -- the polyline's segments are those of the open walk, in turn, which have positions besides
  pub segments-equal : polyline_segments w (points_of cs) ≡ list_from (λ i. bare (open_segment cs w i)) 0 (open_count cs)
  unfolding segment_count segments_of
  segments-equal = rw (points-in-turn cs) (by_count n refl)

  -- so there are as many as the open walk has, and the k-th is the open walk's segment at place k
  pub polyline-count : length (polyline_segments w (points_of cs)) ≡ open_count cs
  polyline-count = ap length segments-equal ∙ list_length (λ i. bare (open_segment cs w i)) 0 (open_count cs)

  pub polyline-at : (d : Segment) (k : ℕ) → k < open_count cs → get_or (polyline_segments w (points_of cs)) k d ≡ bare (open_segment cs w k)
  polyline-at d k h = ap (λ ss. get_or ss k d) segments-equal ∙ simp zero-add at (list_at (λ i. bare (open_segment cs w i)) 0 (open_count cs) k d h)
