-- The spans of the segments from a place on, and one turn of their merging. Assumes nothing.
use mathlib.Core.Path.{◌≡◌, refl, sym, ap, ◌∙◌}
use mathlib.Core.Bool.{Bool, true, false}
use mathlib.Core.List.{List, [], ◌∷◌}
use Prim.Native.Nat.{ℕ, ◌+◌, ◌≤◌, ◌<◌}
use native.Mathlib.Omega.{arith}
use borrow.Author.Tests.{le-leb}
use lib.IntN.{ℤ}
use Rattle.whole.proofs.Tests.{clash}
use Rattle.whole.proofs.Places.{list-end, list-next}
use Rattle.shapes.specs.declared.Span.{Span}
use Rattle.shapes.specs.Spans.{is_empty}
use Rattle.scanline.specs.Spans.{touches, joined_values, try_extended}
use Rattle.thick_segment.specs.Segments.{SegmentNear}
use Rattle.coordinates.specs.Points.{point_count, segments_of}
use Rattle.route_joins.specs.Joins.{open_segment, open_count, segment_of, segment_count, end_place, join_count, are_joins_near}
use Rattle.route_joins.proofs.Near.{joins-exactly}
use Rattle.scanline_intersections.specs.Segments.{span_at, spans_from}
use Rattle.scanline_intersections.specs.Merging.{Merged, walk_of, merged_next}
use Rattle.scanline_intersections.proofs.Merging.{joined-row}

-- where all joins of a route are near, so is each of its segments
pub segment-near : {k i : ℕ} (cs : List ℤ) (w : ℤ) → are_joins_near k false cs w ≡ true → i < open_count cs → SegmentNear k (open_segment cs w i)
unfolding segment_of segment_count segments_of end_place join_count
segment-near {k} {i} cs w e h =
    let all = (joins-exactly k false cs w).0 e in
    let many : join_count cs ≡ point_count cs = rw (le-leb 2 (point_count cs) (omega arith)) in
    record { start_near = all i (omega (arith, many)); end_near = all (i + 1) (omega (arith, many)) }

module _ (cs : List ℤ) (w row : ℤ) (k : ℕ) where
  pub spans-turn : k < open_count cs → spans_from cs w row k ≡ span_at cs w row k ∷ spans_from cs w row (k + 1)
  unfolding spans_from
  spans-turn h = list-next (span_at cs w row) (open_count cs) k h

  pub spans-end : open_count cs ≤ k → spans_from cs w row k ≡ []
  unfolding spans_from
  spans-end h = list-end (span_at cs w row) (open_count cs) k h

  module _ (s : Span) where
    -- the span at the place is gathered
    pub merged-more : k < open_count cs → (try_extended s (span_at cs w row k)).joined ≡ true
        → merged_next k w s (spans_from cs w row k) ≡ merged_next (k + 1) w (try_extended s (span_at cs w row k)).span (spans_from cs w row (k + 1))
    unfolding merged_next
    merged-more h e = rw (spans-turn h, e)

    -- it is not, and what is gathered is handed out
    pub merged-stop : k < open_count cs → (try_extended s (span_at cs w row k)).joined ≡ false
        → merged_next k w s (spans_from cs w row k) ≡ record { refusal = 0; bend = 0; found = true; span = s; walk = walk_of (k + 1) w (span_at cs w row k) }
    unfolding merged_next
    merged-stop h e = rw (spans-turn h, e)

    pub merged-end : open_count cs ≤ k → merged_next k w s (spans_from cs w row k) ≡ merged_next k w s []
    merged-end h = rw (spans-end h)

-- a span that is not joined is as it was
unjoined_by : (s o : Span) (a b t : Bool) → is_empty s ≡ a → is_empty o ≡ b → touches s o ≡ t → (try_extended s o).joined ≡ false → (try_extended s o).span ≡ s
unfolding try_extended
unjoined_by s o true b t e f g h = absurd (clash refl (rw e at h))
unjoined_by s o false true t e f g h = absurd (clash refl (rw (e, f) at h))
unjoined_by s o false false true e f g h = absurd (clash refl (rw (e, f, g) at h))
unjoined_by s o false false false e f g h = rw (e, f, g)

unjoined : (s o : Span) → (try_extended s o).joined ≡ false → (try_extended s o).span ≡ s
unjoined s o = unjoined_by s o (is_empty s) (is_empty o) (touches s o) refl refl refl

-- ---- one turn as the code makes it: o is the span at the place, r what is gathered after the try

module _ (cs : List ℤ) (w row : ℤ) (k : ℕ) (s : Span) {t : Bool} {o r : Span} {m : Merged} (more : k < open_count cs) (here : o ≡ span_at cs w row k)
    (tried : joined_values t r ≡ try_extended s o) (left : merged_next k w s (spans_from cs w row k) ≡ m) where
  tried-here : joined_values t r ≡ try_extended s (span_at cs w row k)
  tried-here = tried ∙ ap (try_extended s) here

  pub turn-on : t ≡ true → merged_next (k + 1) w r (spans_from cs w row (k + 1)) ≡ m
  turn-on e =
      let joined = sym (ap (λ j. j.joined) tried-here) ∙ e in
      ap (λ j. merged_next (k + 1) w j.span (spans_from cs w row (k + 1))) tried-here ∙ sym (merged-more cs w row k s more joined) ∙ left

  pub turn-row : r.row ≡ s.row
  turn-row = ap (λ j. j.span.row) tried-here ∙ joined-row s (span_at cs w row k)

  pub turn-out : t ≡ false → ◌≡◌ {A = Merged} (record { refusal = 0; bend = 0; found = true; span = r; walk = walk_of (k + 1) w o }) m
  turn-out e =
      let joined = sym (ap (λ j. j.joined) tried-here) ∙ e in
      let same : r ≡ s = ap (λ j. j.span) tried-here ∙ unjoined s (span_at cs w row k) joined in
      rw (same, here) (sym (merged-stop cs w row k s more joined) ∙ left)
