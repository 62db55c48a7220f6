-- What the entries answer: inside the limit what is asked, else the refusal with 0 in every other field, but with 5 the bend; and what 01
-- says of the answers that are no refusal. Assumes nothing.
use mathlib.Core.Path.{◌≡◌, refl, sym, ap, subst, ◌∙◌}
use mathlib.Core.Logic.{◌↔◌}
use mathlib.Core.Bool.{Bool, true, false}
use mathlib.Core.List.{[]}
use Prim.Native.Nat.{ℕ}
use native.Mathlib.Omega.{arith}
use borrow.Author.Tests.{eqb-true}
use lib.Dec.{eqb, lit<}
use lib.IntN.{ℤ, pos}
use Rattle.whole.specs.Number.{Within}
use Rattle.whole.proofs.Linear.{linear}
use Rattle.whole.proofs.Spans.{within_low, within-high, within_of}
use Rattle.whole.proofs.Tests.{clash, else-true, eqb-iff, Chosen, chosen, chosen-exactly}
use Rattle.scanline.specs.Spans.{new_span}
use Rattle.shapes.specs.Spans.{SpanSound}
use Rattle.line_join.specs.Words.{Named, BendTold}
use Rattle.line_join.proofs.Named.{chosen-bend, bend-told, chosen-told}
use Rattle.thick_segment.specs.declared.Segment.{Segment}
use Rattle.thick_segment.specs.Segments.{SegmentNear, is_segment_near, far_bend, is_skeleton, edges_of, bounding_box, rows_of, perimeter_of, count_of, span_on}
use Rattle.thick_segment.specs.Rows.{rows_from, box_rows, drawn_rows}
use Rattle.thick_segment.specs.Words.{joins_in, HasRow, EndsNear}
use Rattle.thick_segment.specs.declared.Rows.{Rows}
use Rattle.thick_segment.specs.Answers.{SegmentSpan, no_edges, no_box, spanned, skeleton_answer, edges_answer, box_answer, perimeter_answer, count_answer, drawn_rows_answer, segment_refusal, span_answer}
use Rattle.thick_segment.proofs.Refused.{segment-near-iff, segment-five, segment-none}
use Rattle.thick_segment.proofs.Named.{near-bend, segment-named, named-far}
use Rattle.thick_segment.proofs.Laws.{span-sound, box-near}
use Rattle.thick_segment.proofs.Lit.{drawn-rows-near}

-- what lies between two rows within the limit is within it
rows-within : {k : ℕ} {r : Rows} {y : ℤ} → EndsNear k r → HasRow r y → Within y k
rows-within near row =
    within_of (omega (linear, within_low near.first_near, row.from)) (omega (linear, within-high near.last_near, row.to))

module _ (k : ℕ) (s : Segment) where
  -- ---- the answers, and 5 exactly when a join has a corner beyond the limit

  pub skeleton-chosen : Chosen (SegmentNear k s) (skeleton_answer k s) (record { refusal = 0; bend = 0; skeleton = is_skeleton s }) (record { refusal = 5; bend = far_bend k s; skeleton = false })
  unfolding skeleton_answer
  skeleton-chosen = chosen (is_segment_near k s) _ _ (segment-near-iff k s)

  pub skeleton-refused : ((skeleton_answer k s).refusal ≡ 5) ↔ (SegmentNear k s → ⊥)
  skeleton-refused = chosen-exactly (λ v. v.refusal) refl refl (lit< tt) skeleton-chosen

  pub edges-chosen : Chosen (SegmentNear k s) (edges_answer k s) (record { refusal = 0; bend = 0; edges = edges_of s }) (record { refusal = 5; bend = far_bend k s; edges = no_edges })
  unfolding edges_answer
  edges-chosen = chosen (is_segment_near k s) _ _ (segment-near-iff k s)

  pub edges-refused : ((edges_answer k s).refusal ≡ 5) ↔ (SegmentNear k s → ⊥)
  edges-refused = chosen-exactly (λ v. v.refusal) refl refl (lit< tt) edges-chosen

  pub box-chosen : Chosen (SegmentNear k s) (box_answer k s) (record { refusal = 0; bend = 0; rectangle = bounding_box s }) (record { refusal = 5; bend = far_bend k s; rectangle = no_box })
  unfolding box_answer
  box-chosen = chosen (is_segment_near k s) _ _ (segment-near-iff k s)

  pub box-refused : ((box_answer k s).refusal ≡ 5) ↔ (SegmentNear k s → ⊥)
  box-refused = chosen-exactly (λ v. v.refusal) refl refl (lit< tt) box-chosen

  pub count-chosen : Chosen (SegmentNear k s) (count_answer k s) (record { refusal = 0; bend = 0; count = count_of s }) (record { refusal = 5; bend = far_bend k s; count = 0 })
  unfolding count_answer
  count-chosen = chosen (is_segment_near k s) _ _ (segment-near-iff k s)

  pub count-refused : ((count_answer k s).refusal ≡ 5) ↔ (SegmentNear k s → ⊥)
  count-refused = chosen-exactly (λ v. v.refusal) refl refl (lit< tt) count-chosen

  -- a perimeter carries no number: six blank lines where its count is refused
  pub perimeter-chosen : Chosen (SegmentNear k s) (perimeter_answer k s) (perimeter_of s) (rows_of 6 [])
  unfolding perimeter_answer
  perimeter-chosen = chosen (is_segment_near k s) _ _ (segment-near-iff k s)

  pub drawn-rows-chosen : Chosen (SegmentNear k s) (drawn_rows_answer k s) (record { refusal = 0; bend = 0; rows = drawn_rows s }) (record { refusal = 5; bend = far_bend k s; rows = rows_from (pos 0) (pos 0) })
  unfolding drawn_rows_answer
  drawn-rows-chosen = chosen (is_segment_near k s) _ _ (segment-near-iff k s)

  pub drawn-rows-refused : ((drawn_rows_answer k s).refusal ≡ 5) ↔ (SegmentNear k s → ⊥)
  drawn-rows-refused = chosen-exactly (λ v. v.refusal) refl refl (lit< tt) drawn-rows-chosen

  -- ---- and with 5 comes the first of its joins that has such a corner

  five-told : {A : Type 0} {x a b : A} (number bend : A → ℕ) → Chosen (SegmentNear k s) x a b → number a ≡ 0 → bend a ≡ 0 → number b ≡ 5 → bend b ≡ far_bend k s
      → BendTold Unit k (joins_in s) 2 (number x) (bend x)
  five-told number bend c none zero five is =
      chosen-told k (joins_in s) 2 number bend (is_segment_near k s) (segment-near-iff k s) c none zero five
      (λ far. subst (Named k (joins_in s) 2) (sym is) (segment-named k s far)) (named-far k s)

  pub skeleton-bend : BendTold Unit k (joins_in s) 2 (skeleton_answer k s).refusal (skeleton_answer k s).bend
  skeleton-bend = five-told (λ v. v.refusal) (λ v. v.bend) skeleton-chosen refl refl refl refl

  pub edges-bend : BendTold Unit k (joins_in s) 2 (edges_answer k s).refusal (edges_answer k s).bend
  edges-bend = five-told (λ v. v.refusal) (λ v. v.bend) edges-chosen refl refl refl refl

  pub box-bend : BendTold Unit k (joins_in s) 2 (box_answer k s).refusal (box_answer k s).bend
  box-bend = five-told (λ v. v.refusal) (λ v. v.bend) box-chosen refl refl refl refl

  pub count-bend : BendTold Unit k (joins_in s) 2 (count_answer k s).refusal (count_answer k s).bend
  count-bend = five-told (λ v. v.refusal) (λ v. v.bend) count-chosen refl refl refl refl

  pub drawn-rows-bend : BendTold Unit k (joins_in s) 2 (drawn_rows_answer k s).refusal (drawn_rows_answer k s).bend
  drawn-rows-bend = five-told (λ v. v.refusal) (λ v. v.bend) drawn-rows-chosen refl refl refl refl

  -- ---- every row of an accepted segment's box, and of its drawn lines, is within the rows

  accepted : {A : Type 0} {x a b : A} (number : A → ℕ) → Chosen (SegmentNear k s) x a b → number b ≡ 5 → number x ≡ 0 → SegmentNear k s
  accepted number c five zero = by (is_segment_near k s) refl
    where
      by : (t : Bool) → is_segment_near k s ≡ t → SegmentNear k s
      by true e = (segment-near-iff k s).0 e
      by false e = let far = ap number (c.fails (λ near. clash ((segment-near-iff k s).1 near) e)) in absurd (omega (arith, far, five, zero))

  pub box-rows : (box_answer k s).refusal ≡ 0 → (y : ℤ) → HasRow (box_rows (box_answer k s).rectangle) y → Within y k
  box-rows e y h =
      let near = accepted (λ v. v.refusal) box-chosen refl e in
      let box = box-near s near in
      rows-within (record { first_near = box.first_near.y_near; last_near = box.last_near.y_near }) (rw (box-chosen.holds near) at h)

  pub rows_inside : (drawn_rows_answer k s).refusal ≡ 0 → (y : ℤ) → HasRow (drawn_rows_answer k s).rows y → Within y k
  rows_inside e y h = let near = accepted (λ v. v.refusal) drawn-rows-chosen refl e in rows-within (drawn-rows-near s near) (rw (drawn-rows-chosen.holds near) at h)

  -- ---- the span

  module _ (row : ℤ) where
    pub span-chosen : Chosen (segment_refusal k s row ≡ 0) (span_answer k s row) (spanned 0 0 (span_on s row)) (spanned (segment_refusal k s row) (far_bend k s) (new_span (pos 0)))
    unfolding span_answer
    span-chosen = chosen (eqb (segment_refusal k s row) 0) _ _ (eqb-iff (segment_refusal k s row) 0)

    refusal-by : (t : Bool) → eqb (segment_refusal k s row) 0 ≡ t → (span_answer k s row).refusal ≡ segment_refusal k s row
    unfolding span_answer
    refusal-by true e = rw e (sym (eqb-true (segment_refusal k s row) 0 e))
    refusal-by false e = rw e

    pub span-refusal : (span_answer k s row).refusal ≡ segment_refusal k s row
    span-refusal = refusal-by (eqb (segment_refusal k s row) 0) refl

    bend-is : (span_answer k s row).bend ≡ far_bend k s
    unfolding span_answer
    bend-is = chosen-bend {A = SegmentSpan} (λ v. v.bend) (segment_refusal k s row) refl refl (λ e. near-bend k s ((segment-none k s row).0 e).0)

    pub span-bend : BendTold Unit k (joins_in s) 2 (span_answer k s row).refusal (span_answer k s row).bend
    span-bend =
        let five = segment-five k s row in
        rw (span-refusal, bend-is)
        (bend-told k (joins_in s) 2 (λ e. (tt, five.0 e), λ h. five.1 h.1) (named-far k s) (λ e. segment-named k s (five.0 e))
        (λ other. near-bend k s ((segment-near-iff k s).0 (else-true (is_segment_near k s) (λ e. other (five.1 (λ near. clash ((segment-near-iff k s).1 near) e)))))))

    -- every column of an accepted segment's span is within the columns
    pub span-columns : (span_answer k s row).refusal ≡ 0 → SpanSound k (span_answer k s row).span
    span-columns e =
        let none = sym span-refusal ∙ e in
        rw (span-chosen.holds none) (span-sound s row ((segment-none k s row).0 none).0)
