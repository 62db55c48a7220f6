-- The entries' answers, with k for the limit of corners and rows: refusal 5 for a join with a corner beyond it, then 6 for a row
-- outside; a refusal has 0 in every other field, but with 5 comes the position of the join.
use Rattle.std.specs.Prelude.{Bool, false, cond, List, [], ℕ, eqb, ℤ, pos, Result, Ok, Err}
use Rattle.whole.specs.Number.{is_within}
use Rattle.shapes.specs.declared.refusals.Refusal.{Refusal}
use Rattle.shapes.specs.declared.refusals.Refusal.TheVariants.{Corner}
use Rattle.shapes.specs.Refusals.{corner_refused, row_refused, number_of, bend_of}
use Rattle.shapes.specs.Shape.{no_point, no_line}
use Rattle.scanline.specs.Spans.{new_span}
use Rattle.shapes.specs.declared.Span.{Span}
use Rattle.thick_segment.specs.declared.Segment.{Segment}
use Rattle.thick_segment.specs.Sides.{EdgePair}
use Rattle.thick_segment.specs.declared.Rectangle.{Rectangle}
use Rattle.thick_segment.specs.declared.Rows.{Rows}
use Rattle.thick_segment.specs.Segments.{is_segment_near, far_bend, is_skeleton, edges_of, bounding_box, rows_of, perimeter_of, count_of, span_on}
use Rattle.thick_segment.specs.Rows.{rows_from, drawn_rows}

-- ---- what stands for nothing in a refusal

abbrev pub no_edges : EdgePair
no_edges = record { right = no_line; left = no_line }

abbrev pub no_box : Rectangle
no_box = record { first = no_point; last = no_point }

-- ---- values: the refusal, the position that comes with 5, else 0, and what is answered

pub record Skeletal : Type 0 where
  pub refusal : ℕ
  pub bend : ℕ
  pub skeleton : Bool

pub record Edged : Type 0 where
  pub refusal : ℕ
  pub bend : ℕ
  pub edges : EdgePair

pub record Boxed : Type 0 where
  pub refusal : ℕ
  pub bend : ℕ
  pub rectangle : Rectangle

pub record Counted : Type 0 where
  pub refusal : ℕ
  pub bend : ℕ
  pub count : ℕ

pub record DrawnRows : Type 0 where
  pub refusal : ℕ
  pub bend : ℕ
  pub rows : Rows

pub record SegmentSpan : Type 0 where
  pub refusal : ℕ
  pub bend : ℕ
  pub span : Span

abbrev pub skeleton_values : Result Bool Refusal → Skeletal
skeleton_values (Ok a) = record { refusal = 0; bend = 0; skeleton = a }
skeleton_values (Err r) = record { refusal = number_of r; bend = bend_of r; skeleton = false }

abbrev pub edges_values : Result EdgePair Refusal → Edged
edges_values (Ok a) = record { refusal = 0; bend = 0; edges = a }
edges_values (Err r) = record { refusal = number_of r; bend = bend_of r; edges = no_edges }

abbrev pub box_values : Result Rectangle Refusal → Boxed
box_values (Ok a) = record { refusal = 0; bend = 0; rectangle = a }
box_values (Err r) = record { refusal = number_of r; bend = bend_of r; rectangle = no_box }

abbrev pub count_values : Result ℕ Refusal → Counted
count_values (Ok a) = record { refusal = 0; bend = 0; count = a }
count_values (Err r) = record { refusal = number_of r; bend = bend_of r; count = 0 }

abbrev pub drawn_rows_values : Result Rows Refusal → DrawnRows
drawn_rows_values (Ok a) = record { refusal = 0; bend = 0; rows = a }
drawn_rows_values (Err r) = record { refusal = number_of r; bend = bend_of r; rows = rows_from (pos 0) (pos 0) }

abbrev pub span_values : Result Span Refusal → SegmentSpan
span_values (Ok a) = record { refusal = 0; bend = 0; span = a }
span_values (Err r) = record { refusal = number_of r; bend = bend_of r; span = new_span (pos 0) }

-- ---- 5 for a corner beyond k, with the position of the first join that has one

unfoldable pub if_near : {A : Type 0} → ℕ → Segment → A → Result A Refusal
if_near k s a = cond (is_segment_near k s) (Ok a) (Err (Corner (far_bend k s)))

-- ---- the entries that can be refused with 5 alone

unfoldable pub skeleton_answer : ℕ → Segment → Skeletal
skeleton_answer k s = cond (is_segment_near k s) (record { refusal = 0; bend = 0; skeleton = is_skeleton s }) (record { refusal = corner_refused; bend = far_bend k s; skeleton = false })

unfoldable pub edges_answer : ℕ → Segment → Edged
edges_answer k s = cond (is_segment_near k s) (record { refusal = 0; bend = 0; edges = edges_of s }) (record { refusal = corner_refused; bend = far_bend k s; edges = no_edges })

unfoldable pub box_answer : ℕ → Segment → Boxed
box_answer k s = cond (is_segment_near k s) (record { refusal = 0; bend = 0; rectangle = bounding_box s }) (record { refusal = corner_refused; bend = far_bend k s; rectangle = no_box })

-- a refused perimeter is six lines of zeros; its number is the count's
unfoldable pub perimeter_answer : ℕ → Segment → List (List ℤ)
perimeter_answer k s = cond (is_segment_near k s) (perimeter_of s) (rows_of 6 [])

unfoldable pub count_answer : ℕ → Segment → Counted
count_answer k s = cond (is_segment_near k s) (record { refusal = 0; bend = 0; count = count_of s }) (record { refusal = corner_refused; bend = far_bend k s; count = 0 })

unfoldable pub drawn_rows_answer : ℕ → Segment → DrawnRows
drawn_rows_answer k s = cond (is_segment_near k s) (record { refusal = 0; bend = 0; rows = drawn_rows s }) (record { refusal = corner_refused; bend = far_bend k s; rows = rows_from (pos 0) (pos 0) })

-- ---- the span: 5, then 6

unfoldable pub segment_refusal : ℕ → Segment → ℤ → ℕ
segment_refusal k s row = cond (is_segment_near k s) (cond (is_within k row) 0 row_refused) corner_refused

abbrev pub spanned : ℕ → ℕ → Span → SegmentSpan
spanned n b s = record { refusal = n; bend = b; span = s }

unfoldable pub span_answer : ℕ → Segment → ℤ → SegmentSpan
span_answer k s row =
    cond (eqb (segment_refusal k s row) 0) (spanned 0 0 (span_on s row)) (spanned (segment_refusal k s row) (far_bend k s) (new_span (pos 0)))
