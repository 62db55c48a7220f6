-- The spans on a row of the segments of an open route, in turn.
use Rattle.std.specs.Prelude.{List, ℕ, ◌-◌, ℤ}
use Rattle.whole.specs.Places.{list_from}
use Rattle.shapes.specs.declared.Span.{Span}
use Rattle.thick_segment.specs.Segments.{span_on}
use Rattle.route_joins.specs.Joins.{open_segment, open_count}

-- the span of the segment at place k
abbrev pub span_at : List ℤ → ℤ → ℤ → ℕ → Span
span_at cs w row k = span_on (open_segment cs w k) row

-- the spans of all segments from place k on, none where the place is past the end
unfoldable pub spans_from : List ℤ → ℤ → ℤ → ℕ → List Span
spans_from cs w row k = list_from (span_at cs w row) k (open_count cs - k)
