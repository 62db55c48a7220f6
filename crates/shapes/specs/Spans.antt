-- 01, "The board" and the numbers 6 and 7: a span's columns, when it is empty, and when it is inside the columns.
use Rattle.std.specs.Prelude.{Bool, ◌&&◌, ◌||◌, ℕ, ℤ, pos, ◌-ℤ◌, ◌≤ℤ◌, ◌<ℤ◌}
use Rattle.std.specs.Int.Signed.{le_z}
use Rattle.whole.specs.Number.{Within, is_within}
use Rattle.shapes.specs.declared.Span.{Span}

abbrev pub span_of : ℤ → ℤ → ℤ → Span
span_of row start end = record { row = row; start = start; end = end }

-- the column c is one of the span's: from its start to its end, the end not included
pub record Covers (s : Span) (c : ℤ) : Type 0 where
  pub from : s.start ≤ℤ c
  pub below : c <ℤ s.end

-- "a span is empty when its end is not above its start"
unfoldable pub is_empty : Span → Bool
is_empty s = le_z s.end s.start

-- every column is from -k to k
abbrev pub SpanSound : ℕ → Span → Type 0
SpanSound k s = (c : ℤ) → Covers s c → Within c k

-- the test for that: the first and the last column of a span that is not empty are
unfoldable pub is_span_sound : ℕ → Span → Bool
is_span_sound k s = is_empty s || (is_within k s.start && is_within k (s.end -ℤ pos 1))
