-- What 01 says of merged spans in words: what repeated `next` hands out, and the columns of several spans.
use Rattle.std.specs.Prelude.{◌≡◌, true, false, List, [], ◌∷◌, ℕ, ◌<◌, ℤ}
use Rattle.shapes.specs.declared.Span.{Span}
use Rattle.shapes.specs.Spans.{Covers}
use Rattle.route_joins.specs.Joins.{open_count}
use Rattle.scanline_intersections.specs.declared.Intersections.{Intersections}
use Rattle.scanline_intersections.specs.Merging.{Merged}
use Rattle.scanline_intersections.specs.Segments.{span_at}

-- one of the spans has the column
pub data Covered (c : ℤ) : List Span → Type 0 where
  first : {s : Span} {ss : List Span} → Covers s c → Covered c (s ∷ ss)
  later : {s : Span} {ss : List Span} → Covered c ss → Covered c (s ∷ ss)

-- a segment of the open route has the column on the row
pub record OnSegment (cs : List ℤ) (w row c : ℤ) : Type 0 where
  pub place : ℕ
  pub inside : place < open_count cs
  pub covers : Covers (span_at cs w row place) c

-- `next`, asked again and again with the walk that it answered last, is never refused, hands out these spans, and from then on says that
-- there is none: the same answer for ever
pub data HandsOut (next : Intersections → Merged) : Intersections → List Span → Type 0 where
  done : {walk : Intersections} → (next walk).refusal ≡ 0 → (next walk).found ≡ false → next (next walk).walk ≡ next walk → HandsOut next walk []
  more : {walk : Intersections} {ss : List Span} → (next walk).refusal ≡ 0 → (next walk).found ≡ true → HandsOut next (next walk).walk ss → HandsOut next walk ((next walk).span ∷ ss)
