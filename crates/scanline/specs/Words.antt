-- What 01 says of spans in words: which columns they may have, when two lie apart, and that a span which met points is the least
-- one that holds its own columns and those of the points on its row.
use Rattle.std.specs.Prelude.{◌≡◌, ◌⊎◌, false, ℤ, pos, ◌-ℤ◌, ◌<ℤ◌}
use mathlib.Core.List.{List, Memᴰ}
use Rattle.shapes.specs.declared.Point.{Point}
use Rattle.shapes.specs.declared.Span.{Span}
use Rattle.shapes.specs.Spans.{Covers, is_empty}

-- a column that neither has lies between two spans that are not empty
abbrev pub Apart : Span → Span → Type 0
Apart s o = (s.end <ℤ o.start) ⊎ (o.end <ℤ s.start)

-- a column that is to be held: the span's, or that of a point on its row
pub data Column (s : Span) (ps : List Point) (c : ℤ) : Type 0 where
  before : Covers s c → Column s ps c
  met_at : (q : Point) → Memᴰ q ps → q.y ≡ s.row → q.x ≡ c → Column s ps c

-- an end: the span's own end e where it was not empty, or the column of a point on its row
pub data End (s : Span) (e : ℤ) (ps : List Point) (c : ℤ) : Type 0 where
  kept : is_empty s ≡ false → c ≡ e → End s e ps c
  came : (q : Point) → Memᴰ q ps → q.y ≡ s.row → q.x ≡ c → End s e ps c

pub record Least (s : Span) (ps : List Point) (r : Span) : Type 0 where
  pub row : r.row ≡ s.row
  pub holds : (c : ℤ) → Column s ps c → Covers r c
  pub least : (t : Span) → ((c : ℤ) → Column s ps c → Covers t c) → (c : ℤ) → Covers r c → Covers t c
  pub first : is_empty r ≡ false → End s s.start ps r.start
  pub final : is_empty r ≡ false → End s (s.end -ℤ pos 1) ps (r.end -ℤ pos 1)
