-- What 01 says of segments in words: the span is that of the points of the lines that are drawn; and, for 02's K8, which rows have such a point.
use Rattle.std.specs.Prelude.{◌≡◌, ℕ, zero, suc, ℤ, ◌≤ℤ◌}
use mathlib.Core.List.{List, [], ◌∷◌, ◌++◌, Memᴰ}
use Rattle.whole.specs.Number.{Within}
use Rattle.shapes.specs.declared.Point.{Point}
use Rattle.shapes.specs.declared.Line.{Line}
use Rattle.shapes.specs.Shape.{Near}
use Rattle.bresenham.specs.Points.{line_points}
use Rattle.line_join.specs.declared.Join.{Join}
use Rattle.thick_segment.specs.declared.Segment.{Segment}
use Rattle.thick_segment.specs.declared.Rectangle.{Rectangle}
use Rattle.thick_segment.specs.declared.Rows.{Rows}
use Rattle.thick_segment.specs.Segments.{drawn}

-- the joins in the order of a walk
abbrev pub joins_in : Segment → ℕ → Join
joins_in s zero = s.start
joins_in s (suc i) = s.end

unfoldable pub points_of : List Line → List Point
points_of [] = []
points_of (l ∷ ls) = line_points l ++ points_of ls

unfoldable pub drawn_points : Segment → List Point
drawn_points s = points_of (drawn s)

-- the row y is one of the rows: their first and their last are too
pub record HasRow (r : Rows) (y : ℤ) : Type 0 where
  pub from : r.first ≤ℤ y
  pub to : y ≤ℤ r.last

-- rows that begin no later, and end no earlier, than others
pub record Holds (wide narrow : Rows) : Type 0 where
  pub from : wide.first ≤ℤ narrow.first
  pub to : narrow.last ≤ℤ wide.last

-- one of the points is on the row y
pub record Lit (ps : List Point) (y : ℤ) : Type 0 where
  pub point : Point
  pub among : Memᴰ point ps
  pub on_row : point.y ≡ y

-- both the first and the last row have one
pub record LitEnds (ps : List Point) (r : Rows) : Type 0 where
  pub first_lit : Lit ps r.first
  pub last_lit : Lit ps r.last

pub record RectangleNear (k : ℕ) (b : Rectangle) : Type 0 where
  pub first_near : Near k b.first
  pub last_near : Near k b.last

pub record EndsNear (k : ℕ) (r : Rows) : Type 0 where
  pub first_near : Within r.first k
  pub last_near : Within r.last k
