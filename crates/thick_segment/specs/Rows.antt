-- 02, K8: the rows of the lines that are drawn, "for a skeleton the right edge, else all lines of the perimeter".
use Rattle.std.specs.Prelude.{List, [], ◌∷◌, ℤ}
use Rattle.whole.specs.Number.{lesser, greater}
use Rattle.shapes.specs.declared.Line.{Line}
use Rattle.thick_segment.specs.declared.Segment.{Segment}
use Rattle.thick_segment.specs.declared.Rectangle.{Rectangle}
use Rattle.thick_segment.specs.declared.Rows.{Rows}
use Rattle.thick_segment.specs.Segments.{edges_of, drawn}

abbrev pub rows_from : ℤ → ℤ → Rows
rows_from first last = record { first = first; last = last }

-- those of a line's ends
abbrev pub line_rows : Line → Rows
line_rows l = rows_from (lesser l.start.y l.end.y) (greater l.start.y l.end.y)

-- those of a box
abbrev pub box_rows : Rectangle → Rows
box_rows b = rows_from b.first.y b.last.y

-- from the first to the last of two
unfoldable pub around : Rows → Rows → Rows
around a b = rows_from (lesser a.first b.first) (greater a.last b.last)

-- with those of further lines
unfoldable pub with_lines : Rows → List Line → Rows
with_lines r [] = r
with_lines r (l ∷ ls) = with_lines (around r (line_rows l)) ls

-- those of all drawn lines, of which the right edge is always one
unfoldable pub drawn_rows : Segment → Rows
drawn_rows s = with_lines (line_rows (edges_of s).right) (drawn s)
