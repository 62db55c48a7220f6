-- The printed `bresenham_intersection`: a span takes in the columns of a line's points on its row.
use Rattle.std.specs.Prelude.{cond, List, [], ◌∷◌}
use Rattle.whole.specs.Number.{eq_z}
use Rattle.shapes.specs.declared.Point.{Point}
use Rattle.shapes.specs.declared.Line.{Line}
use Rattle.shapes.specs.declared.Span.{Span}
use Rattle.scanline.specs.Spans.{extended}
use Rattle.bresenham.specs.Points.{line_points}

-- a point's column is taken in where the point is on the span's row
unfoldable pub seen : Span → Point → Span
seen s p = cond (eq_z p.y s.row) (extended s p.x) s

unfoldable pub seen_all : Span → List Point → Span
seen_all s [] = s
seen_all s (p ∷ ps) = seen_all (seen s p) ps

-- all points of the line, in the order of the walk
unfoldable pub met : Span → Line → Span
met s l = seen_all s (line_points l)
