-- The printed `bresenham_intersection`: a row outside the line's rows meets nothing; else the line's points are skipped while they
-- are not on the row, then taken while they are, and the span takes in the column of each.
use Rattle.std.specs.Prelude.{Bool, cond, List, [], ◌∷◌, ℤ}
use Rattle.std.specs.Int.Signed.{le_z}
use Rattle.whole.specs.Number.{eq_z}
use Rattle.shapes.specs.declared.Point.{Point}
use Rattle.shapes.specs.declared.Line.{Line}
use Rattle.shapes.specs.declared.Span.{Span}
use Rattle.bresenham.specs.Points.{line_points}
use Rattle.scanline.specs.Spans.{in_range, extended}

unfoldable pub in_rows : Line → ℤ → Bool
in_rows l y = cond (le_z l.start.y l.end.y) (in_range l.start.y l.end.y y) (in_range l.end.y l.start.y y)

unfoldable pub skip_while_off : ℤ → List Point → List Point
skip_while_off y [] = []
skip_while_off y (p ∷ ps) = cond (eq_z p.y y) (p ∷ ps) (skip_while_off y ps)

unfoldable pub take_while_on : ℤ → List Point → List Point
take_while_on y [] = []
take_while_on y (p ∷ ps) = cond (eq_z p.y y) (p ∷ take_while_on y ps) []

unfoldable pub extend_all : Span → List Point → Span
extend_all s [] = s
extend_all s (p ∷ ps) = extend_all (extended s p.x) ps

unfoldable pub printed_met : Span → Line → Span
printed_met s l = cond (in_rows l s.row) (extend_all s (take_while_on s.row (skip_while_off s.row (line_points l)))) s
