-- W2: the points of a walk, and those of a line.
use Rattle.std.specs.Prelude.{List, [], ◌∷◌, ℕ, zero, suc, pos, nat_abs}
use Rattle.shapes.specs.declared.Point.{Point}
use Rattle.shapes.specs.declared.Line.{Line}
use Rattle.bresenham.specs.declared.Parameters.{Parameters}
use Rattle.bresenham.specs.declared.Bresenham.{Bresenham}
use Rattle.bresenham.specs.Walk.{place_of, parameters_of, next_of}

-- what n plain steps hand out
unfoldable pub points_from : ℕ → Parameters → Bresenham → List Point
points_from zero p b = []
points_from (suc n) p b = (next_of p b).point ∷ points_from n p (next_of p b).state

-- "a line has a + 1 points", a being the threshold
unfoldable pub major_length : Line → ℕ
major_length l = suc (nat_abs (parameters_of l).threshold)

-- those of a walk that begins at the line's start with error 0
unfoldable pub line_points : Line → List Point
line_points l = points_from (major_length l) (parameters_of l) (place_of l.start (pos 0))
