-- The edges of a thick line: 01's W5.
use Rattle.std.specs.Prelude.{false, cond, List, [], ◌∷◌, ℕ, ℤ}
use Rattle.shapes.specs.declared.Line.{Line}
use Rattle.shapes.specs.declared.Side.{Side}
use Rattle.shapes.specs.declared.Side.TheVariants.{Left, Right}
use Rattle.shapes.specs.declared.Offset.{Offset}
use Rattle.shapes.specs.Shape.{line_of, LineNear, plus, minus, delta}
use Rattle.bresenham.specs.declared.Parameters.{Parameters}
use Rattle.parallels.specs.declared.Parallel.{Parallel}
use Rattle.parallels.specs.Parallels.{plan_of, parallels_of}
use Rattle.extents.specs.declared.Edge.{Edge}
use Rattle.extents.specs.Sides.{Ends}
use Rattle.extents.specs.Sides.{Edges}

-- each yielded parallel replaces the point and type of its side
abbrev pub placed : Side → Edge → Ends → Ends
placed Left e s = record { left = e; right = s.right }
placed Right e s = record { left = s.left; right = e }

unfoldable pub seen : Ends → Parallel → Ends
seen s p = placed p.side (record { point = p.start.point; extra = p.extra }) s

unfoldable pub lasts : Ends → List Parallel → Ends
lasts s [] = s
lasts s (p ∷ ps) = lasts (seen s p) ps

-- both edges begin at the line's start as Normal
abbrev pub fresh_edge : Line → Edge
fresh_edge l = record { point = l.start; extra = false }

abbrev pub fresh_ends : Line → Ends
fresh_ends l = record { left = fresh_edge l; right = fresh_edge l }

-- an edge ends at its start plus the line's delta, less one major and one minor step if Extra
unfoldable pub closed : Line → Parameters → Edge → Line
closed l along e =
    let whole = plus e.point (delta l) in
    line_of e.point (cond e.extra (minus whole (plus along.major along.minor)) whole)

unfoldable pub extents_of : Line → ℤ → Offset → Edges
extents_of l width offset =
    let along = (plan_of l width offset).parallel in
    let s = lasts (fresh_ends l) (parallels_of l width offset) in
    record { left = closed l along s.left; right = closed l along s.right }

-- both edges are within k
pub record EdgesNear (k : ℕ) (e : Edges) : Type 0 where
  pub left_near : LineNear k e.left
  pub right_near : LineNear k e.right
