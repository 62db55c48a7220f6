-- 01, line_join.rs: the joins of two thick lines, from their edges; with 02's K4.
use Rattle.std.specs.Prelude.{Bool, cond, ℤ, Option, Some, None}
use Rattle.shapes.specs.declared.Point.{Point}
use Rattle.shapes.specs.declared.Line.{Line}
use Rattle.shapes.specs.declared.Side.{Side}
use Rattle.shapes.specs.declared.Side.TheVariants.{Left, Right}
use Rattle.shapes.specs.declared.Offset.{Offset}
use Rattle.shapes.specs.Shape.{line_of}
use Rattle.linear_equation.specs.Equation.{equation_of, is_on_side}
use Rattle.intersection_params.specs.declared.Intersection.{Intersection}
use Rattle.intersection_params.specs.declared.Intersection.TheVariants.{At, Colinear}
use Rattle.intersection_params.specs.Crossing.{crossing_of, nearly_colinear}
use Rattle.extents.specs.Sides.{Edges}
use Rattle.extents.specs.Edges.{extents_of}
use Rattle.line_join.specs.declared.Kind.{Kind}
use Rattle.line_join.specs.declared.Kind.TheVariants as kind
use Rattle.line_join.specs.Sides.{Corners}
use Rattle.line_join.specs.declared.Origin.{Origin}
use Rattle.line_join.specs.declared.Join.{Join}
use Rattle.line_join.specs.declared.bend.Meeting.{Meeting}
use Rattle.line_join.specs.Miter.{reaches}
use Rattle.line_join.specs.Origins.{no_crossings, origin_of, traced}

-- ---- the crossing of two edges

-- a crossing that is spoilt is replaced by a point
abbrev pub mended : Bool → Point → Intersection → Intersection
mended spoilt end (At p s) = At (cond spoilt end p) s
mended spoilt end Colinear = Colinear

-- the second edge is the first argument; a nearly colinear crossing is replaced by the first edge's end
unfoldable pub meet : Line → Line → Intersection
meet second first = mended (nearly_colinear second first) first.end (crossing_of second first)

-- with where it comes from
abbrev pub meeting_by : Intersection → Origin → Option Meeting
meeting_by (At p s) o = Some (record { point = p; side = s; origin = o })
meeting_by Colinear o = None

abbrev pub meeting_of : Line → Line → Option Meeting
meeting_of second first = meeting_by (meet second first) (origin_of second first)

-- ---- corners

abbrev pub corners_of : Point → Point → Corners
corners_of l r = record { left = l; right = r }

-- where the edges of a line end, and where they start
abbrev pub ends_of : Edges → Corners
ends_of e = corners_of e.left.end e.right.end

abbrev pub starts_of : Edges → Corners
starts_of e = corners_of e.left.start e.right.start

-- of two corners the one on the outer side
abbrev pub outer : Side → Corners → Point
outer Left c = c.left
outer Right c = c.right

-- the corner of an edge on the outer side, and a crossing on the inner one
abbrev pub cut_off : Side → Corners → Corners → Corners
cut_off Left edge crossing = corners_of edge.left crossing.right
cut_off Right edge crossing = corners_of crossing.left edge.right

-- ---- joins, by their corners; `traced` sets their origins in the end, and whoever knows their list the position, 0 until then

-- one line begins just where the other ends
abbrev pub alike : Kind → Corners → Join
alike k c = record { kind = k; ending = c; starting = c; origins = no_crossings; position = 0 }

-- at the ends of the edges
abbrev pub plain : Kind → Edges → Edges → Join
plain k first second = record { kind = k; ending = ends_of first; starting = starts_of second; origins = no_crossings; position = 0 }

-- a bevel: the inner corner stays, and the outer one is cut off
abbrev pub cut : Side → Corners → Edges → Edges → Join
cut s crossing first second =
    record { kind = kind.Bevel s; ending = cut_off s (ends_of first) crossing; starting = cut_off s (starts_of second) crossing; origins = no_crossings; position = 0 }

-- ---- the join of edges

-- overlap: the end of the second line's inner edge lies on the outer side of the first line's inner edge, or on it
unfoldable pub overlapping : Side → Edges → Edges → Bool
overlapping Left first second = is_on_side (equation_of first.right) second.right.end Left
overlapping Right first second = is_on_side (equation_of first.left) second.left.end Right

-- overlap gives Degenerate; the miter is kept where it reaches the outer corner, else Bevel
unfoldable pub bent_at : Side → Corners → Edges → Edges → Point → ℤ → Join
bent_at s crossing first second mid w =
    cond (overlapping s first second) (plain (kind.Degenerate s) first second)
    (cond (reaches mid (outer s crossing) w) (alike kind.Miter crossing) (cut s crossing first second))

-- the right crossing
abbrev pub bent_right : Intersection → Side → Point → Edges → Edges → Point → ℤ → Join
bent_right (At r t) s l first second mid w = bent_at s (corners_of l r) first second mid w
bent_right Colinear s l first second mid w = plain kind.Colinear first second

-- the left crossing, whose outer side is the join's; Colinear if either is
abbrev pub bent_left : Intersection → Intersection → Edges → Edges → Point → ℤ → Join
bent_left (At l s) right first second mid w = bent_right right s l first second mid w
bent_left Colinear right first second mid w = plain kind.Colinear first second

unfoldable pub bent_of : Edges → Edges → Point → ℤ → Join
bent_of first second mid w = bent_left (meet second.left first.left) (meet second.right first.right) first second mid w

-- with its origins
abbrev pub traced_of : Edges → Edges → Point → ℤ → Join
traced_of first second mid w = traced first second (bent_of first second mid w)

-- ---- the three constructors

unfoldable pub start_of : Point → Point → ℤ → Offset → Join
start_of a b w o = alike kind.Start (starts_of (extents_of (line_of a b) w o))

unfoldable pub end_of : Point → Point → ℤ → Offset → Join
end_of a b w o = alike kind.End (ends_of (extents_of (line_of a b) w o))

unfoldable pub join_of : Point → Point → Point → ℤ → Offset → Join
join_of a b c w o = traced_of (extents_of (line_of a b) w o) (extents_of (line_of b c) w o) b w
