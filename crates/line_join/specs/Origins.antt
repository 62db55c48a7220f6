-- 02's K4: where the corners of a join come from, on its left and on its right.
use Rattle.std.specs.Prelude.{Bool, cond}
use Rattle.shapes.specs.declared.Line.{Line}
use Rattle.shapes.specs.declared.Side.{Side}
use Rattle.shapes.specs.declared.Side.TheVariants.{Left, Right}
use Rattle.shapes.specs.declared.Divisions.{Divisions}
use Rattle.intersection_params.specs.declared.Intersection.{Intersection}
use Rattle.intersection_params.specs.declared.Intersection.TheVariants as intersection
use Rattle.intersection_params.specs.Crossing.{solution_of, crossing_of, divisions_of, nearly_colinear}
use Rattle.extents.specs.Sides.{Edges}
use Rattle.line_join.specs.declared.Kind.{Kind}
use Rattle.line_join.specs.declared.Kind.TheVariants.{Miter, Bevel, Degenerate, Colinear, Start, End}
use Rattle.line_join.specs.declared.Origin.{Origin}
use Rattle.line_join.specs.declared.Origin.TheVariants.{Crossing, NotACrossing}
use Rattle.line_join.specs.Sides.{Origins}
use Rattle.line_join.specs.declared.Join.{Join}

abbrev pub origins_of : Origin → Origin → Origins
origins_of l r = record { left = l; right = r }

-- ends of edges on both sides
abbrev pub no_crossings : Origins
no_crossings = origins_of NotACrossing NotACrossing

-- ---- the origin of what two edges meet at

-- a crossing that is spoilt was replaced by an end
abbrev pub origin_by : Bool → Divisions → Intersection → Origin
origin_by spoilt ds (intersection.At p s) = cond spoilt NotACrossing (Crossing ds)
origin_by spoilt ds intersection.Colinear = NotACrossing

-- the second edge is the first argument
unfoldable pub origin_of : Line → Line → Origin
origin_of second first = origin_by (nearly_colinear second first) (divisions_of (solution_of second first)) (crossing_of second first)

-- ---- those of a join, by its kind

-- the outer side was cut off, and the inner one stays
abbrev pub cut_origins : Side → Origin → Origin → Origins
cut_origins Left l r = origins_of NotACrossing r
cut_origins Right l r = origins_of l NotACrossing

-- a miter uses both crossings, a bevel the one on its inner side, every other join none
abbrev pub origins_by : Kind → Origin → Origin → Origins
origins_by Miter l r = origins_of l r
origins_by (Bevel s) l r = cut_origins s l r
origins_by (Degenerate s) l r = no_crossings
origins_by Colinear l r = no_crossings
origins_by Start l r = no_crossings
origins_by End l r = no_crossings

-- a join with its origins, where the edges on the left and on the right meet with these
abbrev pub traced_by : Origin → Origin → Join → Join
traced_by l r j = record { kind = j.kind; ending = j.ending; starting = j.starting; origins = origins_by j.kind l r; position = j.position }

abbrev pub traced : Edges → Edges → Join → Join
traced first second j = traced_by (origin_of second.left first.left) (origin_of second.right first.right) j
