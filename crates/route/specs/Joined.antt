-- The joins of a route kept in an array, and the segments between them.
use Rattle.std.specs.Prelude.{Bool, List, ◌++◌, ℕ, ◌-◌, ◌≤◌, ◌<◌, ℤ, length, get_or, replicate}
use Rattle.whole.specs.Places.{list_from}
use Rattle.shapes.specs.Limits.{route_points}
use Rattle.line_join.specs.declared.Join.{Join}
use Rattle.line_join.specs.declared.Kind.TheVariants.{Miter}
use Rattle.line_join.specs.Origins.{no_crossings}
use Rattle.line_join.specs.Answers.{no_corners}
use Rattle.line_join.specs.Caps.{JoinNear}
use Rattle.thick_segment.specs.declared.Segment.{Segment}
use Rattle.coordinates.specs.Points.{segments_of}
use Rattle.route_joins.specs.Joins.{join_at, join_count, near_joins, end_place}
use Rattle.route.specs.declared.Joins.{Joins}

-- what stands in the array beyond the joins
abbrev pub no_join : Join
no_join = record { kind = Miter; ending = no_corners; starting = no_corners; origins = no_crossings; position = 0 }

-- an array of 256 with the joins at its front
unfoldable pub kept_in : List Join → List Join
kept_in js = js ++ replicate (route_points - length js) no_join

-- those of a route, and how many from the first on have their corners within k
unfoldable pub joins_of : ℕ → Bool → List ℤ → ℤ → Joins
joins_of k closed cs w =
    record {
      closed = closed;
      count = join_count cs;
      near = near_joins k closed cs w;
      joins = kept_in (list_from (join_at closed cs w) 0 (join_count cs));
    }

-- joins that a row may be drawn of: all have their corners within k
pub record Kept (k : ℕ) (route : Joins) : Type 0 where
  pub few : route.count ≤ route_points
  pub near : (i : ℕ) → i < route.count → JoinNear k (get_or route.joins i no_join)

-- ---- the segments between them

unfoldable pub segment_in : Joins → ℕ → Segment
segment_in route k = record { start = get_or route.joins k no_join; end = get_or route.joins (end_place route.closed route.count k) no_join }

abbrev pub segments_in : Joins → ℕ
segments_in route = segments_of route.closed route.count
