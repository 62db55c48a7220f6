-- The joins and the segments of a route by their place: thick_segment_iter.rs and closed_thick_segment_iter.rs, and 01's "Modules", 6;
-- with 02's K9.
use Rattle.std.specs.Prelude.{Bool, true, false, cond, List, ℕ, ◌+◌, ◌-◌, ◌≤◌, eqb, leb, ℤ}
use Rattle.whole.specs.Places.{all_from, fails_from}
use Rattle.shapes.specs.declared.Offset.{Offset}
use Rattle.shapes.specs.declared.Offset.TheVariants.{None}
use Rattle.shapes.specs.declared.limits.Limits.{Limits}
use Rattle.shapes.specs.Limits.{stroke_limit}
use Rattle.shapes.specs.Strokes.{Thin}
use Rattle.line_join.specs.declared.Join.{Join}
use Rattle.line_join.specs.Caps.{is_join_near}
use Rattle.line_join.specs.Join.{start_of, end_of, join_of}
use Rattle.line_join.specs.Standing.{standing_at}
use Rattle.thick_segment.specs.declared.Segment.{Segment}
use Rattle.coordinates.specs.Points.{point_at, point_count, place_after, place_before, segments_of}
use Rattle.coordinates.specs.Refusal.{AllWithin, route_refusal}

-- ---- joins

unfoldable pub bend_at : List ℤ → ℤ → Offset → ℕ → ℕ → ℕ → Join
bend_at cs w o before i after = join_of (point_at cs before) (point_at cs i) (point_at cs after) w o

-- open: it starts at the first point, ends at the last, and bends between; the offset is None always
unfoldable pub open_join : List ℤ → ℤ → ℕ → Join
open_join cs w i =
    cond (eqb i 0) (start_of (point_at cs 0) (point_at cs 1) w None)
    (cond (eqb (i + 1) (point_count cs)) (end_of (point_at cs (i - 1)) (point_at cs i) w None) (bend_at cs w None (i - 1) i (i + 1)))

-- closed: it bends at every point; of two points the first is a start (no other route has n + i = 2)
unfoldable pub closed_join : List ℤ → ℤ → Offset → ℕ → Join
closed_join cs w o i =
    let n = point_count cs in
    cond (eqb (n + i) 2) (start_of (point_at cs 0) (point_at cs 1) w o) (bend_at cs w o (place_before n i) i (place_after n i))

-- of a route, open or closed, with its place for its position; the offset is a closed one's
unfoldable pub join_on : Bool → List ℤ → ℤ → Offset → ℕ → Join
join_on closed cs w o i = standing_at i (cond closed (closed_join cs w o i) (open_join cs w i))

-- a point alone has no join
unfoldable pub join_count : List ℤ → ℕ
join_count cs = cond (leb 2 (point_count cs)) (point_count cs) 0

-- ---- segments

-- the place of the join at which the segment from place k ends: the last one of a closed route ends where the first begins
unfoldable pub end_place : Bool → ℕ → ℕ → ℕ
end_place closed n k = cond closed (place_after n k) (k + 1)

unfoldable pub segment_of : Bool → List ℤ → ℤ → Offset → ℕ → Segment
segment_of closed cs w o k = record { start = join_on closed cs w o k; end = join_on closed cs w o (end_place closed (point_count cs) k) }

unfoldable pub segment_count : Bool → List ℤ → ℕ
segment_count closed cs = segments_of closed (point_count cs)

-- rows and route files use the offset None
abbrev pub join_at : Bool → List ℤ → ℤ → ℕ → Join
join_at closed cs w i = join_on closed cs w None i

abbrev pub segment_at : Bool → List ℤ → ℤ → ℕ → Segment
segment_at closed cs w k = segment_of closed cs w None k

-- the open and the closed walk's
abbrev pub open_segment : List ℤ → ℤ → ℕ → Segment
open_segment cs w k = segment_of false cs w None k

abbrev pub open_count : List ℤ → ℕ
open_count cs = segment_count false cs

abbrev pub closed_segment : List ℤ → ℤ → Offset → ℕ → Segment
closed_segment cs w o k = segment_of true cs w o k

abbrev pub closed_count : List ℤ → ℕ
closed_count cs = segment_count true cs

-- a segment with the positions of its joins set; and without, as the Rust has it, which keeps none
unfoldable pub standing : ℕ → ℕ → Segment → Segment
standing i k s = record { start = standing_at i s.start; end = standing_at k s.end }

abbrev pub bare : Segment → Segment
bare s = standing 0 0 s

-- ---- 5: every join of a route has all its corners within k

abbrev pub is_near_at : ℕ → Bool → List ℤ → ℤ → ℕ → Bool
is_near_at k closed cs w i = is_join_near k (join_at closed cs w i)

unfoldable pub are_joins_near : ℕ → Bool → List ℤ → ℤ → Bool
are_joins_near k closed cs w = all_from (is_near_at k closed cs w) 0 (join_count cs)

-- the place of the first that has not, the number of joins where all have
unfoldable pub near_joins : ℕ → Bool → List ℤ → ℤ → ℕ
near_joins k closed cs w = fails_from (is_near_at k closed cs w) 0 (join_count cs)

-- the position that comes with 5, where the list and the width are not refused before; else 0
unfoldable pub route_bend : Limits → Bool → List ℤ → ℤ → ℕ
route_bend limits closed cs w =
    cond (eqb (route_refusal limits.point closed cs w) 0) (cond (are_joins_near limits.corner closed cs w) 0 (near_joins limits.corner closed cs w)) 0

-- ---- what joins ask, so that nothing wraps

pub record Drawable (cs : List ℤ) (w : ℤ) : Type 0 where
  pub near : AllWithin stroke_limit cs
  pub thin : Thin w
  pub several : 2 ≤ point_count cs
