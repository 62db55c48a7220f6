-- 01's first sentence on rows, which 02's K8 replaced; and routes of which the edges of every skeleton lie on one line.
use Rattle.std.specs.Prelude.{◌≡◌, Bool, true, List, ℕ, ◌<◌, ℤ}
use Rattle.whole.specs.Places.{list_from}
use Rattle.thick_segment.specs.declared.Segment.{Segment}
use Rattle.thick_segment.specs.declared.Rows.{Rows}
use Rattle.thick_segment.specs.Segments.{is_skeleton, bounding_box}
use Rattle.thick_segment.specs.Rows.{box_rows}
use Rattle.route_joins.specs.Joins.{segment_at, segment_count}
use Rattle.route.specs.Rows.{RowRange, no_rows, with_all}

-- the rows of a segment's box
abbrev pub boxed : Bool → List ℤ → ℤ → ℕ → Rows
boxed closed cs w i = box_rows (bounding_box (segment_at closed cs w i))

-- "from the least to the greatest row in the union of its segments' `edges_bounding_box`"
unfoldable pub box_range : Bool → List ℤ → ℤ → RowRange
box_range closed cs w = with_all (no_rows 0 0) (list_from (boxed closed cs w) 0 (segment_count closed cs))

-- both edges lie on one line: the two corners at which they start are one, and so are those at which they end
pub record OneLine (s : Segment) : Type 0 where
  pub starts : s.start.starting.left ≡ s.start.starting.right
  pub ends : s.end.ending.left ≡ s.end.ending.right

-- the edges of every skeleton of a route do
pub record OneLined (closed : Bool) (cs : List ℤ) (w : ℤ) : Type 0 where
  pub each : (i : ℕ) → i < segment_count closed cs → is_skeleton (segment_at closed cs w i) ≡ true → OneLine (segment_at closed cs w i)
