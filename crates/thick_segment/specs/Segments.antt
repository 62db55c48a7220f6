-- 01, thick_segment.rs: a skeleton, the edges, their bounding box, the lines that are drawn, and the span on a row.
use Rattle.std.specs.Prelude.{Bool, ◌&&◌, cond, List, [], ◌∷◌, ◌++◌, ℕ, zero, suc, ◌+◌, ℤ, pos, length, get_or, set}
use Rattle.whole.specs.Number.{lesser, greater}
use Rattle.shapes.specs.declared.Point.{Point}
use Rattle.shapes.specs.declared.Line.{Line}
use Rattle.shapes.specs.declared.Span.{Span}
use Rattle.shapes.specs.Shape.{point_of, line_of, same_point, LineNear}
use Rattle.scanline.specs.Spans.{new_span}
use Rattle.scanline.specs.Meeting.{met}
use Rattle.line_join.specs.Sides.{Corners}
use Rattle.line_join.specs.declared.Join.{Join}
use Rattle.line_join.specs.declared.Caps.{Caps}
use Rattle.line_join.specs.declared.Caps.TheVariants.{One, Two}
use Rattle.line_join.specs.Caps.{JoinNear, is_join_near, start_caps_of, end_caps_of}
use Rattle.thick_segment.specs.declared.Segment.{Segment}
use Rattle.thick_segment.specs.Sides.{EdgePair}
use Rattle.thick_segment.specs.declared.Rectangle.{Rectangle}

-- ---- bounds

pub record SegmentNear (k : ℕ) (s : Segment) : Type 0 where
  pub start_near : JoinNear k s.start
  pub end_near : JoinNear k s.end

unfoldable pub is_segment_near : ℕ → Segment → Bool
is_segment_near k s = is_join_near k s.start && is_join_near k s.end

-- 02, K9: the position of the first of its joins that has a corner beyond k, the start join before the end join; 0 where neither has
unfoldable pub far_bend : ℕ → Segment → ℕ
far_bend k s = cond (is_join_near k s.start) (cond (is_join_near k s.end) 0 s.end.position) s.start.position

-- ---- how far a segment goes down the screen

-- the lesser and the greater row of two corners
abbrev pub upper_of : Corners → ℤ
upper_of c = lesser c.left.y c.right.y

abbrev pub lower_of : Corners → ℤ
lower_of c = greater c.left.y c.right.y

-- the least and the greatest row of a join's corners
unfoldable pub top_of : Join → ℤ
top_of j = lesser (upper_of j.ending) (upper_of j.starting)

unfoldable pub bottom_of : Join → ℤ
bottom_of j = greater (lower_of j.ending) (lower_of j.starting)

-- ---- edges

-- left and right of the start join's `first_edge_end` are equal
unfoldable pub is_skeleton : Segment → Bool
is_skeleton s = same_point s.start.ending.left s.start.ending.right

-- the right edge runs along the segment, the left one back
unfoldable pub edges_of : Segment → EdgePair
edges_of s =
    record {
      right = line_of s.start.starting.right s.end.ending.right;
      left = line_of s.end.ending.left s.start.starting.left;
    }

-- ---- the bounding box of the edges; of a skeleton the left edge's

unfoldable pub least : Point → Point → Point
least a b = point_of (lesser a.x b.x) (lesser a.y b.y)

unfoldable pub most : Point → Point → Point
most a b = point_of (greater a.x b.x) (greater a.y b.y)

unfoldable pub box_of : Line → Rectangle
box_of l = record { first = least l.start l.end; last = most l.start l.end }

unfoldable pub union : Rectangle → Rectangle → Rectangle
union a b = record { first = least a.first b.first; last = most a.last b.last }

unfoldable pub bounding_box : Segment → Rectangle
bounding_box s = cond (is_skeleton s) (box_of (edges_of s).left) (union (box_of (edges_of s).right) (box_of (edges_of s).left))

-- ---- the lines that are drawn

abbrev pub cap_lines : Caps → List Line
cap_lines (One l) = l ∷ []
cap_lines (Two l m) = l ∷ m ∷ []

-- of a skeleton the right edge, else the caps of the start, those of the end, and the edges: six at most
unfoldable pub drawn : Segment → List Line
drawn s =
    cond (is_skeleton s) ((edges_of s).right ∷ [])
    (cap_lines (start_caps_of s.start) ++ (cap_lines (end_caps_of s.end) ++ ((edges_of s).right ∷ (edges_of s).left ∷ [])))

-- "six lines of four coordinates each at most"
abbrev pub coordinates : Line → List ℤ
coordinates l = l.start.x ∷ l.start.y ∷ l.end.x ∷ l.end.y ∷ []

abbrev pub blank : List ℤ
blank = pos 0 ∷ pos 0 ∷ pos 0 ∷ pos 0 ∷ []

-- n rows: those of the lines, then blank ones
unfoldable pub rows_of : ℕ → List Line → List (List ℤ)
rows_of zero ls = []
rows_of (suc n) [] = blank ∷ rows_of n []
rows_of (suc n) (l ∷ ls) = coordinates l ∷ rows_of n ls

-- the rows with those of the lines from place `at` on, as the code writes them
unfoldable pub placed : List (List ℤ) → ℕ → List Line → List (List ℤ)
placed rows at [] = rows
placed rows at (l ∷ ls) = placed (set rows at (coordinates l)) (at + 1) ls

unfoldable pub perimeter_of : Segment → List (List ℤ)
perimeter_of s = rows_of 6 (drawn s)

unfoldable pub count_of : Segment → ℕ
count_of s = length (drawn s)

-- ---- the span on a row: the lines are met in their order

unfoldable pub met_all : Span → List Line → Span
met_all t [] = t
met_all t (l ∷ ls) = met_all (met t l) ls

unfoldable pub span_on : Segment → ℤ → Span
span_on s row = met_all (new_span row) (drawn s)

-- the same over rows of coordinates, as the code scans them
abbrev pub line_at : List ℤ → Line
line_at r = line_of (point_of (get_or r 0 (pos 0)) (get_or r 1 (pos 0))) (point_of (get_or r 2 (pos 0)) (get_or r 3 (pos 0)))

unfoldable pub met_rows : Span → List (List ℤ) → Span
met_rows t [] = t
met_rows t (r ∷ rs) = met_rows (met t (line_at r)) rs

-- every row is a line within k
pub record AllNear (k : ℕ) (rows : List (List ℤ)) : Type 0 where
  pub near : (i : ℕ) → LineNear k (line_at (get_or rows i []))
