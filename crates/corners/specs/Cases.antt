-- What a case with numbers says of the entries' answers; and 01, "Corners with numbers": the cases marked P, in one list, with 02's K4.
use Rattle.std.specs.Prelude.{◌≡◌, Bool, true, false, List, [], ◌∷◌, ℕ, ◌*◌, ℤ, pos, negsuc, length, replicate, Ok, Some}
use Rattle.std.specs.Prelude as prelude
use Rattle.whole.specs.declared.Division.{Division}
use Rattle.whole.specs.declared.Division.TheVariants.{Exact, Half}
use Rattle.shapes.specs.declared.Point.{Point}
use Rattle.shapes.specs.declared.Line.{Line}
use Rattle.shapes.specs.declared.Side.TheVariants.{Left, Right}
use Rattle.shapes.specs.declared.Divisions.{Divisions}
use Rattle.shapes.specs.Limits.{point_limit, crossing_limit, corner_limit, panel}
use Rattle.shapes.specs.Shape.{LineNear, point_of, line_of, delta}
use Rattle.linear_equation.specs.Equation.{side_answer}
use Rattle.intersection_params.specs.declared.Crossed.{Crossed}
use Rattle.intersection_params.specs.declared.Crossed.TheVariants.{At, Colinear}
use Rattle.intersection_params.specs.Crossing.{crossing_values, crossing_answer, nearly_answer}
use Rattle.shapes.specs.declared.Offset.{Offset}
use Rattle.shapes.specs.declared.Offset.TheVariants.{None}
use Rattle.parallels.specs.declared.Parallel.{Parallel}
use Rattle.parallels.specs.Parallels.{parallels_of}
use Rattle.extents.specs.Sides.{Edges}
use Rattle.extents.specs.Entry.{accepted, extents_answer}
use Rattle.line_join.specs.declared.Caps.{Caps}
use Rattle.line_join.specs.Sides.{Corners}
use Rattle.line_join.specs.declared.Join.{Join}
use Rattle.line_join.specs.declared.Kind.TheVariants.{Miter}
use Rattle.line_join.specs.declared.Origin.TheVariants.{Crossing}
use Rattle.line_join.specs.Origins.{origins_of}
use Rattle.line_join.specs.Answers.{join_values, caps_values, points_answer, start_caps_answer, end_caps_answer}
use Rattle.thick_segment.specs.declared.Segment.{Segment}
use Rattle.thick_segment.specs.declared.Rectangle.{Rectangle}
use Rattle.thick_segment.specs.declared.Rows.{Rows}
use Rattle.thick_segment.specs.Answers.{skeleton_answer, box_answer, drawn_rows_answer}
use Rattle.coordinates.specs.Refusal.{route_refusal}
use Rattle.route_joins.specs.Steps.{step_values}
use Rattle.closed_thick_segment_iter.specs.declared.Walk.{Walk}
use Rattle.closed_thick_segment_iter.specs.Walks.{closed_start, closed_step, after_closed}
use Rattle.board.specs.declared.Run.{Run}
use Rattle.board.specs.declared.Board.{Board}
use Rattle.board.specs.Runs.{run_of, flat}
use Rattle.board.specs.Boards.{listed, listed_to}
use Rattle.board_laws.specs.Histories.{Event, offers, board_after}

pub data Case : Type 0 where
  -- two lines and their crossing
  crossing : Line → Line → Crossed → Case
  -- a line, and its crossing with any line inside the limit, as the first of the two and as the second
  crossing_with_any : Line → Crossed → Case
  -- two deltas, and whether lines that have them run nearly the same way
  nearly : Point → Point → Bool → Case
  -- three points, a width and an offset, and the join at the second point
  joins : Point → Point → Point → ℤ → Offset → Join → Case
  -- offers to a fresh board of row 0, and the runs and the total that it lists then
  board : List Run → List Run → ℤ → Case
  -- a line and a point, and whether the point is on the left, and on the right
  sides : Line → Point → Bool → Bool → Case
  -- a line, a width and an offset, and its parallels and its edges
  stroked : Line → ℤ → Offset → List Parallel → Edges → Case
  -- a join, and its cap lines where the second line starts, and where the first one ends
  capped : Join → Caps → Caps → Case
  -- a segment, the box of its edges, and the rows of its drawn lines
  rowed : Segment → Rectangle → Rows → Case
  -- a segment that is refused with 5, and the position that comes with it
  too_far : Segment → ℕ → Case
  -- the coordinates of a closed route and a width, and its segments
  closed : List ℤ → ℤ → List Segment → Case
  -- whether a route is closed, its coordinates and a width, and what these are refused with
  refused : Bool → List ℤ → ℤ → ℕ → Case

-- offers to row 0, one after the other
abbrev pub offers_of : List Run → List Event
offers_of [] = []
offers_of (r ∷ rs) = offers (record { row = pos 0; start = r.start; end = r.end }) ∷ offers_of rs

-- row 0's board after them
abbrev pub board_of_row0 : List Run → Board
board_of_row0 rs = board_after corner_limit (pos 0) (offers_of rs)

-- a closed walk's steps answer these segments in turn, and then the end
unfoldable pub Walks : List ℤ → Walk → List Segment → Type 0
Walks cs walk [] = closed_step panel cs walk ≡ step_values (Ok prelude.None)
Walks cs walk (s ∷ ss) = (closed_step panel cs walk ≡ step_values (Ok (Some s))) × Walks cs (after_closed panel cs walk) ss

unfoldable pub Holds : Case → Type 0
Holds (crossing a b r) = crossing_answer crossing_limit a b ≡ crossing_values (Ok r)
Holds (crossing_with_any a r) =
    (b : Line) → LineNear crossing_limit b → (crossing_answer crossing_limit a b ≡ crossing_values (Ok r)) × (crossing_answer crossing_limit b a ≡ crossing_values (Ok r))
Holds (nearly p q t) =
    (a b : Line) → LineNear crossing_limit a → LineNear crossing_limit b → delta a ≡ p → delta b ≡ q → nearly_answer crossing_limit a b ≡ record { refusal = 0; holds = t }
Holds (joins a b c w o j) = points_answer panel a b c w o ≡ join_values (Ok j)
Holds (board rs listing n) =
    (listed corner_limit (board_of_row0 rs) (2 * length listing) ≡ record { refusal = 0; count = length listing; total = n }) × (listed_to corner_limit (board_of_row0 rs) (replicate (2 * length listing) (pos 0)) ≡ flat listing)
Holds (sides l p left right) =
    (side_answer crossing_limit l p Left ≡ record { refusal = 0; holds = left }) × (side_answer crossing_limit l p Right ≡ record { refusal = 0; holds = right })
Holds (stroked l w o ps e) = (parallels_of l w o ≡ ps) × (extents_answer point_limit l w o ≡ accepted e)
Holds (capped j starting ending) = (start_caps_answer corner_limit j ≡ caps_values (Ok starting)) × (end_caps_answer corner_limit j ≡ caps_values (Ok ending))
Holds (rowed s box rows) =
    (box_answer corner_limit s ≡ record { refusal = 0; bend = 0; rectangle = box }) × (drawn_rows_answer corner_limit s ≡ record { refusal = 0; bend = 0; rows = rows })
Holds (too_far s p) = skeleton_answer corner_limit s ≡ record { refusal = 5; bend = p; skeleton = false }
Holds (closed cs w ss) = ((closed_start point_limit cs w None).refusal ≡ 0) × Walks cs (closed_start point_limit cs w None).walk ss
Holds (refused is_closed cs w n) = route_refusal point_limit is_closed cs w ≡ n

-- each case of a list holds
unfoldable pub Every : List Case → Type 0
Every [] = Unit
Every (c ∷ cs) = Holds c × Every cs

-- the line from (x, y) to (u, v)
abbrev pub line : ℤ → ℤ → ℤ → ℤ → Line
line x y u v = line_of (point_of x y) (point_of u v)

-- how x and y come out
abbrev pub divided : Division → Division → Divisions
divided x y = record { x = x; y = y }

-- the columns from s to e, e not included
abbrev run : ℕ → ℕ → Run
run s e = run_of (pos s) (pos e)

-- (0,0), (216,0), (216,216) at width 3: a miter with its corners at (217,-1) and (215,1), where the edges do cross
unfoldable pub legs_of216 : Case
legs_of216 =
    let tip : Corners = record { left = point_of (pos 217) (negsuc 0); right = point_of (pos 215) (pos 1) } in
    joins (point_of (pos 0) (pos 0)) (point_of (pos 216) (pos 0)) (point_of (pos 216) (pos 216)) (pos 3) None (record { kind = Miter; ending = tip; starting = tip; origins = origins_of (Crossing (divided Exact Exact)) (Crossing (divided Exact Exact)); position = 1 })

unfoldable pub cases : List Case
cases =
    -- P1
    crossing (line (pos 0) (pos 0) (pos 4) (pos 0)) (line (pos 2) (negsuc 1) (pos 2) (pos 2)) (At (point_of (pos 2) (pos 0)) Right (divided Exact Exact))
    -- P2: the lines exchanged
    ∷ crossing (line (pos 2) (negsuc 1) (pos 2) (pos 2)) (line (pos 0) (pos 0) (pos 4) (pos 0)) (At (point_of (pos 2) (pos 0)) Left (divided Exact Exact))
    -- P3: (1/2, 1/2)
    ∷ crossing (line (pos 0) (pos 0) (pos 1) (pos 1)) (line (pos 0) (pos 1) (pos 1) (pos 0)) (At (point_of (pos 1) (pos 1)) Left (divided Half Half))
    -- P4: (-1/2, -1/2)
    ∷ crossing (line (pos 0) (pos 0) (negsuc 0) (negsuc 0)) (line (pos 0) (negsuc 0) (negsuc 0) (pos 0)) (At (point_of (negsuc 0) (negsuc 0)) Left (divided Half Half))
    -- P6
    ∷ crossing (line (pos 0) (pos 0) (pos 4) (pos 0)) (line (pos 0) (pos 1) (pos 4) (pos 1)) Colinear
    -- P7
    ∷ crossing_with_any (line (pos 3) (pos 3) (pos 3) (pos 3)) Colinear
    -- P8
    ∷ nearly (point_of (pos 1) (pos 0)) (point_of (pos 1) (pos 1)) false
    ∷ nearly (point_of (pos 1) (pos 0)) (point_of (pos 2) (pos 1)) true
    -- P9
    ∷ sides (line (pos 0) (pos 0) (pos 10) (pos 0)) (point_of (pos 5) (negsuc 0)) true false
    ∷ sides (line (pos 0) (pos 0) (pos 10) (pos 0)) (point_of (pos 5) (pos 0)) true true
    -- P10
    ∷ legs_of216
    -- P11
    ∷ board (run 0 2 ∷ run 4 6 ∷ run 2 4 ∷ []) (run 0 6 ∷ []) (pos 6)
    -- P12
    ∷ board (run 0 2 ∷ run 3 4 ∷ []) (run 0 2 ∷ run 3 4 ∷ []) (pos 3)
    ∷ []
