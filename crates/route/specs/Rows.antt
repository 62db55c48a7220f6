-- 01, "The board": "a route's row offers the span of each segment in walk order to a fresh board". 02, K8: the rows of a route are taken
-- "from the lines that are drawn".
use Rattle.std.specs.Prelude.{Bool, true, false, cond, List, [], ◌∷◌, ℕ, eqb, ℤ, pos, nat_abs, ◌+ℤ◌, ◌-ℤ◌, ◌≤ℤ◌, Option, Some, None, Result, Ok, Err}
use Rattle.whole.specs.Number.{Within}
use Rattle.whole.specs.Places.{list_from}
use Rattle.shapes.specs.declared.Span.{Span}
use Rattle.shapes.specs.declared.refusals.Refusal.{Refusal}
use Rattle.shapes.specs.Refusals.{room_refused, or_else, number_of, bend_of}
use Rattle.thick_segment.specs.declared.Rows.{Rows}
use Rattle.thick_segment.specs.Segments.{span_on}
use Rattle.thick_segment.specs.Rows.{rows_from, around, drawn_rows}
use Rattle.board.specs.declared.Board.{Board}
use Rattle.board.specs.Boards.{Answer, board_of, answer_of, added}
use Rattle.route.specs.declared.Joins.{Joins}
use Rattle.route.specs.declared.Full.{Full}
use Rattle.route.specs.Joined.{segments_in, segment_in}

-- ---- the board of a row

-- spans offered one after the other, up to the first that there is no room for
unfoldable pub offer_all : Board → List Span → Answer
offer_all b [] = answer_of 0 b
offer_all b (s ∷ ss) = let a = added b s in cond (eqb a.refusal 0) (offer_all a.board ss) a

abbrev pub span_in : Joins → ℤ → ℕ → Span
span_in route row k = span_on (segment_in route k) row

unfoldable pub board_on : Joins → ℤ → Answer
board_on route row = offer_all (board_of row []) (list_from (span_in route row) 0 (segments_in route))

-- what drawing it answers: the board, or with 8 that before the first span that there is no room for
abbrev pub board_values : Result Board Full → Answer
board_values (Ok b) = answer_of 0 b
board_values (Err full) = answer_of room_refused full.board

-- ---- the rows

-- the rows of a route, `first` to `last`; `some` is false, and both are 0, where it has none, and in a refusal
pub record RowRange : Type 0 where
  pub refusal : ℕ
  pub bend : ℕ
  pub some : Bool
  pub first : ℤ
  pub last : ℤ

-- b is the position that comes with 5
abbrev pub no_rows : ℕ → ℕ → RowRange
no_rows n b = record { refusal = n; bend = b; some = false; first = pos 0; last = pos 0 }

abbrev pub range_of : Rows → RowRange
range_of r = record { refusal = 0; bend = 0; some = true; first = r.first; last = r.last }

-- rows as they are answered, and the entry's answer
abbrev pub range_values : Option Rows → RowRange
range_values (Some r) = range_of r
range_values None = no_rows 0 0

abbrev pub rows_values : Result (Option Rows) Refusal → RowRange
rows_values (Ok rows) = range_values rows
rows_values (Err r) = no_rows (number_of r) (bend_of r)

abbrev pub ends : RowRange → Rows
ends range = rows_from range.first range.last

-- rows widened by those of one segment more, and of several
unfoldable pub with_rows : RowRange → Rows → RowRange
with_rows range r = cond range.some (range_of (around (ends range) r)) (range_of r)

unfoldable pub with_all : RowRange → List Rows → RowRange
with_all range [] = range
with_all range (r ∷ rs) = with_all (with_rows range r) rs

abbrev pub drawn_in : Joins → ℕ → Rows
drawn_in route k = drawn_rows (segment_in route k)

unfoldable pub rows_in : Joins → RowRange
rows_in route = with_all (no_rows 0 0) (list_from (drawn_in route) 0 (segments_in route))

-- what a loop over rows asks
pub record RowsNear (k : ℕ) (rows : RowRange) : Type 0 where
  pub ordered : rows.first ≤ℤ rows.last
  pub first_near : Within rows.first k
  pub last_near : Within rows.last k

unfoldable pub row_count : RowRange → ℕ
row_count rows = cond rows.some (nat_abs ((rows.last -ℤ rows.first) +ℤ pos 1)) 0

unfoldable pub row_at : RowRange → ℕ → ℤ
row_at rows i = rows.first +ℤ pos i

-- ---- the first refusal of all rows

-- the first of several numbers that is not 0
unfoldable pub first_of : List ℕ → ℕ
first_of [] = 0
first_of (n ∷ ns) = or_else n (first_of ns)

-- 8 where the board of the row at a place has no room
abbrev pub room_at : Joins → RowRange → ℕ → ℕ
room_at route rows i = (board_on route (row_at rows i)).refusal

unfoldable pub rows_refusal : Joins → RowRange → ℕ
rows_refusal route rows = first_of (list_from (room_at route rows) 0 (row_count rows))
