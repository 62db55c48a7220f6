-- The entries' answers, for any limits: 1 to 4, 12 and 5 for the route, then 6 for a row outside, then 8 for a row that has no room. With 5 comes
-- the position of a join.
use Rattle.std.specs.Prelude.{Bool, false, cond, List, ℕ, eqb, ℤ, pos, replicate, Result, Ok, Err}
use Rattle.whole.specs.Number.{is_within}
use Rattle.shapes.specs.declared.limits.Limits.{Limits}
use Rattle.shapes.specs.Limits.{route_points}
use Rattle.shapes.specs.declared.refusals.Refusal.{Refusal}
use Rattle.shapes.specs.Refusals.{corner_refused, row_refused, or_else, number_of, bend_of, refusal_in, bend_in}
use Rattle.board.specs.declared.Listed.{Listed}
use Rattle.board.specs.Boards.{ListedValues, told, told_to}
use Rattle.coordinates.specs.Refusal.{route_refusal}
use Rattle.route_joins.specs.Joins.{are_joins_near, route_bend}
use Rattle.route.specs.declared.Joins.{Joins}
use Rattle.route.specs.declared.Prepared.{Prepared}
use Rattle.route.specs.Joined.{no_join, joins_of}
use Rattle.route.specs.Rows.{RowRange, board_on, no_rows, rows_in, rows_refusal}

-- ---- 1 to 4, 12, 5, or 0

unfoldable pub draw_refusal : Limits → Bool → List ℤ → ℤ → ℕ
draw_refusal limits closed cs w = or_else (route_refusal limits.point closed cs w) (cond (are_joins_near limits.corner closed cs w) 0 corner_refused)

unfoldable pub no_joins : Joins
no_joins = record { closed = false; count = 0; near = 0; joins = replicate route_points no_join }

-- a route's joins, or its refusal, with the position that comes with 5
pub record PreparedValues : Type 0 where
  pub refusal : ℕ
  pub bend : ℕ
  pub joins : Joins

unfoldable pub prepared_of : Limits → Bool → List ℤ → ℤ → PreparedValues
prepared_of limits closed cs w =
    record {
      refusal = draw_refusal limits closed cs w;
      bend = route_bend limits closed cs w;
      joins = cond (eqb (route_refusal limits.point closed cs w) 0) (joins_of limits.corner closed cs w) no_joins;
    }

-- what `prepare` answers
abbrev pub prepared_values : Prepared → PreparedValues
prepared_values p = record { refusal = refusal_in p.answer; bend = bend_in p.answer; joins = p.joins }

-- ---- the rows of a route

unfoldable pub rows_answer : Limits → Bool → List ℤ → ℤ → RowRange
rows_answer limits closed cs w = let n = draw_refusal limits closed cs w in cond (eqb n 0) (rows_in (joins_of limits.corner closed cs w)) (no_rows n (route_bend limits closed cs w))

-- 8 where some row has no room
unfoldable pub whole_refusal : Limits → Bool → List ℤ → ℤ → ℕ
whole_refusal limits closed cs w = let route = joins_of limits.corner closed cs w in or_else (draw_refusal limits closed cs w) (rows_refusal route (rows_in route))

-- what a route is refused with as a whole, with the position that comes with 5
pub record Verdict : Type 0 where
  pub refusal : ℕ
  pub bend : ℕ

abbrev pub verdict_of : Refusal → Verdict
verdict_of r = record { refusal = number_of r; bend = bend_of r }

abbrev pub verdict_values : {A : Type 0} → Result A Refusal → Verdict
verdict_values r = record { refusal = refusal_in r; bend = bend_in r }

unfoldable pub whole_answer : Limits → Bool → List ℤ → ℤ → Verdict
whole_answer limits closed cs w = record { refusal = whole_refusal limits closed cs w; bend = route_bend limits closed cs w }

-- ---- a row of joins that are kept, k being the rows' limit

-- a row's listing as numbers: in a refusal zeros but for the number, and the position that comes with 5
pub record ListingValues : Type 0 where
  pub refusal : ℕ
  pub bend : ℕ
  pub count : ℕ
  pub total : ℤ

-- b is the position that comes with 5
abbrev pub no_listing : ℕ → ℕ → ListingValues
no_listing n b = record { refusal = n; bend = b; count = 0; total = pos 0 }

abbrev pub listing_values : Result Listed Refusal → ListingValues
listing_values (Ok l) = record { refusal = 0; bend = 0; count = l.count; total = l.total }
listing_values (Err r) = no_listing (number_of r) (bend_of r)

abbrev pub listing_of : ListedValues → ListingValues
listing_of l = record { refusal = l.refusal; bend = 0; count = l.count; total = l.total }

-- 6, then 8 where the row needs too many runs after some segment
unfoldable pub refusal_on : ℕ → Joins → ℤ → ℕ
refusal_on k route row = cond (is_within k row) (board_on route row).refusal row_refused

-- the listing of its board; `n` is the length of the list lent for it
unfoldable pub answer_on : ℕ → Joins → ℤ → ℕ → ListingValues
answer_on k route row n = let m = refusal_on k route row in cond (eqb m 0) (listing_of (told (board_on route row).board n)) (no_listing m 0)

-- what the lent list holds afterwards
unfoldable pub list_on : ℕ → Joins → ℤ → List ℤ → List ℤ
list_on k route row out = cond (eqb (refusal_on k route row) 0) (told_to (board_on route row).board out) out

-- ---- a route's row

-- that of the route, then 6, then 8 where the row needs too many runs after some segment, or 0
unfoldable pub row_refusal : Limits → Bool → List ℤ → ℤ → ℤ → ℕ
row_refusal limits closed cs w row = or_else (draw_refusal limits closed cs w) (refusal_on limits.corner (joins_of limits.corner closed cs w) row)

unfoldable pub row_answer : Limits → Bool → List ℤ → ℤ → ℤ → ℕ → ListingValues
row_answer limits closed cs w row n =
    let d = draw_refusal limits closed cs w in
    cond (eqb d 0) (answer_on limits.corner (joins_of limits.corner closed cs w) row n) (no_listing d (route_bend limits closed cs w))

unfoldable pub row_to : Limits → Bool → List ℤ → ℤ → ℤ → List ℤ → List ℤ
row_to limits closed cs w row out =
    cond (eqb (draw_refusal limits closed cs w) 0) (list_on limits.corner (joins_of limits.corner closed cs w) row out) out
