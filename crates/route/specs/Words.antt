-- What 01 says of a route's row in words: the spans of its segments in walk order, when they need more than 32 runs on the way, and what
-- a listing tells of them; and, for 02's K8, which rows have a drawn point.
use Rattle.std.specs.Prelude.{◌≡◌, Bool, true, List, [], ◌∷◌, ◌++◌, ℕ, ◌*◌, ◌<◌, ℤ, pos, length, drop}
use Rattle.whole.specs.Places.{list_from}
use Rattle.shapes.specs.Limits.{board_runs}
use Rattle.shapes.specs.declared.limits.Limits.{Limits}
use Rattle.shapes.specs.declared.Span.{Span}
use Rattle.thick_segment.specs.Segments.{span_on}
use Rattle.thick_segment.specs.Words.{drawn_points, HasRow, Lit}
use Rattle.board.specs.declared.Run.{Run}
use Rattle.board.specs.Runs.{edge, Ascending}
use Rattle.board_laws.specs.Histories.{Event, offers, covered, Lights, runs_in, columns}
use Rattle.route_joins.specs.Joins.{segment_at, segment_count}
use Rattle.route.specs.Rows.{RowRange, ends}
use Rattle.route.specs.Answers.{rows_answer, row_refusal, row_answer, row_to}

-- the span of each segment on a row, in walk order
unfoldable pub spans_on : Bool → List ℤ → ℤ → ℤ → List Span
spans_on closed cs w row = list_from (λ k. span_on (segment_at closed cs w k) row) 0 (segment_count closed cs)

-- the history that offers spans in their order
unfoldable pub offering : List Span → List Event
offering [] = []
offering (s ∷ ss) = offers s ∷ offering ss

-- "after some segment the union needs more than 32 runs": every list of runs that lights just the union of the spans up to that segment's
-- has more
pub record Crowded (ss : List Span) : Type 0 where
  pub before : List Span
  pub span : Span
  pub later : List Span
  pub split : ss ≡ before ++ (span ∷ later)
  pub needs : (rs : List Run) → Lights rs (covered (span ∷ before)) → board_runs < length rs

-- what a row that is not refused leaves: the runs in the lent list light just the columns that some span covers, they ascend with a dark
-- column between, they are as many as is answered, and the total is the number of these columns; what stands in the list beyond them stays
pub record RowTold (limits : Limits) (closed : Bool) (cs : List ℤ) (w row : ℤ) (out : List ℤ) : Type 0 where
  pub lights : Lights (runs_in (row_answer limits closed cs w row (length out)).count (row_to limits closed cs w row out)) (covered (spans_on closed cs w row))
  pub apart : Ascending limits.corner (edge limits.corner) (runs_in (row_answer limits closed cs w row (length out)).count (row_to limits closed cs w row out))
  pub counted : (row_answer limits closed cs w row (length out)).count ≡ length (runs_in (row_answer limits closed cs w row (length out)).count (row_to limits closed cs w row out))
  pub beyond : drop (2 * (row_answer limits closed cs w row (length out)).count) (row_to limits closed cs w row out) ≡ drop (2 * (row_answer limits closed cs w row (length out)).count) out
  pub pixels : (row_answer limits closed cs w row (length out)).total ≡ pos (columns limits.corner (covered (spans_on closed cs w row)))

-- ---- the rows of a route

-- a row is one of the rows, if there are any
pub record Inside (rows : RowRange) (row : ℤ) : Type 0 where
  pub some : rows.some ≡ true
  pub among : HasRow (ends rows) row

-- a line that is drawn of some segment of the walk has a point on the row
pub record Drawn (closed : Bool) (cs : List ℤ) (w row : ℤ) : Type 0 where
  pub place : ℕ
  pub placed : place < segment_count closed cs
  pub lit : Lit (drawn_points (segment_at closed cs w place)) row

-- one of the rows has no room
pub record SomeFull (limits : Limits) (closed : Bool) (cs : List ℤ) (w : ℤ) : Type 0 where
  pub row : ℤ
  pub inside : Inside (rows_answer limits closed cs w) row
  pub full : row_refusal limits closed cs w row ≡ 8
