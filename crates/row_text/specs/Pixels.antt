-- 01, "The route file": the last line gives "the pixels of all printed runs".
use Rattle.std.specs.Prelude.{Bool, cond, List, ℕ, zero, suc, eqb, ℤ, pos, ◌+ℤ◌}
use Rattle.shapes.specs.declared.limits.Limits.{Limits}
use Rattle.board.specs.Runs.{total}
use Rattle.board.specs.Boards.{live}
use Rattle.route_file.specs.Form.{route_count, is_formed}
use Rattle.route_file.specs.Answers.{described, coordinates}
use Rattle.route.specs.declared.Joins.{Joins}
use Rattle.route.specs.Joined.{joins_of}
use Rattle.route.specs.Rows.{RowRange, board_on, rows_in, row_count, row_at}
use Rattle.route.specs.Answers.{whole_refusal}

-- `left` numbers, of the places from i on, added up
unfoldable pub sum_from : (ℕ → ℤ) → ℕ → ℕ → ℤ
sum_from number i zero = pos 0
sum_from number i (suc left) = number i +ℤ sum_from number (suc i) left

-- ---- the pixels of a route

-- the columns of a row's runs
unfoldable pub lit_on : Joins → ℤ → ℤ
lit_on route row = total (live (board_on route row).board)

-- those of the row at place i
unfoldable pub lit_at : Joins → RowRange → ℕ → ℤ
lit_at route rows i = lit_on route (row_at rows i)

unfoldable pub lit_in : Joins → RowRange → ℤ
lit_in route rows = sum_from (lit_at route rows) 0 (row_count rows)

-- "A refused route prints `k refused N` and adds nothing"
unfoldable pub route_pixels : Limits → Bool → List ℤ → ℤ → ℤ
route_pixels limits closed cs w =
    let route = joins_of limits.corner closed cs w in
    cond (eqb (whole_refusal limits closed cs w) 0) (lit_in route (rows_in route)) (pos 0)

-- ---- the pixels of a file

-- those of the route at place k
unfoldable pub entry_pixels : Limits → List ℕ → ℕ → ℤ
entry_pixels limits f k = route_pixels limits (described f k).closed (coordinates f k) (described f k).width

unfoldable pub all_pixels : Limits → List ℕ → ℤ
all_pixels limits f = sum_from (entry_pixels limits f) 0 (route_count f)

-- a refused file prints none
unfoldable pub file_pixels : Limits → List ℕ → ℤ
file_pixels limits f = cond (is_formed f) (all_pixels limits f) (pos 0)
