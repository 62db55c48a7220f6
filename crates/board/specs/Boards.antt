-- 01, "The board" and the numbers 6, 7 and 8: what each entry answers, for rows and columns from -k to k.
use Rattle.std.specs.Prelude.{Bool, cond, ◌&&◌, List, [], ◌++◌, ℕ, ◌-◌, ◌*◌, ◌≤◌, leb, ℤ, pos, length, take, drop, replicate, Result, Ok, Err}
use Rattle.whole.specs.Number.{Within, is_within, eq_z}
use Rattle.shapes.specs.Limits.{board_runs}
use Rattle.shapes.specs.declared.refusals.Refusal.{Refusal}
use Rattle.shapes.specs.Refusals.{row_refused, column_refused, room_refused, number_of, refusal_in}
use Rattle.shapes.specs.Spans.{is_empty, is_span_sound}
use Rattle.shapes.specs.declared.Span.{Span}
use Rattle.board.specs.declared.Run.{Run}
use Rattle.board.specs.declared.Board.{Board}
use Rattle.board.specs.declared.Listed.{Listed}
use Rattle.board.specs.Runs.{run_of, no_run, edge, Ascending, is_ascending, with_run, total, flat}

-- ---- a board and its list of runs

-- the runs of a board: the first `count` of its array
unfoldable pub live : Board → List Run
live b = take b.count b.runs

-- a list of runs in an array, with nothing but 0 after them
unfoldable pub padded : List Run → List Run
padded rs = rs ++ replicate (board_runs - length rs) no_run

-- the board of a row and a list of runs
unfoldable pub board_of : ℤ → List Run → Board
board_of y rs = record { row = y; count = length rs; runs = padded rs }

-- 01: "a board handed in whose row, count and runs no fresh board can come to (row outside, more than 32 runs, a run empty
-- or outside the columns, runs not ascending with a dark column between)" is not sound
pub record Sound (k : ℕ) (b : Board) : Type 0 where
  pub row_near : Within b.row k
  pub few : b.count ≤ board_runs
  pub ascending : Ascending k (edge k) (live b)

-- the test for that
unfoldable pub is_sound : ℕ → Board → Bool
is_sound k b = leb b.count board_runs && (is_within k b.row && is_ascending k (edge k) (live b))

-- ---- answers as numbers and values

pub record Answer : Type 0 where
  pub refusal : ℕ
  pub board : Board

pub record ListedValues : Type 0 where
  pub refusal : ℕ
  pub count : ℕ
  pub total : ℤ

-- a board, with a refusal's number or 0
abbrev pub answer_of : ℕ → Board → Answer
answer_of n b = record { refusal = n; board = b }

-- "A refusal returns its number only, with 0 for every other field of the answer"
abbrev pub no_board : Board
no_board = record { row = pos 0; count = 0; runs = replicate board_runs no_run }

abbrev pub not_listed : ℕ → ListedValues
not_listed n = record { refusal = n; count = 0; total = pos 0 }

-- a fresh board, or why there is none
abbrev pub fresh_values : Result Board Refusal → Answer
fresh_values (Ok b) = answer_of 0 b
fresh_values (Err r) = answer_of (number_of r) no_board

-- what a change of a lent board answers, and the board afterwards
abbrev pub answer_values : {A : Type 0} → Result A Refusal → Board → Answer
answer_values r b = answer_of (refusal_in r) b

abbrev pub listed_values : Result Listed Refusal → ListedValues
listed_values (Ok l) = record { refusal = 0; count = l.count; total = l.total }
listed_values (Err r) = not_listed (number_of r)

-- ---- a fresh board

unfoldable pub begun : ℕ → ℤ → Answer
begun k y = cond (is_within k y) (answer_of 0 (board_of y [])) (answer_of row_refused no_board)

abbrev pub fresh_refusal : ℕ → ℤ → ℕ
fresh_refusal k y = (begun k y).refusal

-- ---- a span offered

abbrev pub span_run : Span → Run
span_run s = run_of s.start s.end

-- The answer for a board and a span that no test refuses: an empty span "changes nothing"; 8 is given "exactly when the union with the
-- offered span would need more than 32 runs".
unfoldable pub added : Board → Span → Answer
added b s =
    let union = with_run (span_run s) (live b) in
    cond (is_empty s) (answer_of 0 b) (cond (leb (length union) board_runs) (answer_of 0 (board_of b.row union)) (answer_of room_refused b))

-- 6 for the board or the span's row, then 7
unfoldable pub offered : ℕ → Board → Span → Answer
offered k b s =
    cond (is_sound k b && eq_z s.row b.row)
    (cond (is_span_sound k s) (added b s) (answer_of column_refused b))
    (answer_of row_refused b)

abbrev pub offer_refusal : ℕ → Board → Span → ℕ
offer_refusal k b s = (offered k b s).refusal

-- ---- a board cleared

unfoldable pub cleared : ℕ → Board → Answer
cleared k b = cond (is_sound k b) (answer_of 0 (board_of b.row [])) (answer_of row_refused b)

abbrev pub clear_refusal : ℕ → Board → ℕ
clear_refusal k b = (cleared k b).refusal

-- ---- a board listed to a lent list of numbers

-- "A listing gives the runs and their total"
abbrev pub listing : Board → ListedValues
listing b = record { refusal = 0; count = length (live b); total = total (live b) }

-- The answer for a board that no test refuses: "8 if the list has fewer than two numbers, or one record, for each run": here the
-- numbers; n is the list's length.
unfoldable pub told : Board → ℕ → ListedValues
told b n = cond (leb (2 * length (live b)) n) (listing b) (not_listed room_refused)

-- the runs' numbers, and then what was there: "entries beyond the runs keep their content"
unfoldable pub over : List ℤ → List Run → List ℤ
over out rs = flat rs ++ drop (2 * length rs) out

-- what the lent list holds afterwards
unfoldable pub told_to : Board → List ℤ → List ℤ
told_to b out = cond (leb (2 * length (live b)) (length out)) (over out (live b)) out

-- 6 before that
unfoldable pub listed : ℕ → Board → ℕ → ListedValues
listed k b n = cond (is_sound k b) (told b n) (not_listed row_refused)

abbrev pub list_refusal : ℕ → Board → ℕ → ℕ
list_refusal k b n = (listed k b n).refusal

unfoldable pub listed_to : ℕ → Board → List ℤ → List ℤ
listed_to k b out = cond (is_sound k b) (told_to b out) out
