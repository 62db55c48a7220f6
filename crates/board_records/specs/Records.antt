-- 01, "The board": the second listing, to a lent list of numbers and then also to a lent list of run records.
use Rattle.std.specs.Prelude.{Bool, cond, ◌&&◌, List, ◌++◌, ℕ, ◌*◌, leb, ℤ, length, drop}
use Rattle.shapes.specs.Refusals.{row_refused, room_refused}
use Rattle.board.specs.declared.Run.{Run}
use Rattle.board.specs.declared.Board.{Board}
use Rattle.board.specs.Boards.{ListedValues, live, is_sound, not_listed, listing, over}

-- two numbers and one record for each run; n and m are the lengths of the two lists
abbrev pub has_room : Board → ℕ → ℕ → Bool
has_room b n m = leb (2 * length (live b)) n && leb (length (live b)) m

-- 6 for the board, then "8 if the list has fewer than two numbers, or one record, for each run"
unfoldable pub both_listed : ℕ → Board → ℕ → ℕ → ListedValues
both_listed k b n m = cond (is_sound k b) (cond (has_room b n m) (listing b) (not_listed room_refused)) (not_listed row_refused)

abbrev pub both_refusal : ℕ → Board → ℕ → ℕ → ℕ
both_refusal k b n m = (both_listed k b n m).refusal

-- what the list of numbers holds afterwards, beside m records
unfoldable pub numbers_to : ℕ → Board → List ℤ → ℕ → List ℤ
numbers_to k b out m = cond (is_sound k b) (cond (has_room b (length out) m) (over out (live b)) out) out

-- the runs, and then what was there: "Entries beyond the runs keep their content"
unfoldable pub records_over : List Run → List Run → List Run
records_over records rs = rs ++ drop (length rs) records

-- what the list of records holds afterwards, beside n numbers
unfoldable pub records_to : ℕ → Board → ℕ → List Run → List Run
records_to k b n records = cond (is_sound k b) (cond (has_room b n (length records)) (records_over records (live b)) records) records
