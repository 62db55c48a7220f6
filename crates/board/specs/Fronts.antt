-- An offer half done: the first runs of the answer stand in an array, then comes the offered run with all that it joins, and then the
-- board's runs from a place on.
use Rattle.std.specs.Prelude.{List, ◌∷◌, ◌++◌, ◌≡◌, ℕ, ◌-◌, ◌≤◌, length, take, drop, replicate}
use Rattle.shapes.specs.Limits.{board_runs}
use Rattle.board.specs.declared.inner.Front.{Front}
use Rattle.board.specs.declared.Run.{Run}
use Rattle.board.specs.Runs.{no_run}

-- the array holds the first `count` runs of a list, with nothing but 0 after them, and `rest` is what is left of it
pub record Filling (runs : List Run) (count : ℕ) (rest all : List Run) : Type 0 where
  pub array : runs ≡ take count all ++ replicate (board_runs - count) no_run
  pub place : count ≤ length all
  pub left : drop count all ≡ rest

-- what is left of the answer where the board has the runs rs
abbrev pub left_of : Front → List Run → List Run
left_of f rs = f.run ∷ drop f.next rs

-- all of the answer
unfoldable pub whole_of : Front → List Run → List Run
whole_of f rs = take f.count f.runs ++ left_of f rs

-- the answer is `all`, and what stands in the array was made of the runs before `next`
pub record Gathered (f : Front) (rs all : List Run) : Type 0 where
  pub filling : Filling f.runs f.count (left_of f rs) all
  pub fewer : f.count ≤ f.next
  pub inside : f.next ≤ length rs
