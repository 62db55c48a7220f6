-- The second listing, from values to values: the answer, and what the two lists hold afterwards.
use Rattle.std.specs.Prelude.{List, ℤ, length}
use Rattle.shapes.specs.Limits.{corner_limit}
use Rattle.board.specs.declared.Run.{Run}
use Rattle.board.specs.declared.Board.{Board}
use Rattle.board.specs.Boards.{ListedValues, listed_values}
use Rattle.board_records.specs.Records.{both_listed, numbers_to, records_to}
use Rattle.test_in_place.specs.declared.owners.Lists.{Lists}

pub record ListsValues : Type 0 where
  pub listed : ListedValues
  pub numbers : List ℤ
  pub records : List Run

abbrev pub lists_values : Lists → ListsValues
lists_values l = record { listed = listed_values l.listed; numbers = l.numbers; records = l.records }

unfoldable pub lists_of : Board → List ℤ → List Run → ListsValues
lists_of b ns rs = record { listed = both_listed corner_limit b (length ns) (length rs); numbers = numbers_to corner_limit b ns (length rs); records = records_to corner_limit b (length ns) rs }
