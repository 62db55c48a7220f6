-- 01, "The board": the union of a board's runs and a span, and an offer that neither 6 nor 7 refuses.
use Rattle.std.specs.Prelude.{cond, List, ◌≡◌, ℕ, ℤ}
use Rattle.shapes.specs.Spans.{is_empty, SpanSound}
use Rattle.shapes.specs.declared.Span.{Span}
use Rattle.board.specs.declared.Run.{Run}
use Rattle.board.specs.declared.Board.{Board}
use Rattle.board.specs.Runs.{with_run}
use Rattle.board.specs.Boards.{Sound, span_run}

-- an empty span "changes nothing"
unfoldable pub with_span : Span → List Run → List Run
with_span s rs = cond (is_empty s) rs (with_run (span_run s) rs)

-- a span of the row y with all its columns from -k to k
pub record Proper (k : ℕ) (y : ℤ) (s : Span) : Type 0 where
  pub same_row : s.row ≡ y
  pub inside : SpanSound k s

-- "an otherwise sound offer"
pub record Offerable (k : ℕ) (b : Board) (s : Span) : Type 0 where
  pub sound : Sound k b
  pub proper : Proper k b.row s
