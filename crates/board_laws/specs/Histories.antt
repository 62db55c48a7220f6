-- Demand 3, over histories: offers, clears and listings in any number and order, from a fresh board on, for rows and columns from -k to k.
use Rattle.std.specs.Prelude.{Bool, false, cond, ◌||◌, List, [], ◌∷◌, ◌++◌, ◌≢◌, ◌⊎◌, ◌≡◌, ℕ, zero, suc, ◌+◌, ◌*◌, ◌≤◌, ◌<◌, eqb, ℤ, pos, neg_ℤ, length, drop}
use Rattle.whole.specs.Number.{Within}
use Rattle.whole.specs.Columns.{between, count_from}
use Rattle.shapes.specs.Limits.{board_runs}
use Rattle.shapes.specs.Spans.{SpanSound}
use Rattle.shapes.specs.declared.Span.{Span}
use Rattle.board.specs.declared.Run.{Run}
use Rattle.board.specs.declared.Board.{Board}
use Rattle.board.specs.Runs.{run_of, lit, total, edge, Ascending}
use Rattle.board.specs.Boards.{live, fresh_refusal, begun, offer_refusal, offered, clear_refusal, cleared, list_refusal, listed, listed_to}
use Rattle.board_laws.specs.Offers.{Proper}

-- a listing names what the lent list holds
pub data Event : Type 0 where
  offers : Span → Event
  clears : Event
  lists : List ℤ → Event

-- the board after an event; the listing's entry answers no board, so its caller keeps the one it has
unfoldable pub after : ℕ → Board → Event → Board
after k b (offers s) = (offered k b s).board
after k b clears = (cleared k b).board
after k b (lists out) = b

-- the board after a history, from its first event to its last
unfoldable pub reached : ℕ → Board → List Event → Board
reached k b [] = b
reached k b (e ∷ es) = reached k (after k b e) es

-- the spans accepted since the last clear, latest first, where those of `held` came before
unfoldable pub accepted : ℕ → Board → List Span → List Event → List Span
accepted k b held [] = held
accepted k b held (offers s ∷ es) = accepted k (after k b (offers s)) (cond (eqb (offer_refusal k b s) 0) (s ∷ held) held) es
accepted k b held (clears ∷ es) = accepted k (after k b clears) [] es
accepted k b held (lists out ∷ es) = accepted k b held es

-- the column x is covered by one of the spans
unfoldable pub covered : List Span → ℤ → Bool
covered [] x = false
covered (s ∷ ss) x = between s.start s.end x || covered ss x

-- ---- of the row y's fresh board

abbrev pub board_after : ℕ → ℤ → List Event → Board
board_after k y es = reached k (begun k y).board es

abbrev pub runs_after : ℕ → ℤ → List Event → List Run
runs_after k y es = live (board_after k y es)

abbrev pub spans_after : ℕ → ℤ → List Event → List Span
spans_after k y es = accepted k (begun k y).board [] es

-- the runs light the column x exactly where the test says so
abbrev pub Lights : List Run → (ℤ → Bool) → Type 0
Lights rs p = (x : ℤ) → lit rs x ≡ p x

-- how many different columns pass the test
abbrev pub columns : ℕ → (ℤ → Bool) → ℕ
columns k p = count_from p (neg_ℤ (pos k)) (2 * k + 1)

-- the first n runs that stand in a list of numbers, start and end of each in turn
unfoldable pub runs_in : ℕ → List ℤ → List Run
runs_in zero out = []
runs_in (suc n) [] = []
runs_in (suc n) (s ∷ []) = []
runs_in (suc n) (s ∷ e ∷ out) = run_of s e ∷ runs_in n out

-- two boards have the same runs, and every listing of them answers and writes the same
pub record ListedAlike (k : ℕ) (b c : Board) : Type 0 where
  pub runs : live b ≡ live c
  pub answers : (n : ℕ) → listed k b n ≡ listed k c n
  pub writes : (out : List ℤ) → listed_to k b out ≡ listed_to k c out

pub record Demand3 (k : ℕ) (y : ℤ) (es : List Event) : Type 0 where
  -- (a) the runs hold exactly the columns covered by spans accepted since the last clear
  pub exact : Lights (runs_after k y es) (covered (spans_after k y es))
  -- (b) their pixels number the different columns covered
  pub pixels : total (runs_after k y es) ≡ pos (columns k (covered (spans_after k y es)))
  -- (c) runs ascend with a dark column between neighbours, none empty, all inside
  pub apart : Ascending k (edge k) (runs_after k y es)
  -- (d) a history with the same covered columns, in whatever order they came, has the same runs and is listed alike
  pub canonical : (z : ℤ) (fs : List Event) → Within z k
      → ((x : ℤ) → covered (spans_after k y es) x ≡ covered (spans_after k z fs) x) → ListedAlike k (board_after k y es) (board_after k z fs)
  -- (e) an otherwise sound offer is refused with 8 exactly when the union needs more than 32 runs, and with no other number. Refused:
  -- every list of runs that lights just the union has more, in whatever order they stand, touching or not. Needed: every one that ascends
  -- with a dark column between has more
  pub refused : (s : Span) → Proper k y s → offer_refusal k (board_after k y es) s ≡ 8
      → (rs : List Run) → Lights rs (covered (s ∷ spans_after k y es)) → board_runs < length rs
  pub needed : (s : Span) → Proper k y s
      → ((rs : List Run) → Ascending k (edge k) rs → Lights rs (covered (s ∷ spans_after k y es)) → board_runs < length rs)
      → offer_refusal k (board_after k y es) s ≡ 8
  pub no_other : (s : Span) → Proper k y s → (offer_refusal k (board_after k y es) s ≡ 0) ⊎ (offer_refusal k (board_after k y es) s ≡ 8)
  -- before that, 6 for another row and then 7 for a column outside; whatever the number, a refused board is as it was
  pub other_row : (s : Span) → s.row ≢ y → offer_refusal k (board_after k y es) s ≡ 6
  pub outside : (s : Span) → s.row ≡ y → (SpanSound k s → ⊥) → offer_refusal k (board_after k y es) s ≡ 7
  pub unchanged : (s : Span) → offer_refusal k (board_after k y es) s ≢ 0 → (offered k (board_after k y es) s).board ≡ board_after k y es
  -- the row's fresh board is accepted, and so is every clear
  pub fresh : fresh_refusal k y ≡ 0
  pub clearable : clear_refusal k (board_after k y es) ≡ 0
  -- (f) a listing, wherever it stands in a history, changes nothing. It is refused with 8 exactly when the list has fewer than two numbers
  -- for each run; else what it wrote are the runs, as many as it answers, entries beyond them keep their content, and its total is theirs
  pub kept : (out : List ℤ) (fs : List Event) → board_after k y (es ++ (lists out ∷ fs)) ≡ board_after k y (es ++ fs)
  pub roomy : (out : List ℤ) → 2 * length (runs_after k y es) ≤ length out → list_refusal k (board_after k y es) (length out) ≡ 0
  pub short : (out : List ℤ) → length out < 2 * length (runs_after k y es) → list_refusal k (board_after k y es) (length out) ≡ 8
  pub counted : (out : List ℤ) → list_refusal k (board_after k y es) (length out) ≡ 0
      → (listed k (board_after k y es) (length out)).count ≡ length (runs_after k y es)
  pub written : (out : List ℤ) → list_refusal k (board_after k y es) (length out) ≡ 0
      → runs_in (listed k (board_after k y es) (length out)).count (listed_to k (board_after k y es) out) ≡ runs_after k y es
  pub beyond : (out : List ℤ) → drop (2 * length (runs_after k y es)) (listed_to k (board_after k y es) out) ≡ drop (2 * length (runs_after k y es)) out
  pub summed : (out : List ℤ) → list_refusal k (board_after k y es) (length out) ≡ 0
      → (listed k (board_after k y es) (length out)).total
      ≡ total (runs_in (listed k (board_after k y es) (length out)).count (listed_to k (board_after k y es) out))

-- 01: a board whose "row, count and runs" a fresh board can come to: some history of its row's fresh board ends with them.
-- What stands in the array beyond the runs is no run, and is not looked at.
pub record Reachable (k : ℕ) (b : Board) : Type 0 where
  pub row_near : Within b.row k
  pub history : List Event
  pub same_row : (board_after k b.row history).row ≡ b.row
  pub same_count : (board_after k b.row history).count ≡ b.count
  pub same_runs : runs_after k b.row history ≡ live b
