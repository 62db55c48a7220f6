-- Each refusal of an entry exactly when 01's table gives it, and what a refused entry answers: its number, 0 for every other field, the
-- board handed in as it was and the lent list as it was. Assumes nothing.
use mathlib.Core.Path.{◌≡◌, refl}
use mathlib.Core.Bool.{Bool, true, false, cond}
use mathlib.Core.List.{List, []}
use mathlib.Core.Logic.{◌↔◌, ◌≢◌, ⊎_elim}
use Prim.Native.Nat.{ℕ, ◌*◌, ◌≤◌}
use native.Mathlib.Omega.{arith}
use lib.Dec.{leb}
use lib.IntN.{ℤ}
use lib.ListN.{length}
use Rattle.whole.specs.Number.{Within, is_within}
use Rattle.whole.proofs.Laws.{within-iff}
use Rattle.whole.proofs.Tests.{Chosen, chosen, chosen-exactly, good-first, good-later, bad-first, never, leb-iff, either}
use Rattle.shapes.specs.declared.Span.{Span}
use Rattle.board.specs.declared.Board.{Board}
use Rattle.board.specs.Boards.{ListedValues, live, board_of, Sound, is_sound, answer_of, no_board, not_listed, begun, fresh_refusal, offered, offer_refusal, cleared, clear_refusal, listing, told, over, told_to, listed, list_refusal, listed_to}
use Rattle.board.proofs.Sound.{sound-iff}
use Rattle.board_laws.proofs.Offers.{added-either, offered-cases}

-- ---- a fresh board

module _ (k : ℕ) (y : ℤ) where
  pub fresh-chosen : Chosen (Within y k) (begun k y) (answer_of 0 (board_of y [])) (answer_of 6 no_board)
  unfolding begun
  fresh-chosen = chosen (is_within k y) (answer_of 0 (board_of y [])) (answer_of 6 no_board) (within-iff k y)

  pub fresh-six : (fresh_refusal k y ≡ 6) ↔ (Within y k → ⊥)
  fresh-six = chosen-exactly (λ a. a.refusal) refl refl (omega arith) fresh-chosen

  pub refused-fresh : fresh_refusal k y ≢ 0 → begun k y ≡ answer_of (fresh_refusal k y) no_board
  unfolding begun
  refused-fresh = either (λ a. a.refusal ≢ 0 → a ≡ answer_of a.refusal no_board) (is_within k y) (λ _ some. absurd (some refl)) (λ _ _. refl)

-- ---- an offer (its numbers are in Offers.antt)

pub refused-offer : (k : ℕ) (b : Board) (s : Span) → offer_refusal k b s ≢ 0 → offered k b s ≡ answer_of (offer_refusal k b s) b
refused-offer k b s =
    offered-cases b s (λ a. a.refusal ≢ 0 → a ≡ answer_of a.refusal b) k (λ _ _. refl) (λ _ _ _ _. refl)
    (λ _ some. ⊎_elim (λ none. absurd (some none)) (λ full. rw full) (added-either b s))

-- ---- a clear

module _ (k : ℕ) (b : Board) where
  pub clear-chosen : Chosen (Sound k b) (cleared k b) (answer_of 0 (board_of b.row [])) (answer_of 6 b)
  unfolding cleared
  clear-chosen = chosen (is_sound k b) (answer_of 0 (board_of b.row [])) (answer_of 6 b) (sound-iff k b)

  pub clear-six : (clear_refusal k b ≡ 6) ↔ (Sound k b → ⊥)
  clear-six = chosen-exactly (λ a. a.refusal) refl refl (omega arith) clear-chosen

  pub refused-clear : clear_refusal k b ≢ 0 → cleared k b ≡ answer_of (clear_refusal k b) b
  unfolding cleared
  refused-clear = either (λ a. a.refusal ≢ 0 → a ≡ answer_of a.refusal b) (is_sound k b) (λ _ some. absurd (some refl)) (λ _ _. refl)

-- ---- a listing, to one list or two: 6 where the board is not sound, 8 where there is no room

module _ (b : Board) where
  abbrev pub answer : Bool → Bool → ListedValues
  answer sound room = cond sound (cond room (listing b) (not_listed 8)) (not_listed 6)

  number_by : (t u : Bool) → (answer t u).refusal ≡ cond t (cond u 0 8) 6
  number_by true true = refl
  number_by true false = refl
  number_by false u = refl

  pub accepted-by : (t u : Bool) → (answer t u).refusal ≡ 0 → answer t u ≡ listing b
  accepted-by true true e = refl
  accepted-by true false e = absurd (omega arith)
  accepted-by false u e = absurd (omega arith)

  pub refused-by : (t u : Bool) → (answer t u).refusal ≢ 0 → answer t u ≡ not_listed (answer t u).refusal
  refused-by true true some = absurd (some refl)
  refused-by true false some = refl
  refused-by false u some = refl

  -- a lent list
  module _ {A : Type 0} (written before : A) where
    pub written-by : (t u : Bool) → (answer t u).refusal ≡ 0 → cond t (cond u written before) before ≡ written
    written-by true true e = refl
    written-by true false e = absurd (omega arith)
    written-by false u e = absurd (omega arith)

    pub kept_by : (t u : Bool) → (answer t u).refusal ≢ 0 → cond t (cond u written before) before ≡ before
    kept_by true true some = absurd (some refl)
    kept_by true false some = refl
    kept_by false u some = refl

  -- each number exactly when, where P says that there is room
  module _ (k : ℕ) {P : Type 0} (room : Bool) (exactly : (room ≡ true) ↔ P) where
    pub zero-by : ((answer (is_sound k b) room).refusal ≡ 0) ↔ (Sound k b × P)
    zero-by = rw (number_by (is_sound k b) room) (good-later (is_sound k b) (sound-iff k b) (λ e. omega arith) (bad-first room exactly (λ e. omega arith)))

    pub six-by : ((answer (is_sound k b) room).refusal ≡ 6) ↔ (Sound k b → ⊥)
    six-by = rw (number_by (is_sound k b) room) (good-first (is_sound k b) (sound-iff k b) (never room (λ e. omega arith) (λ e. omega arith)))

    pub eight-by : ((answer (is_sound k b) room).refusal ≡ 8) ↔ (Sound k b × (P → ⊥))
    eight-by = rw (number_by (is_sound k b) room) (good-later (is_sound k b) (sound-iff k b) (λ e. omega arith) (good-first room exactly (λ e. omega arith)))

module _ (k : ℕ) (b : Board) (n : ℕ) where
  abbrev room : Bool
  room = leb (2 * length (live b)) n

  pub list-zero : (list_refusal k b n ≡ 0) ↔ (Sound k b × (2 * length (live b) ≤ n))
  unfolding listed told
  list-zero = zero-by b k room (leb-iff (2 * length (live b)) n)

  pub list-six : (list_refusal k b n ≡ 6) ↔ (Sound k b → ⊥)
  unfolding listed told
  list-six = six-by b k room (leb-iff (2 * length (live b)) n)

  pub list-eight : (list_refusal k b n ≡ 8) ↔ (Sound k b × (2 * length (live b) ≤ n → ⊥))
  unfolding listed told
  list-eight = eight-by b k room (leb-iff (2 * length (live b)) n)

  pub accepted-list : list_refusal k b n ≡ 0 → listed k b n ≡ listing b
  unfolding listed told
  accepted-list = accepted-by b (is_sound k b) room

  pub refused-list : list_refusal k b n ≢ 0 → listed k b n ≡ not_listed (list_refusal k b n)
  unfolding listed told
  refused-list = refused-by b (is_sound k b) room

module _ (k : ℕ) (b : Board) (out : List ℤ) where
  pub accepted-numbers : list_refusal k b (length out) ≡ 0 → listed_to k b out ≡ over out (live b)
  unfolding listed told listed_to told_to
  accepted-numbers = written-by b (over out (live b)) out (is_sound k b) (room k b (length out))

  pub refused-numbers : list_refusal k b (length out) ≢ 0 → listed_to k b out ≡ out
  unfolding listed told listed_to told_to
  refused-numbers = kept_by b (over out (live b)) out (is_sound k b) (room k b (length out))
