-- Laws of the second listing: when it is refused, and what it answers and writes. Assumes nothing.
use mathlib.Core.Path.{◌≡◌, sym, ap, ◌∙◌}
use mathlib.Core.Bool.{true}
use mathlib.Core.List.{List, ◌++◌}
use mathlib.Core.Logic.{◌↔◌, ◌≢◌}
use Prim.Native.Nat.{ℕ, ◌*◌, ◌≤◌}
use lib.Dec.{leb}
use lib.IntN.{ℤ}
use lib.ListN.{length, take, drop}
use lib.Seq.{take-append_seam}
use Rattle.whole.proofs.Tests.{and-iff, leb-iff}
use Rattle.std.specs.Prelude.{Ok, Err}
use Rattle.shapes.specs.declared.refusals.Refusal.{Refusal}
use Rattle.shapes.proofs.Numbers.{number-some}
use Rattle.board.specs.declared.Run.{Run}
use Rattle.board.specs.declared.Board.{Board}
use Rattle.board.specs.declared.Listed.{Listed}
use Rattle.board.specs.Boards.{ListedValues, listed_values, live, Sound, is_sound, not_listed, listing, over}
use Rattle.board_laws.proofs.Refused.{accepted-by, refused-by, written-by, kept_by, zero-by, six-by, eight-by}
use Rattle.board_records.specs.Records.{has_room, both_refusal, both_listed, numbers_to, records_over, records_to}

-- ---- refused exactly when

-- two numbers and one record for each run
abbrev pub Room : Board → ℕ → ℕ → Type 0
Room b n m = (2 * length (live b) ≤ n) × (length (live b) ≤ m)

room-iff : (b : Board) (n m : ℕ) → (has_room b n m ≡ true) ↔ Room b n m
room-iff b n m = and-iff (leb (2 * length (live b)) n) (leb (length (live b)) m) (leb-iff (2 * length (live b)) n) (leb-iff (length (live b)) m)

module _ (k : ℕ) (b : Board) (n m : ℕ) where
  pub zero-exactly : (both_refusal k b n m ≡ 0) ↔ (Sound k b × Room b n m)
  unfolding both_listed
  zero-exactly = zero-by b k (has_room b n m) (room-iff b n m)

  pub six-exactly : (both_refusal k b n m ≡ 6) ↔ (Sound k b → ⊥)
  unfolding both_listed
  six-exactly = six-by b k (has_room b n m) (room-iff b n m)

  pub eight-exactly : (both_refusal k b n m ≡ 8) ↔ (Sound k b × (Room b n m → ⊥))
  unfolding both_listed
  eight-exactly = eight-by b k (has_room b n m) (room-iff b n m)

  -- ---- what is answered, and what the lists hold afterwards

  pub accepted-answer : both_refusal k b n m ≡ 0 → both_listed k b n m ≡ listing b
  unfolding both_listed
  accepted-answer = accepted-by b (is_sound k b) (has_room b n m)

  pub refused-answer : both_refusal k b n m ≢ 0 → both_listed k b n m ≡ not_listed (both_refusal k b n m)
  unfolding both_listed
  refused-answer = refused-by b (is_sound k b) (has_room b n m)

module _ (k : ℕ) (b : Board) (out : List ℤ) (m : ℕ) where
  -- the runs' numbers, and then what was there
  pub accepted-numbers : both_refusal k b (length out) m ≡ 0 → numbers_to k b out m ≡ over out (live b)
  unfolding both_listed numbers_to
  accepted-numbers = written-by b (over out (live b)) out (is_sound k b) (has_room b (length out) m)

  pub refused-numbers : both_refusal k b (length out) m ≢ 0 → numbers_to k b out m ≡ out
  unfolding both_listed numbers_to
  refused-numbers = kept_by b (over out (live b)) out (is_sound k b) (has_room b (length out) m)

module _ (k : ℕ) (b : Board) (n : ℕ) (records : List Run) where
  -- the runs, and then what was there
  pub accepted-records : both_refusal k b n (length records) ≡ 0 → records_to k b n records ≡ live b ++ drop (length (live b)) records
  unfolding both_listed records_to records_over
  accepted-records = written-by b (records_over records (live b)) records (is_sound k b) (has_room b n (length records))

  -- what is read back are the runs
  pub records-read : both_refusal k b n (length records) ≡ 0 → take (both_listed k b n (length records)).count (records_to k b n records) ≡ live b
  records-read e = rw (accepted-answer k b n (length records) e, accepted-records e) (take-append_seam (live b) (drop (length (live b)) records))

  pub refused-records : both_refusal k b n (length records) ≢ 0 → records_to k b n records ≡ records
  unfolding both_listed records_to
  refused-records = kept_by b (records_over records (live b)) records (is_sound k b) (has_room b n (length records))

-- ---- what an answer says of the second list: there is room for the runs, and they are written; refused, it is as it was

module _ (k : ℕ) (b : Board) (n : ℕ) (records : List Run) where
  module _ {l : Listed} (e : listed_values (Ok l) ≡ both_listed k b n (length records)) where
    accepted : both_refusal k b n (length records) ≡ 0
    accepted = sym (ap (λ (v : ListedValues). v.refusal) e)

    pub ok-sound : Sound k b
    ok-sound = ((zero-exactly k b n (length records)).0 accepted).0

    pub ok-room : length (live b) ≤ length records
    ok-room = ((zero-exactly k b n (length records)).0 accepted).1.1

    pub ok-records : records_over records (live b) ≡ records_to k b n records
    unfolding records_over
    ok-records = sym (accepted-records k b n records accepted)

  pub err-records : (r : Refusal) → listed_values (Err r) ≡ both_listed k b n (length records) → records ≡ records_to k b n records
  err-records r e = sym (refused-records k b n records (λ z. number-some r (ap (λ (v : ListedValues). v.refusal) e ∙ z)))
