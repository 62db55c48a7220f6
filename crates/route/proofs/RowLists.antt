-- What a listing of a row of kept joins answers, and what it leaves in the lent list. Assumes nothing.
use mathlib.Core.Path.{◌≡◌, refl, sym, ap, ◌∙◌}
use mathlib.Core.Logic.{◌≢◌}
use mathlib.Core.Bool.{true, false}
use mathlib.Core.List.{List}
use Prim.Native.Nat.{ℕ}
use native.Mathlib.Omega.{arith}
use borrow.Author.Tests.{ne_eqb}
use lib.IntN.{ℤ}
use lib.ListN.{length}
use Rattle.std.specs.Prelude.{Result, Ok, Err}
use Rattle.whole.specs.Number.{is_within}
use Rattle.shapes.specs.declared.refusals.Refusal.{Refusal}
use Rattle.route.proofs.Refused.{told-most}
use Rattle.shapes.proofs.Numbers.{unbent}
use Rattle.shapes.specs.Refusals.{row_refused}
use Rattle.board.specs.declared.Board.{Board}
use Rattle.board.specs.declared.Listed.{Listed}
use Rattle.board.specs.Boards.{ListedValues, listed_values, told, told_to}
use Rattle.route.specs.declared.Joins.{Joins}
use Rattle.route.specs.Rows.{board_on}
use Rattle.route.specs.Answers.{ListingValues, no_listing, listing_of, listing_values, refusal_on, answer_on, list_on}

module _ (k : ℕ) (route : Joins) (row : ℤ) (out : List ℤ) where
  abbrev Lists : ListingValues → List ℤ → Type 0
  Lists answer after = (answer ≡ answer_on k route row (length out)) × (after ≡ list_on k route row out)

  pub refused-on : {l : ListingValues} {m : ℕ} → l ≡ no_listing m 0 → refusal_on k route row ≡ m → m ≢ 0 → Lists l out
  unfolding answer_on list_on
  refused-on {m} is e some = let other = ne_eqb m 0 some in (rw (e, other) is, rw (e, other))

  pub listed-on : {b : Board} {l : ListedValues} {after : List ℤ} → refusal_on k route row ≡ 0 → b ≡ (board_on route row).board
      → l ≡ told b (length out) → after ≡ told_to b out → Lists (listing_of l) after
  unfolding answer_on list_on
  listed-on e drawn is to = (rw (e, ← drawn, is), rw (e, ← drawn) to)

  pub outside : is_within k row ≡ false → refusal_on k route row ≡ row_refused
  unfolding refusal_on
  outside e = rw e

  pub inside : is_within k row ≡ true → refusal_on k route row ≡ (board_on route row).refusal
  unfolding refusal_on
  inside e = rw e

-- a listing's refusal has no position
pub told-as : (r : Result Listed Refusal) (b : Board) (n : ℕ) → listed_values r ≡ told b n → listing_values r ≡ listing_of (listed_values r)
told-as (Ok l) b n e = refl
told-as (Err r) b n e = rw (unbent r (λ five. told-most b n (omega arith) (λ z. omega (arith, z)) (ap (λ l. l.refusal) (sym e) ∙ five)))
