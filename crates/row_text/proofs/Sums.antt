-- Numbers of places added up: in the form of a loop's test, and how large the sum is. Assumes nothing.
use mathlib.Core.Path.{◌≡◌, ap, ◌∙◌}
use Prim.Native.Nat.{ℕ, zero, suc, ◌+◌, ◌*◌, ◌-◌, ◌≤◌, ◌<◌}
use native.Mathlib.Numerals.{add-one}
use native.Mathlib.Omega.{arith}
use lib.IntN.{ℤ, pos, ◌+ℤ◌, +ℤ_idl}
use Rattle.whole.specs.Number.{Within}
use Rattle.whole.proofs.Linear.{linear, sum}
use Rattle.whole.proofs.Bounds.{within_more, within-add}
use Rattle.row_text.specs.Pixels.{sum_from}

module _ (number : ℕ → ℤ) where
  -- a loop that adds them up: what it has, and what is left, make the sum of all
  pub sum-begun : (n : ℕ) → pos 0 +ℤ sum_from number 0 (n - 0) ≡ sum_from number 0 n
  sum-begun n = let all : n - 0 ≡ n = omega arith in +ℤ_idl (sum_from number 0 (n - 0)) ∙ ap (sum_from number 0) all

  module _ (total all : ℤ) (n i : ℕ) (so_far : total +ℤ sum_from number i (n - i) ≡ all) where
    pub sum-turn : i < n → (total +ℤ number i) +ℤ sum_from number (i + 1) (n - (i + 1)) ≡ all
    unfolding sum_from
    sum-turn h =
        let one : n - i ≡ suc (n - (i + 1)) = omega arith in
        let rest = sum_from number (i + 1) (n - (i + 1)) in
        let is : total +ℤ (number i +ℤ rest) ≡ all = simp (one, ← add-one i) at so_far in
        omega (linear, is, sum total (number i), sum (number i) rest, sum (total +ℤ number i) rest, sum total (number i +ℤ rest))

    pub sum_done : n ≤ i → total ≡ all
    unfolding sum_from
    sum_done h =
        let none : n - i ≡ 0 = omega arith in
        let is : total +ℤ pos 0 ≡ all = rw none at so_far in
        omega (linear, is, sum total (pos 0))

  -- each number is at most k, so the sum is at most k for each
  pub sum-within : (k n : ℕ) → ((i : ℕ) → i < n → Within (number i) k) → (i left : ℕ) → i + left ≤ n → Within (sum_from number i left) (k * left)
  unfolding sum_from
  sum-within k n each i zero h = record { bound = omega arith }
  sum-within k n each i (suc left) h = within_more (within-add (each i (omega arith)) (sum-within k n each (suc i) left (omega arith))) (omega arith)
