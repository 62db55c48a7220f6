-- The middle of two whole numbers lies between them. Assumes nothing.
use mathlib.Core.Path.{◌≡◌, refl}
use mathlib.Core.Logic.{◌⊎◌, inl, inr, ⊎_elim}
use Prim.Native.Nat.{ℕ, suc, ◌/◌, ◌≤◌}
use native.Mathlib.Nat.{div-le_self}
use native.Mathlib.Omega.{arith}
use lib.IntN.{ℤ, pos, negsuc, ◌+ℤ◌, ◌-ℤ◌}
use lib.Signed.{quot_z, ◌≤ℤ◌}
use Rattle.whole.specs.Number.{Within}
use Rattle.whole.proofs.Linear.{linear, up, dn, sum, opp, diff}
use Rattle.whole.proofs.Spans.{within_low, within-high, within_of}

-- half of d, toward zero, lies from 0 to d
half-parts : (d : ℤ) → (up (quot_z d (pos 2)) ≤ up d) × (dn (quot_z d (pos 2)) ≤ dn d)
half-parts (pos n) = (div-le_self n 2, omega arith)
half-parts (negsuc n) =
    let o = opp (pos (suc n / 2)) in
    (omega (arith, o), omega (arith, o, div-le_self (suc n) 2))

one-part : (d : ℤ) → (up d ≡ 0) ⊎ (dn d ≡ 0)
one-part (pos n) = inr refl
one-part (negsuc n) = inl refl

module _ {a b : ℤ} where
  pub mid-low : {z : ℤ} → z ≤ℤ a → z ≤ℤ b → z ≤ℤ (a +ℤ quot_z (b -ℤ a) (pos 2))
  mid-low v w =
      let h = half-parts (b -ℤ a) in
      let d = diff b a in
      let s = sum a (quot_z (b -ℤ a) (pos 2)) in
      ⊎_elim (λ none. omega linear) (λ none. omega linear) (one-part (b -ℤ a))

  pub mid-high : {z : ℤ} → a ≤ℤ z → b ≤ℤ z → (a +ℤ quot_z (b -ℤ a) (pos 2)) ≤ℤ z
  mid-high v w =
      let h = half-parts (b -ℤ a) in
      let d = diff b a in
      let s = sum a (quot_z (b -ℤ a) (pos 2)) in
      ⊎_elim (λ none. omega linear) (λ none. omega linear) (one-part (b -ℤ a))

  pub mid-within : {k : ℕ} → Within a k → Within b k → Within (a +ℤ quot_z (b -ℤ a) (pos 2)) k
  mid-within v w = within_of (mid-low (within_low v) (within_low w)) (mid-high (within-high v) (within-high w))
