-- Steps away from the line: a number as it is on the left side, and turned round on the right. Assumes nothing.
use mathlib.Core.Path.{◌≡◌, refl, sym, ap, ◌∙◌}
use Prim.Native.Nat.{ℕ}
use lib.IntN.{ℤ, pos, nat_abs, neg_ℤ, ◌+ℤ◌, ◌-ℤ◌, neg_ℤ-neg_ℤ}
use Rattle.whole.proofs.Bounds.{abs_neg}
use Rattle.whole.proofs.Ring.{neg, ◌⊕◌, ◌⊖◌, ◌≈◌, ring}
use Rattle.shapes.specs.declared.Side.{Side}
use Rattle.shapes.specs.declared.Side.TheVariants.{Left, Right}
use Rattle.parallels.specs.Parallels.{swapped}

abbrev pub outward : Side → ℤ → ℤ
outward Left z = z
outward Right z = neg_ℤ z

pub one-outward : (side : Side) (z : ℤ) → nat_abs z ≡ 1 → nat_abs (outward side z) ≡ 1
one-outward Left z e = e
one-outward Right z e = abs_neg z ∙ e

pub other-side : (side : Side) (z : ℤ) → outward (swapped side) z ≡ neg_ℤ (outward side z)
other-side Left z = refl
other-side Right z = sym (neg_ℤ-neg_ℤ z)

pub outward-plus : (side : Side) (x s : ℤ) → outward side (x +ℤ s) ≡ outward side x +ℤ outward side s
outward-plus Left x s = refl
outward-plus Right x s = ring 2 (λ x s. neg (x ⊕ s) ≈ neg x ⊕ neg s) refl x s

pub outward-minus : (side : Side) (x s : ℤ) → outward side (x -ℤ s) ≡ outward side x -ℤ outward side s
outward-minus Left x s = refl
outward-minus Right x s = ring 2 (λ x s. neg (x ⊖ s) ≈ neg x ⊖ neg s) refl x s

pub outward-less : (side : Side) (x p : ℤ) {n : ℕ} → outward side p ≡ pos n → outward side (x -ℤ p) ≡ outward side x -ℤ pos n
outward-less side x p e = outward-minus side x p ∙ ap (λ q. outward side x -ℤ q) e

pub outward-back : (side : Side) (s : ℤ) → outward side (neg_ℤ s) ≡ neg_ℤ (outward side s)
outward-back Left s = refl
outward-back Right s = refl

-- nothing, turned round or not
pub none-outward : (side : Side) (z : ℤ) → z ≡ pos 0 → outward side z ≡ pos 0
none-outward Left z e = e
none-outward Right z e = rw e

pub none_out : (side : Side) (z : ℤ) → outward side z ≡ pos 0 → nat_abs z ≡ 0
none_out Left z e = ap nat_abs e
none_out Right z e = sym (abs_neg z) ∙ ap nat_abs e
