-- What the machine holds. A signed local is 64 bits: `Hold n z k` says that the bits n are the number z, which is from -k
-- to k. There is one law for each operation: what the machine asks of it (`fits-`), and what its result holds (`hold-`).
-- Assumes nothing.
use mathlib.Core.Path.{◌≡◌, sym, ap, ◌∙◌}
use mathlib.Core.Logic.{◌≢◌}
use mathlib.Core.Bool.{Bool}
use Prim.Native.Nat.{ℕ, ◌+◌, ◌*◌, ◌^◌, ◌≤◌, ◌<◌}
use native.Mathlib.Nat.{le_refl}
use native.Mathlib.Omega.{arith}
use lib.Dec.{T, ltb, ltb→lt}
use lib.IntN.{ℤ, pos, negsuc, nat_abs, neg_ℤ, ◌+ℤ◌, ◌-ℤ◌, ◌*ℤ◌, +ℤ_idl}
use lib.Signed.{mag, lt_z, le_z, quot_z, rem_z}
use mir.Syntax.{w64}
use mir.Val.{SFits, to_z, of_z}
use mir.Facts.{to_z-of_z}
use Rattle.whole.specs.Number.{Within}
use Rattle.whole.proofs.Bounds.{within-neg, within-add, within-sub, within-mul, within-quot, within-rem}

mag-le : (z : ℤ) → mag z ≤ nat_abs z
mag-le (pos n) = le_refl n
mag-le (negsuc n) = omega arith

-- a number below half the range fits
pub fits : {z : ℤ} (k : ℕ) → Within z k → T (ltb k (2 ^ 63)) → SFits w64 z
fits {z} k w t = record { sfits = omega (arith, mag-le z, ltb→lt k (2 ^ 63) t) }

pub record Hold (n : ℕ) (z : ℤ) (k : ℕ) : Type 0 where
  pub is : to_z w64 n ≡ z
  pub small : Within z k

-- a number that is known to be small, in its bits
pub hold : {z : ℤ} {k : ℕ} → Within z k → T (ltb k (2 ^ 63)) → Hold (of_z w64 z) z k
hold {k} w t = record { is = to_z-of_z (fits k w t); small = w }

-- a number under another name, as what a call's contract says of its result
pub hold-as : {r z : ℤ} {k : ℕ} → r ≡ z → Within z k → T (ltb k (2 ^ 63)) → Hold (of_z w64 r) z k
hold-as e w t = rw e (hold w t)

-- a literal of the source
pub literal : (n : ℕ) → T (ltb n (2 ^ 63)) → Hold n (pos n) n
literal n t = hold (record { bound = le_refl n }) t

-- ---- what the machine asks of a sum, a difference, a product and a quotient

pub fits-add : {a b m n : ℕ} {x y : ℤ} → Hold a x m → Hold b y n → T (ltb (m + n) (2 ^ 63)) → SFits w64 (to_z w64 a +ℤ to_z w64 b)
fits-add {m} {n} p q t = rw (p.is, q.is) (fits (m + n) (within-add p.small q.small) t)

pub fits_sub : {a b m n : ℕ} {x y : ℤ} → Hold a x m → Hold b y n → T (ltb (m + n) (2 ^ 63)) → SFits w64 (to_z w64 a -ℤ to_z w64 b)
fits_sub {m} {n} p q t = rw (p.is, q.is) (fits (m + n) (within-sub p.small q.small) t)

pub fits-mul : {a b m n : ℕ} {x y : ℤ} → Hold a x m → Hold b y n → T (ltb (m * n) (2 ^ 63)) → SFits w64 (to_z w64 a *ℤ to_z w64 b)
fits-mul {m} {n} p q t = rw (p.is, q.is) (fits (m * n) (within-mul p.small q.small) t)

pub fits-quot : {a b m n : ℕ} {x y : ℤ} → Hold a x m → Hold b y n → T (ltb m (2 ^ 63)) → SFits w64 (quot_z (to_z w64 a) (to_z w64 b))
fits-quot {m} {y} p q t = rw (p.is, q.is) (fits m (within-quot y p.small) t)

-- the opposite, which the machine takes as a difference from 0
pub fits_neg : {b n : ℕ} {y : ℤ} → Hold b y n → T (ltb n (2 ^ 63)) → SFits w64 (pos 0 -ℤ to_z w64 b)
fits_neg {n} {y} q t = rw (q.is, +ℤ_idl (neg_ℤ y)) (fits n (within-neg q.small) t)

-- what it asks of a divisor
pub some_bits : {b n : ℕ} {y : ℤ} → Hold b y n → y ≢ pos 0 → 0 < b
some_bits {b} q some = let no : b ≡ 0 → ⊥ = λ e. some (sym q.is ∙ ap (to_z w64) e) in omega arith

pub fits_div : {a b m n : ℕ} {x y : ℤ} → Hold a x m → Hold b y n → y ≢ pos 0 → T (ltb m (2 ^ 63)) → (0 < b) × SFits w64 (quot_z (to_z w64 a) (to_z w64 b))
fits_div p q some t = (some_bits q some, fits-quot p q t)

-- ---- what its result holds

pub hold-add : {a b m n : ℕ} {x y : ℤ} → Hold a x m → Hold b y n → T (ltb (m + n) (2 ^ 63)) → Hold (of_z w64 (to_z w64 a +ℤ to_z w64 b)) (x +ℤ y) (m + n)
hold-add p q t = rw (p.is, q.is) (hold (within-add p.small q.small) t)

pub hold-sub : {a b m n : ℕ} {x y : ℤ} → Hold a x m → Hold b y n → T (ltb (m + n) (2 ^ 63)) → Hold (of_z w64 (to_z w64 a -ℤ to_z w64 b)) (x -ℤ y) (m + n)
hold-sub p q t = rw (p.is, q.is) (hold (within-sub p.small q.small) t)

pub hold-mul : {a b m n : ℕ} {x y : ℤ} → Hold a x m → Hold b y n → T (ltb (m * n) (2 ^ 63)) → Hold (of_z w64 (to_z w64 a *ℤ to_z w64 b)) (x *ℤ y) (m * n)
hold-mul p q t = rw (p.is, q.is) (hold (within-mul p.small q.small) t)

pub hold-neg : {b n : ℕ} {y : ℤ} → Hold b y n → T (ltb n (2 ^ 63)) → Hold (of_z w64 (pos 0 -ℤ to_z w64 b)) (neg_ℤ y) n
hold-neg {y} q t = rw (q.is, +ℤ_idl (neg_ℤ y)) (hold (within-neg q.small) t)

pub hold-quot : {a b m n : ℕ} {x y : ℤ} → Hold a x m → Hold b y n → T (ltb m (2 ^ 63)) → Hold (of_z w64 (quot_z (to_z w64 a) (to_z w64 b))) (quot_z x y) m
hold-quot {y} p q t = rw (p.is, q.is) (hold (within-quot y p.small) t)

pub hold-rem : {a b m n : ℕ} {x y : ℤ} → Hold a x m → Hold b y n → T (ltb m (2 ^ 63)) → Hold (of_z w64 (rem_z (to_z w64 a) (to_z w64 b))) (rem_z x y) m
hold-rem {y} p q t = rw (p.is, q.is) (hold (within-rem y p.small) t)

-- ---- what a test says

pub lt-hold : {a b m n : ℕ} {x y : ℤ} {t : Bool} → Hold a x m → Hold b y n → lt_z (to_z w64 a) (to_z w64 b) ≡ t → lt_z x y ≡ t
lt-hold p q h = rw (p.is, q.is) at h

pub lt_back : {x y : ℤ} {t : Bool} → SFits w64 x → SFits w64 y → lt_z (to_z w64 (of_z w64 x)) (to_z w64 (of_z w64 y)) ≡ t → lt_z x y ≡ t
lt_back f g h = rw (to_z-of_z f, to_z-of_z g) at h

pub le-back : {x y : ℤ} {t : Bool} → SFits w64 x → SFits w64 y → le_z (to_z w64 (of_z w64 x)) (to_z w64 (of_z w64 y)) ≡ t → le_z x y ≡ t
le-back f g h = rw (to_z-of_z f, to_z-of_z g) at h

-- equal bits hold equal numbers, and others do not
pub eq-hold : {a b m n : ℕ} {x y : ℤ} → Hold a x m → Hold b y n → a ≡ b → x ≡ y
eq-hold p q e = sym p.is ∙ (ap (to_z w64) e ∙ q.is)

pub ne-back : {x y : ℤ} → (of_z w64 x ≡ of_z w64 y → ⊥) → x ≡ y → ⊥
ne-back h e = h (ap (of_z w64) e)
