-- How large a sum, a difference, a product, a quotient and a remainder are, by the absolute values of their parts. Assumes nothing.
use mathlib.Core.Path.{◌≡◌, refl}
use Prim.Native.Nat.{ℕ, zero, suc, ◌+◌, ◌*◌, ◌/◌, ◌%◌, ◌≤◌}
use native.Mathlib.Nat.{mul-le-mul, le_trans, div-le_self, mod-le}
use native.Mathlib.Omega.{arith}
use lib.IntN.{ℤ, pos, negsuc, nat_abs, neg_ℤ, ◌+ℤ◌, ◌-ℤ◌, ◌*ℤ◌}
use lib.Signed.{quot_z, rem_z}
use Rattle.whole.specs.Number.{Within}
use Rattle.whole.proofs.Linear.{sum, abs-parts, abs-le}

pub abs_neg : (a : ℤ) → nat_abs (neg_ℤ a) ≡ nat_abs a
abs_neg (pos zero) = refl
abs_neg (pos (suc n)) = refl
abs_neg (negsuc n) = refl

pub abs-add : (a b : ℤ) → nat_abs (a +ℤ b) ≤ nat_abs a + nat_abs b
abs-add a b =
    abs-le (a +ℤ b) (omega (arith, sum a b, abs-parts a, abs-parts b)) (omega (arith, sum a b, abs-parts a, abs-parts b))

pub abs-sub : (a b : ℤ) → nat_abs (a -ℤ b) ≤ nat_abs a + nat_abs b
abs-sub a b = omega (arith, abs-add a (neg_ℤ b), abs_neg b)

pub abs-mul : (a b : ℤ) → nat_abs (a *ℤ b) ≡ nat_abs a * nat_abs b
abs-mul (pos a) (pos b) = refl
abs-mul (pos a) (negsuc b) = abs_neg (pos (a * suc b))
abs-mul (negsuc a) (pos b) = abs_neg (pos (suc a * b))
abs-mul (negsuc a) (negsuc b) = refl

-- a quotient toward zero is no larger than its dividend
pub abs-quot : (a b : ℤ) → nat_abs (quot_z a b) ≤ nat_abs a
abs-quot (pos a) (pos b) = div-le_self a b
abs-quot (pos a) (negsuc b) = omega (arith, abs_neg (pos (a / suc b)), div-le_self a (suc b))
abs-quot (negsuc a) (pos b) = omega (arith, abs_neg (pos (suc a / b)), div-le_self (suc a) b)
abs-quot (negsuc a) (negsuc b) = div-le_self (suc a) (suc b)

-- what is left has the dividend's sign
pub abs-rem : (a b : ℤ) → nat_abs (rem_z a b) ≡ nat_abs a % nat_abs b
abs-rem (pos a) b = refl
abs-rem (negsuc a) b = abs_neg (pos (suc a % nat_abs b))

-- ---- the same as bounds

pub within_more : {z : ℤ} {m n : ℕ} → Within z m → m ≤ n → Within z n
within_more w h = record { bound = le_trans w.bound h }

pub within-neg : {a : ℤ} {m : ℕ} → Within a m → Within (neg_ℤ a) m
within-neg {a} w = record { bound = rw (abs_neg a) w.bound }

pub within-add : {a b : ℤ} {m n : ℕ} → Within a m → Within b n → Within (a +ℤ b) (m + n)
within-add {a} {b} v w = record { bound = omega (arith, abs-add a b) }

pub within-sub : {a b : ℤ} {m n : ℕ} → Within a m → Within b n → Within (a -ℤ b) (m + n)
within-sub {a} {b} v w = record { bound = omega (arith, abs-sub a b) }

pub within-mul : {a b : ℤ} {m n : ℕ} → Within a m → Within b n → Within (a *ℤ b) (m * n)
within-mul {a} {b} v w = record { bound = rw (abs-mul a b) (mul-le-mul v.bound w.bound) }

pub within-quot : {a : ℤ} {m : ℕ} (b : ℤ) → Within a m → Within (quot_z a b) m
within-quot {a} b w = record { bound = le_trans (abs-quot a b) w.bound }

pub within-rem : {a : ℤ} {m : ℕ} (b : ℤ) → Within a m → Within (rem_z a b) m
within-rem {a} b w = record { bound = rw (abs-rem a b) (le_trans (mod-le (nat_abs a) (nat_abs b)) w.bound) }
