-- A whole number by two naturals, `up z` above zero and `dn z` below it, so that `omega` reads and proves what is linear
-- in whole numbers: `omega (linear, sum x y, diff y z, times 2 z)`, with one law listed for each sum, difference and
-- multiple in play. Assumes nothing.
use mathlib.Core.Path.{◌≡◌, refl, ap}
use mathlib.Core.Logic.{◌⊎◌, inl, inr}
use mathlib.Core.Bool.{Bool, true, false, cond}
use Prim.Native.Nat.{ℕ, zero, suc, ◌+◌, ◌*◌, ◌-◌, ◌≤◌, ◌<◌}
use native.Mathlib.Omega.{arith}
use borrow.Author.Tests.{ltb-true, ltb-false, leb-true, leb-false}
use lib.Dec.{T, ltb, leb, leb→le, le→leb}
use lib.IntN.{ℤ, pos, negsuc, nat_abs, neg_ℤ, sub_ℕ, ◌+ℤ◌, ◌-ℤ◌, ◌*ℤ◌}
use lib.Signed.{lt_z, non_neg, ◌≤ℤ◌}

abbrev pub up : ℤ → ℕ
up (pos n) = n
up (negsuc n) = 0

abbrev pub dn : ℤ → ℕ
dn (pos n) = 0
dn (negsuc n) = suc n

-- ---- the parts of a sum, an opposite, a difference, a multiple

sub_by : (a b : ℕ) (t : Bool) → ltb a b ≡ t → up (cond t (negsuc (b - suc a)) (pos (a - b))) + b ≡ dn (cond t (negsuc (b - suc a)) (pos (a - b))) + a
sub_by a b true e = omega (arith, ltb-true a b e)
sub_by a b false e = omega (arith, ltb-false a b e)

sub_parts : (a b : ℕ) → up (sub_ℕ a b) + b ≡ dn (sub_ℕ a b) + a
sub_parts a b = sub_by a b (ltb a b) refl

pub sum : (x y : ℤ) → up (x +ℤ y) + (dn x + dn y) ≡ dn (x +ℤ y) + (up x + up y)
sum (pos a) (pos b) = omega arith
sum (pos a) (negsuc b) = omega (arith, sub_parts a (suc b))
sum (negsuc a) (pos b) = omega (arith, sub_parts b (suc a))
sum (negsuc a) (negsuc b) = omega arith

pub opp : (x : ℤ) → (up (neg_ℤ x) ≡ dn x) × (dn (neg_ℤ x) ≡ up x)
opp (pos zero) = (refl, refl)
opp (pos (suc n)) = (refl, refl)
opp (negsuc n) = (refl, refl)

pub diff : (x y : ℤ) → up (x -ℤ y) + (dn x + up y) ≡ dn (x -ℤ y) + (up x + dn y)
diff x y = omega (arith, sum x (neg_ℤ y), opp y)

pub times : (m : ℕ) (z : ℤ) → (up (pos m *ℤ z) ≡ m * up z) × (dn (pos m *ℤ z) ≡ m * dn z)
times m (pos n) = (refl, omega arith)
times m (negsuc n) = (rw (opp (pos (m * suc n))).0 (omega arith), (opp (pos (m * suc n))).1)

-- ---- orders and equations

pub le_of : {x y : ℤ} → up x + dn y ≤ up y + dn x → x ≤ℤ y
le_of {x = pos a} {y = pos b} h = record { le = le→leb a b (omega arith) }
le_of {x = pos a} {y = negsuc b} h = absurd (omega arith)
le_of {x = negsuc a} {y = pos b} h = record { le = tt }
le_of {x = negsuc a} {y = negsuc b} h = record { le = le→leb b a (omega arith) }

pub le-to : {x y : ℤ} → x ≤ℤ y → up x + dn y ≤ up y + dn x
le-to {x = pos a} {y = pos b} h = omega (arith, leb→le a b h.le)
le-to {x = pos a} {y = negsuc b} h = absurd h.le
le-to {x = negsuc a} {y = pos b} h = omega arith
le-to {x = negsuc a} {y = negsuc b} h = omega (arith, leb→le b a h.le)

pub eq_of : (x y : ℤ) → up x + dn y ≡ up y + dn x → x ≡ y
eq_of (pos a) (pos b) h = ap pos (omega arith)
eq_of (pos a) (negsuc b) h = absurd (omega arith)
eq_of (negsuc a) (pos b) h = absurd (omega arith)
eq_of (negsuc a) (negsuc b) h = ap negsuc (omega arith)

pub eq-to : (x y : ℤ) → x ≡ y → up x + dn y ≡ up y + dn x
eq-to x y e = rw e

-- ---- tests

pub lt-true : (x y : ℤ) → lt_z x y ≡ true → up x + dn y < up y + dn x
lt-true (pos a) (pos b) h = omega (arith, ltb-true a b h)
lt-true (pos a) (negsuc b) h = let z : ◌≡◌ {A = ℕ} 0 1 = cc in absurd (omega arith)
lt-true (negsuc a) (pos b) h = omega arith
lt-true (negsuc a) (negsuc b) h = omega (arith, ltb-true b a h)

pub lt-false : (x y : ℤ) → lt_z x y ≡ false → up y + dn x ≤ up x + dn y
lt-false (pos a) (pos b) h = omega (arith, ltb-false a b h)
lt-false (pos a) (negsuc b) h = omega arith
lt-false (negsuc a) (pos b) h = let z : ◌≡◌ {A = ℕ} 0 1 = cc in absurd (omega arith)
lt-false (negsuc a) (negsuc b) h = omega (arith, ltb-false b a h)

-- what `omega` is to read and to prove of whole numbers: orders, equations, tests
pub ruleset linear = (arith, le_of, le-to, eq_of, eq-to, lt-true, lt-false)

-- ---- absolute values

pub abs-parts : (z : ℤ) → nat_abs z ≡ up z + dn z
abs-parts (pos n) = omega arith
abs-parts (negsuc n) = omega arith

pub abs-le : (z : ℤ) {n : ℕ} → up z ≤ n + dn z → dn z ≤ n + up z → nat_abs z ≤ n
abs-le (pos m) p q = omega arith
abs-le (negsuc m) p q = omega arith

-- the absolute value, by the sign
pub neg-abs : (x : ℤ) → lt_z x (pos 0) ≡ true → neg_ℤ x ≡ pos (nat_abs x)
neg-abs (pos n) e = absurd (omega (arith, lt-true (pos n) (pos 0) e))
neg-abs (negsuc n) e = refl

pub pos-abs : (x : ℤ) → lt_z x (pos 0) ≡ false → x ≡ pos (nat_abs x)
pos-abs (pos n) e = refl
pos-abs (negsuc n) e = absurd (omega (arith, lt-false (negsuc n) (pos 0) e))

-- ---- one of several cases holds

abbrev Split : ℕ → ℕ → Type 0
Split m n = (m ≤ n) ⊎ (n < m)

split_by : (m n : ℕ) (t : Bool) → leb m n ≡ t → Split m n
split_by m n true e = inl (leb-true m n e)
split_by m n false e = inr (leb-false m n e)

pub le-or-lt : (m n : ℕ) → (m ≤ n) ⊎ (n < m)
le-or-lt m n = split_by m n (leb m n) refl

-- two numbers are equal, or one of them is at least one more
less_by : (x y : ℤ) (t u : Bool) → lt_z x y ≡ t → lt_z y x ≡ u → (x ≡ y) ⊎ (((x +ℤ pos 1) ≤ℤ y) ⊎ ((y +ℤ pos 1) ≤ℤ x))
less_by x y true u e f = inr (inl (omega (linear, sum x (pos 1))))
less_by x y false true e f = inr (inr (omega (linear, sum y (pos 1))))
less_by x y false false e f = inl (omega linear)

pub eq-or-apart : (x y : ℤ) → (x ≡ y) ⊎ (((x +ℤ pos 1) ≤ℤ y) ⊎ ((y +ℤ pos 1) ≤ℤ x))
eq-or-apart x y = less_by x y (lt_z x y) (lt_z y x) refl refl

-- ---- a number that is not below 0

pub not_negative : {z : ℤ} → pos 0 ≤ℤ z → T (non_neg z)
not_negative {z = pos n} h = tt
not_negative {z = negsuc n} h = absurd h.le

pub none_below : {z : ℤ} → pos 0 ≤ℤ z → dn z ≡ 0
none_below {z = pos n} h = refl
none_below {z = negsuc n} h = absurd h.le

pub below_parts : (w : ℤ) → w ≤ℤ pos 0 → (up w ≡ 0) × (dn w ≡ nat_abs w)
below_parts (pos n) h = omega linear
below_parts (negsuc n) h = (refl, refl)

-- ---- sums

pub pos-suc : (n : ℕ) → pos (suc n) ≡ pos n +ℤ pos 1
pos-suc n = omega (linear, sum (pos n) (pos 1))

pub there-and-off : (a d : ℤ) → a +ℤ d -ℤ a ≡ d
there-and-off a d = omega (linear, sum a d, diff (a +ℤ d) a)
