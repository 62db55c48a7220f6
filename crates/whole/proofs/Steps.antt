-- Laws for walks that go by single steps: how far a step leads, squares, absolute values. Assumes nothing.
use mathlib.Core.Path.{◌≡◌, refl, ap}
use mathlib.Core.Logic.{◌⊎◌, inl, inr, ⊎_elim}
use Prim.Native.Nat.{ℕ, suc, ◌+◌, ◌*◌, ◌/◌, ◌≤◌}
use native.Mathlib.Nat.{mul-le-mul, mul-le-mul_left}
use native.Mathlib.Omega.{arith}
use lib.IntN.{ℤ, pos, negsuc, nat_abs, ◌+ℤ◌, ◌-ℤ◌, ◌*ℤ◌}
use lib.Signed.{quot_z, ◌≤ℤ◌}
use Rattle.whole.proofs.Linear.{up, dn, linear, sum, diff, abs-parts, abs-le, le-or-lt}

-- ---- a step of at most one leads at most one further from o

pub far-step : (x m o : ℤ) → nat_abs m ≤ 1 → nat_abs (x +ℤ m -ℤ o) ≤ nat_abs (x -ℤ o) + 1
far-step x m o h =
    let s = sum x m in
    let d = diff (x +ℤ m) o in
    let far = diff x o in
    let size = abs-parts (x -ℤ o) in
    let one = abs-parts m in
    abs-le (x +ℤ m -ℤ o) (omega arith) (omega arith)

pub far-back : (x m o : ℤ) → nat_abs m ≤ 1 → nat_abs (x -ℤ m -ℤ o) ≤ nat_abs (x -ℤ o) + 1
far-back x m o h =
    let s = diff x m in
    let d = diff (x -ℤ m) o in
    let far = diff x o in
    let size = abs-parts (x -ℤ o) in
    let one = abs-parts m in
    abs-le (x -ℤ m -ℤ o) (omega arith) (omega arith)

-- what is at most m from o, which is at most k, is at most k + m
pub far-near : (x o : ℤ) → nat_abs x ≤ nat_abs o + nat_abs (x -ℤ o)
far-near x o =
    let d = diff x o in
    let size = abs-parts (x -ℤ o) in
    let at = abs-parts o in
    abs-le x (omega arith) (omega arith)

-- a step of just one goes the one way or the other
pub one-or : (s : ℤ) → nat_abs s ≡ 1 → (s ≡ pos 1) ⊎ (s ≡ negsuc 0)
one-or (pos n) e = inl (ap pos e)
one-or (negsuc n) e = inr (ap negsuc (omega (arith, e)))

-- ---- squares keep the order

pub square_le : (m n : ℕ) → m * m ≤ n * n → m ≤ n
square_le m n h =
    ⊎_elim (λ low. low) (λ high. absurd (omega (arith, mul-le-mul {n₁ = suc n} {m₁ = suc n} high high))) (le-or-lt m n)

-- ---- numbers that are not negative, by their absolute value

pub parts : {z : ℤ} → pos 0 ≤ℤ z → (up z ≡ nat_abs z) × (dn z ≡ 0)
parts {z = pos n} h = (refl, refl)
parts {z = negsuc n} h = absurd h.le

pub square-is : (z : ℤ) → z *ℤ z ≡ pos (nat_abs z * nat_abs z)
square-is (pos n) = refl
square-is (negsuc n) = refl

pub half-natural : {z : ℤ} → pos 0 ≤ℤ z → quot_z z (pos 2) ≡ pos (nat_abs z / 2)
half-natural {z = pos n} h = refl
half-natural {z = negsuc n} h = absurd h.le

pub one_more : {z : ℤ} → pos 0 ≤ℤ z → z +ℤ pos 1 ≡ pos (suc (nat_abs z))
one_more {z} h = omega (linear, sum z (pos 1), parts h)

-- ---- ways that lead back, or on to another place

pub far_none : (x : ℤ) → nat_abs (x -ℤ x) ≤ 0
far_none x = abs-le (x -ℤ x) (omega (arith, diff x x)) (omega (arith, diff x x))

pub there_and_back : (a b : ℤ) → a +ℤ (b -ℤ a) ≡ b
there_and_back a b = omega (linear, sum a (b -ℤ a), diff b a)

-- what is moved by the way from o to e, where it was at most m from o
pub end_near : (x o e : ℤ) (k m : ℕ) → nat_abs (x -ℤ o) ≤ m → nat_abs e ≤ k → nat_abs (x +ℤ (e -ℤ o)) ≤ k + m
end_near x o e k m far near =
    let d = diff e o in
    let s = sum x (e -ℤ o) in
    let away = diff x o in
    let p = abs-parts (x -ℤ o) in
    let q = abs-parts e in
    abs-le (x +ℤ (e -ℤ o)) (omega arith) (omega arith)

-- what is moved back by two steps of at most one
pub short-near : (z a b : ℤ) (m : ℕ) → nat_abs z ≤ m → nat_abs a ≤ 1 → nat_abs b ≤ 1 → nat_abs (z -ℤ (a +ℤ b)) ≤ m + 2
short-near z a b m h p q =
    let s = sum a b in
    let d = diff z (a +ℤ b) in
    let x = abs-parts z in
    let y = abs-parts a in
    let w = abs-parts b in
    abs-le (z -ℤ (a +ℤ b)) (omega arith) (omega arith)

-- ---- what is paid for with multiples of a

-- n times a is within acc and a, and acc within 4w times a
pub quotient-most : (a n w acc : ℕ) → 1 ≤ a → a * n ≤ acc + a → acc ≤ 4 * w * a → n ≤ 4 * w + 1
quotient-most a n w acc some paid small =
    ⊎_elim (λ low. low) (λ high. absurd (omega (arith, mul-le-mul_left a high))) (le-or-lt n (4 * w + 1))

pub payment-step : (a n acc after d e x c : ℕ) → a * n + after ≤ c + a * e → acc + x * a ≤ after → e + 1 ≤ d + x → a * suc n + acc ≤ c + a * d
payment-step a n acc after d e x c rest grown spent = omega (arith, mul-le-mul_left a spent)

pub payment-most : (a n w acc d : ℕ) → 1 ≤ a → d ≤ 2 → a * n + acc ≤ 4 * w * a + 2 * a + a * d → n ≤ 4 * w + 4
payment-most a n w acc d some two all =
    ⊎_elim (λ low. low) (λ high. absurd (omega (arith, mul-le-mul_left a high, mul-le-mul_left a two))) (le-or-lt n (4 * w + 4))

-- 4 times the square of a width, times the sum of two squares
pub squares-most : (w a v x y : ℕ) → v ≤ 2 * w → x ≤ a → y ≤ a → v * v * (x * x + y * y) ≤ (4 * w * a) * (4 * w * a)
squares-most w a v x y p q r =
    let vv = mul-le-mul {n₁ = v} {m₁ = v} p p in
    let xx = mul-le-mul {n₁ = x} {m₁ = x} q q in
    let yy = mul-le-mul {n₁ = y} {m₁ = y} r r in
    let all = mul-le-mul {n₁ = v * v} {m₁ = x * x + y * y} {n₂ = 2 * w * (2 * w)} {m₂ = a * a + a * a} vv (omega arith) in
    omega (arith, all)
