-- Squares, how large a rounded quotient is, and tests and their opposites. Assumes nothing.
use mathlib.Core.Path.{◌≡◌, refl, sym}
use mathlib.Core.Logic.{⊎_elim}
use mathlib.Core.Bool.{Bool, true, false, cond}
use Prim.Native.Nat.{ℕ, ◌+◌, ◌-◌, ◌*◌, ◌≤◌, ◌<◌}
use native.Mathlib.Nat.{mul-le-mul, div-le_self}
use native.Mathlib.Omega.{arith}
use borrow.Author.Tests.{ltb-true, leb-false, lt-ltb, lt-leb}
use lib.IntN.{ℤ, pos, negsuc, nat_abs, ◌+ℤ◌, ◌-ℤ◌, ◌*ℤ◌}
use lib.Signed.{lt_z, le_z}
use Rattle.whole.specs.Number.{Within}
use Rattle.whole.specs.Rounded.{rounded, half}
use Rattle.whole.proofs.Linear.{linear, le-or-lt}
use Rattle.whole.proofs.Steps.{square-is}
use Rattle.whole.proofs.Tests.{le_iff}
use Rattle.whole.proofs.Bounds.{within-add, within-sub, within-quot, within_more}

-- ---- squares

-- the sum of two squares is beyond that of n where one of the two is beyond n: no square has to be taken to see it
module _ (x y : ℤ) (n : ℕ) where
  beyond : n * n < nat_abs x * nat_abs x + nat_abs y * nat_abs y → le_z (x *ℤ x +ℤ y *ℤ y) (pos n *ℤ pos n) ≡ false
  beyond h = rw (square-is x, square-is y) (lt-leb (nat_abs x * nat_abs x + nat_abs y * nat_abs y) (n * n) h)

  pub squares-beyond-left : n < nat_abs x → le_z (x *ℤ x +ℤ y *ℤ y) (pos n *ℤ pos n) ≡ false
  squares-beyond-left h = beyond (omega (arith, mul-le-mul h h))

  pub squares-beyond-right : n < nat_abs y → le_z (x *ℤ x +ℤ y *ℤ y) (pos n *ℤ pos n) ≡ false
  squares-beyond-right h = beyond (omega (arith, mul-le-mul h h))

-- twice a product is at most the sum of the squares
pub two-squares : (x y : ℕ) → 2 * x * y ≤ x * x + y * y
two-squares x y = ⊎_elim (λ low. by x (y - x) y (omega arith)) (λ high. omega (arith, by y (x - y) x (omega arith))) (le-or-lt x y)
  where
    by : (m k n : ℕ) → n ≡ m + k → 2 * m * n ≤ m * m + n * n
    by m k n e = rw e (omega arith)

-- ---- a rounded quotient is no larger than its dividend and its divisor together

half-within : (d : ℤ) → Within (half d) (nat_abs d)
half-within d = record { bound = div-le_self (nat_abs d) 2 }

within-self : (z : ℤ) → Within z (nat_abs z)
within-self z = record { bound = omega arith }

sized-by : (n d : ℤ) (t : Bool) → Within (cond t (n -ℤ half d) (n +ℤ half d)) (nat_abs n + nat_abs d)
sized-by n d true = within-sub (within-self n) (half-within d)
sized-by n d false = within-add (within-self n) (half-within d)

pub rounded-within : {n d : ℤ} {j k : ℕ} → Within n j → Within d k → Within (rounded n d) (j + k)
unfolding rounded
rounded-within {n} {d} p q = within_more (within-quot d (sized-by n d (lt_z n (pos 0)))) (omega arith)

-- ---- a test and its opposite

pub lt_not_le : (x y : ℤ) → lt_z x y ≡ true → le_z y x ≡ false
lt_not_le (pos a) (pos b) e = lt-leb b a (ltb-true a b e)
lt_not_le (pos a) (negsuc b) e = sym e
lt_not_le (negsuc a) (pos b) e = refl
lt_not_le (negsuc a) (negsuc b) e = lt-leb a b (ltb-true b a e)

pub not-lt-le : (x y : ℤ) → lt_z x y ≡ false → le_z y x ≡ true
not-lt-le x y e = (le_iff y x).1 (omega linear)

pub not-le-lt : (x y : ℤ) → le_z x y ≡ false → lt_z y x ≡ true
not-le-lt (pos a) (pos b) e = lt-ltb b a (leb-false a b e)
not-le-lt (pos a) (negsuc b) e = refl
not-le-lt (negsuc a) (pos b) e = sym e
not-le-lt (negsuc a) (negsuc b) e = lt-ltb a b (leb-false b a e)
