-- What `omega` is to read and to prove of <, and of tests for <, ≤ and =. Assumes nothing.
use mathlib.Core.Path.{◌≡◌, refl, ap}
use mathlib.Core.Logic.{◌↔◌}
use mathlib.Core.Bool.{true, false}
use Prim.Native.Nat.{ℕ, ◌+◌, ◌<◌, ◌≤◌}
use native.Mathlib.Omega.{arith}
use borrow.Author.Tests.{eqb-true, leb-true, leb-false, lt-ltb, le-ltb, le-leb, lt-leb, eq-eqb, ne_eqb}
use lib.Dec.{ltb→lt, lt→ltb}
use lib.IntN.{ℤ, pos, negsuc}
use lib.Signed.{lt_z, le_z, ◌<ℤ◌}
use Rattle.whole.specs.Number.{eq_z}
use Rattle.whole.proofs.Linear.{up, dn, linear}

-- ---- orders

pub lt_of : {x y : ℤ} → up x + dn y < up y + dn x → x <ℤ y
lt_of {x = pos a} {y = pos b} h = record { lt = lt→ltb a b (omega arith) }
lt_of {x = pos a} {y = negsuc b} h = absurd (omega arith)
lt_of {x = negsuc a} {y = pos b} h = record { lt = tt }
lt_of {x = negsuc a} {y = negsuc b} h = record { lt = lt→ltb b a (omega arith) }

pub lt-to : {x y : ℤ} → x <ℤ y → up x + dn y < up y + dn x
lt-to {x = pos a} {y = pos b} h = omega (arith, ltb→lt a b h.lt)
lt-to {x = pos a} {y = negsuc b} h = absurd h.lt
lt-to {x = negsuc a} {y = pos b} h = omega arith
lt-to {x = negsuc a} {y = negsuc b} h = omega (arith, ltb→lt b a h.lt)

-- ---- tests: what one says, and what one answers

pub le-true : (x y : ℤ) → le_z x y ≡ true → up x + dn y ≤ up y + dn x
le-true (pos a) (pos b) h = omega (arith, leb-true a b h)
le-true (pos a) (negsuc b) h = let z : ◌≡◌ {A = ℕ} 0 1 = cc in absurd (omega arith)
le-true (negsuc a) (pos b) h = omega arith
le-true (negsuc a) (negsuc b) h = omega (arith, leb-true b a h)

pub le-false : (x y : ℤ) → le_z x y ≡ false → up y + dn x < up x + dn y
le-false (pos a) (pos b) h = omega (arith, leb-false a b h)
le-false (pos a) (negsuc b) h = omega arith
le-false (negsuc a) (pos b) h = let z : ◌≡◌ {A = ℕ} 0 1 = cc in absurd (omega arith)
le-false (negsuc a) (negsuc b) h = omega (arith, leb-false b a h)

pub lt_yes : (x y : ℤ) → up x + dn y < up y + dn x → lt_z x y ≡ true
lt_yes (pos a) (pos b) h = lt-ltb a b (omega arith)
lt_yes (pos a) (negsuc b) h = absurd (omega arith)
lt_yes (negsuc a) (pos b) h = refl
lt_yes (negsuc a) (negsuc b) h = lt-ltb b a (omega arith)

pub lt_not : (x y : ℤ) → up y + dn x ≤ up x + dn y → lt_z x y ≡ false
lt_not (pos a) (pos b) h = le-ltb a b (omega arith)
lt_not (pos a) (negsuc b) h = refl
lt_not (negsuc a) (pos b) h = absurd (omega arith)
lt_not (negsuc a) (negsuc b) h = le-ltb b a (omega arith)

pub le_yes : (x y : ℤ) → up x + dn y ≤ up y + dn x → le_z x y ≡ true
le_yes (pos a) (pos b) h = le-leb a b (omega arith)
le_yes (pos a) (negsuc b) h = absurd (omega arith)
le_yes (negsuc a) (pos b) h = refl
le_yes (negsuc a) (negsuc b) h = le-leb b a (omega arith)

pub le_not : (x y : ℤ) → up y + dn x < up x + dn y → le_z x y ≡ false
le_not (pos a) (pos b) h = lt-leb a b (omega arith)
le_not (pos a) (negsuc b) h = refl
le_not (negsuc a) (pos b) h = absurd (omega arith)
le_not (negsuc a) (negsuc b) h = lt-leb b a (omega arith)

-- what `omega` is to read and to prove besides: <, and tests
pub ruleset ordered = (linear, lt_of, lt-to, le-true, le-false, lt_yes, lt_not, le_yes, le_not)

-- ---- equality

pub eq_z-refl : (x : ℤ) → eq_z x x ≡ true
eq_z-refl (pos a) = eq-eqb a a refl
eq_z-refl (negsuc a) = eq-eqb a a refl

pub eq_z-no : (x y : ℤ) → (x ≡ y → ⊥) → eq_z x y ≡ false
eq_z-no (pos a) (pos b) h = ne_eqb a b (λ e. h (ap pos e))
eq_z-no (pos a) (negsuc b) h = refl
eq_z-no (negsuc a) (pos b) h = refl
eq_z-no (negsuc a) (negsuc b) h = ne_eqb a b (λ e. h (ap negsuc e))

pub eq_z-true : (x y : ℤ) → eq_z x y ≡ true → x ≡ y
eq_z-true (pos a) (pos b) e = ap pos (eqb-true a b e)
eq_z-true (pos a) (negsuc b) e = cc
eq_z-true (negsuc a) (pos b) e = cc
eq_z-true (negsuc a) (negsuc b) e = ap negsuc (eqb-true a b e)

pub eq_z-false : (x y : ℤ) → eq_z x y ≡ false → x ≡ y → ⊥
eq_z-false x y e same = let z : ◌≡◌ {A = ℕ} 0 1 = cc (e, (rw same at (eq_z-refl x))) in omega arith

pub eq_z-iff : (x y : ℤ) → (eq_z x y ≡ true) ↔ (x ≡ y)
eq_z-iff x y = (eq_z-true x y, λ e. rw e (eq_z-refl y))
