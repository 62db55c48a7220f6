-- Laws for spans of columns: what a test for equality says of bits, bounds as orders, the lesser and the greater. Assumes nothing.
use mathlib.Core.Path.{◌≡◌, refl, sym, ap, ◌∙◌}
use mathlib.Core.Bool.{Bool, true, false}
use Prim.Native.Nat.{ℕ, ◌+◌, ◌<◌, ◌≤◌}
use native.Mathlib.Nat.{le_refl}
use native.Mathlib.Omega.{arith}
use borrow.Author.Tests.{eqb-true, eqb-false}
use lib.Dec.{eqb}
use lib.IntN.{ℤ, pos, negsuc, neg_ℤ}
use lib.Signed.{mag, lt_z, ◌≤ℤ◌, ◌<ℤ◌}
use mir.Syntax.{w64}
use mir.Val.{SFits, of_z, to_z}
use mir.Facts.{to_z-of_z}
use Rattle.whole.specs.Number.{Within, eq_z, lesser, greater}
use Rattle.whole.proofs.Linear.{up, dn, linear, opp, abs-parts, abs-le}
use Rattle.whole.proofs.Orders.{ordered, eq_z-refl, eq_z-no}

-- ---- what a test for equality says of the numbers that the bits hold

pub eq-eq_z : {x y : ℤ} → SFits w64 x → SFits w64 y → of_z w64 x ≡ of_z w64 y → eq_z x y ≡ true
eq-eq_z {x} {y} f g e = rw (← (sym (to_z-of_z f) ∙ ap (to_z w64) e ∙ to_z-of_z g)) (eq_z-refl x)

pub ne-eq_z : {x y : ℤ} → SFits w64 x → SFits w64 y → (of_z w64 x ≡ of_z w64 y → ⊥) → eq_z x y ≡ false
ne-eq_z {x} {y} f g h = eq_z-no x y (λ e. h (ap (of_z w64) e))

bits-by : {x y : ℤ} (t : Bool) → eqb (of_z w64 x) (of_z w64 y) ≡ t → SFits w64 x → SFits w64 y → t ≡ eq_z x y
bits-by {x} {y} true e f g = sym (eq-eq_z f g (eqb-true (of_z w64 x) (of_z w64 y) e))
bits-by {x} {y} false e f g = sym (ne-eq_z f g (eqb-false (of_z w64 x) (of_z w64 y) e))

pub bits-eq : {x y : ℤ} → SFits w64 x → SFits w64 y → eqb (of_z w64 x) (of_z w64 y) ≡ eq_z x y
bits-eq {x} {y} f g = bits-by (eqb (of_z w64 x) (of_z w64 y)) refl f g

-- an answer of two numbers, taken from their bits
pub of-bits : {A : Type 0} {x y : ℤ} (f : ℤ → ℤ → A) → SFits w64 x → SFits w64 y → f (to_z w64 (of_z w64 x)) (to_z w64 (of_z w64 y)) ≡ f x y
of-bits f p q = rw (to_z-of_z p, to_z-of_z q)

-- ---- what lies between two numbers that the machine holds

mag_up : (z : ℤ) → up z ≤ mag z
mag_up (pos n) = le_refl n
mag_up (negsuc n) = omega arith

mag-dn : (z : ℤ) → dn z ≤ mag z + 1
mag-dn (pos n) = omega arith
mag-dn (negsuc n) = omega arith

mag-between : (x y z : ℤ) {k : ℕ} → x ≤ℤ z → z ≤ℤ y → mag x < k → mag y < k → mag z < k
mag-between x y (pos n) p q f g = omega (linear, mag_up y)
mag-between x y (negsuc n) p q f g = omega (linear, mag-dn x)

pub fits-between : {x y z : ℤ} → x ≤ℤ z → z ≤ℤ y → SFits w64 x → SFits w64 y → SFits w64 z
fits-between {x} {y} {z} p q f g = record { sfits = mag-between x y z p q f.sfits g.sfits }

-- ---- from -n to n, as an order

pub within_low : {z : ℤ} {n : ℕ} → Within z n → neg_ℤ (pos n) ≤ℤ z
within_low {z} {n} w = omega (linear, abs-parts z, opp (pos n), w.bound)

pub within-high : {z : ℤ} {n : ℕ} → Within z n → z ≤ℤ pos n
within-high {z} {n} w = omega (linear, abs-parts z, w.bound)

pub within_of : {z : ℤ} {n : ℕ} → neg_ℤ (pos n) ≤ℤ z → z ≤ℤ pos n → Within z n
within_of {z} {n} p q = record { bound = abs-le z (omega linear) (omega (linear, opp (pos n))) }

-- ---- the lesser and the greater

lesser-by : (a b c : ℤ) (t : Bool) → lt_z b a ≡ t → lesser a b ≤ℤ c → c <ℤ a → b ≤ℤ c
unfolding lesser
lesser-by a b c true e h lt = rw e at h
lesser-by a b c false e h lt = let w = rw e at h in absurd (omega ordered)

pub lesser-other : (a b c : ℤ) → lesser a b ≤ℤ c → c <ℤ a → b ≤ℤ c
lesser-other a b c h lt = lesser-by a b c (lt_z b a) refl h lt

greater-by : (a b c : ℤ) (t : Bool) → lt_z a b ≡ t → c <ℤ greater a b → a ≤ℤ c → c <ℤ b
unfolding greater
greater-by a b c true e h le = rw e at h
greater-by a b c false e h le = let w = rw e at h in absurd (omega ordered)

pub greater-other : (a b c : ℤ) → c <ℤ greater a b → a ≤ℤ c → c <ℤ b
greater-other a b c h le = greater-by a b c (lt_z a b) refl h le

within-lesser-by : (a b : ℤ) {k : ℕ} (t : Bool) → lt_z b a ≡ t → Within a k → Within b k → Within (lesser a b) k
unfolding lesser
within-lesser-by a b true e v w = rw e w
within-lesser-by a b false e v w = rw e v

pub within-lesser : {a b : ℤ} {k : ℕ} → Within a k → Within b k → Within (lesser a b) k
within-lesser {a} {b} v w = within-lesser-by a b (lt_z b a) refl v w

within-greater-by : (a b : ℤ) {k : ℕ} (t : Bool) → lt_z a b ≡ t → Within a k → Within b k → Within (greater a b) k
unfolding greater
within-greater-by a b true e v w = rw e w
within-greater-by a b false e v w = rw e v

pub within-greater : {a b : ℤ} {k : ℕ} → Within a k → Within b k → Within (greater a b) k
within-greater {a} {b} v w = within-greater-by a b (lt_z a b) refl v w
