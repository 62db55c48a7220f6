-- How a quotient comes out, in words: exactly, half way or neither, of which just one holds; and what its rounding then is.
-- Assumes nothing.
use mathlib.Core.Path.{◌≡◌, refl, sym, ap, subst, ◌∙◌}
use mathlib.Core.Logic.{◌↔◌, ◌≢◌, inl, inr}
use mathlib.Core.Bool.{Bool, true, false, cond}
use Prim.Native.Nat.{ℕ, ◌+◌, ◌*◌, ◌-◌, ◌/◌, ◌%◌, ◌<◌, zero-le}
use native.Mathlib.Nat.{div-add-mod', mul-mod_left, mul-add-mod_self_right, mod-eq_of_lt, eq_of_mul-eq-mul_right}
use native.Mathlib.Omega.{arith}
use borrow.Author.Tests.{eqb-true, eqb-false}
use lib.Dec.{eqb}
use lib.IntN.{ℤ, pos, negsuc, nat_abs, neg_ℤ, ◌+ℤ◌, ◌-ℤ◌, ◌*ℤ◌, neg_ℤ-neg_ℤ, +ℤ_invr}
use lib.Signed.{mag, quot_z}
use Rattle.whole.specs.declared.Division.{Division}
use Rattle.whole.specs.declared.Division.TheVariants.{Exact, Half, Rounded}
use Rattle.whole.specs.Rounded.{Nearest}
use Rattle.whole.specs.Divided.{division_of, Whole, Halfway, ComesOut, Further}
use Rattle.whole.proofs.Linear.{linear, sum, opp, times}
use Rattle.whole.proofs.Bounds.{abs_neg, abs-mul}
use Rattle.whole.proofs.Products.{negℤ-*ℤ, *ℤ-cancel}
use Rattle.whole.proofs.Ring.{con, neg, ◌⊕◌, ◌⊖◌, ◌⊗◌, ◌≈◌, since, ring}
use Rattle.whole.proofs.Laws.{signed, some-abs, nearest-unique}

-- ---- by the remainder

-- what is left, signs apart
abbrev rest : ℤ → ℤ → ℕ
rest n d = nat_abs n % nat_abs d

quotient-times : (n d : ℤ) → quot_z n d *ℤ d ≡ signed n (nat_abs n / nat_abs d * nat_abs d)
quotient-times (pos m) (pos e) = refl
quotient-times (pos m) (negsuc e) = simp (negℤ-*ℤ, neg_ℤ-neg_ℤ)
quotient-times (negsuc m) (pos e) = simp negℤ-*ℤ
quotient-times (negsuc m) (negsuc e) = refl

signed-self : (n : ℤ) → signed n (nat_abs n) ≡ n
signed-self (pos m) = refl
signed-self (negsuc m) = refl

-- the quotient is whole exactly when nothing is left
whole_of : (n d : ℤ) → rest n d ≡ 0 → Whole n d
whole_of n d none =
    let all : nat_abs n / nat_abs d * nat_abs d ≡ nat_abs n = omega (arith, div-add-mod' (nat_abs n) (nat_abs d)) in
    record { quotient = quot_z n d; is = quotient-times n d ∙ ap (signed n) all ∙ signed-self n }

of-whole : (n d : ℤ) → Whole n d → rest n d ≡ 0
of-whole n d w = ap (λ m. nat_abs m % nat_abs d) (sym w.is) ∙ ap (λ m. m % nat_abs d) (abs-mul w.quotient d) ∙ mul-mod_left (nat_abs w.quotient) (nat_abs d)

-- an odd number, and the number below its half
abbrev odd : ℤ → ℤ
odd b = pos 2 *ℤ b +ℤ pos 1

odd-negative : (k : ℕ) → odd (negsuc k) ≡ negsuc (2 * k)
odd-negative k = omega (linear, sum (pos 2 *ℤ negsuc k) (pos 1), times 2 (negsuc k))

-- a fraction whose double is odd
halfway-by : (n d t : ℤ) (k : ℕ) → nat_abs t ≡ 2 * k + 1 → t *ℤ d ≡ pos 2 *ℤ n → Halfway n d
halfway-by n d (pos a) k e is = record { below = pos k; is = ap (λ z. pos z *ℤ d) (sym e) ∙ is }
halfway-by n d (negsuc a) k e is = record { below = negsuc k; is = ap (λ z. z *ℤ d) (odd-negative k ∙ ap negsuc (omega arith)) ∙ is }

-- the further from zero of b and the number after it
abbrev outermost : ℤ → ℤ
outermost (pos k) = pos k +ℤ pos 1
outermost (negsuc k) = negsuc k

outermost-size : (b : ℤ) → nat_abs (outermost b) ≡ mag b + 1
outermost-size (pos k) = refl
outermost-size (negsuc k) = omega arith

odd-size : (b : ℤ) → nat_abs (odd b) ≡ 2 * mag b + 1
odd-size (pos k) = refl
odd-size (negsuc k) = ap nat_abs (odd-negative k) ∙ omega arith

-- the sizes at half way
half-sizes : {n d : ℤ} (h : Halfway n d) → (2 * mag h.below + 1) * nat_abs d ≡ 2 * nat_abs n
half-sizes {n} {d} h = ap (λ m. m * nat_abs d) (sym (odd-size h.below)) ∙ sym (abs-mul (odd h.below) d) ∙ ap nat_abs h.is ∙ abs-mul (pos 2) n

-- it lies half way exactly when twice of what is left is the divisor
halfway-of : (n d : ℤ) → d ≢ pos 0 → 2 * rest n d ≡ nat_abs d → Halfway n d
halfway-of n d some half =
    let k = nat_abs n / nat_abs d in
    let e = nat_abs d in
    let twice : nat_abs (pos 2 *ℤ n) ≡ (2 * k + 1) * e = abs-mul (pos 2) n ∙ omega (arith, div-add-mod' (nat_abs n) e) in
    let w = whole_of (pos 2 *ℤ n) d (ap (λ m. m % e) twice ∙ mul-mod_left (2 * k + 1) e) in
    let size = eq_of_mul-eq-mul_right e (some-abs d some) (nat_abs w.quotient) (2 * k + 1) (sym (abs-mul w.quotient d) ∙ ap nat_abs w.is ∙ twice) in
    halfway-by n d w.quotient k size w.is

of-halfway : (n d : ℤ) → d ≢ pos 0 → Halfway n d → 2 * rest n d ≡ nat_abs d
of-halfway n d some h =
    let e = nat_abs d in
    let j = mag h.below in
    let left = nat_abs n - j * e in
    let parts : nat_abs n ≡ j * e + left = omega (arith, half-sizes h) in
    let small : left < e = omega (arith, half-sizes h, some-abs d some) in
    let is : rest n d ≡ left = ap (λ m. m % e) parts ∙ mul-add-mod_self_right j e left ∙ mod-eq_of_lt small in
    rw is (omega (arith, half-sizes h))

-- ---- in words

module _ (n d : ℤ) (some : d ≢ pos 0) where
  not-both : Whole n d → Halfway n d → ⊥
  not-both w h = omega (arith, of-whole n d w, of-halfway n d some h, some-abs d some)

  comes-by : (s t : Bool) → eqb (rest n d) 0 ≡ s → eqb (2 * rest n d) (nat_abs d) ≡ t → ComesOut (cond s Exact (cond t Half Rounded)) n d
  comes-by true t e f = whole_of n d (eqb-true (rest n d) 0 e)
  comes-by false true e f = halfway-of n d some (eqb-true (2 * rest n d) (nat_abs d) f)
  comes-by false false e f = (λ w. eqb-false (rest n d) 0 e (of-whole n d w), λ h. eqb-false (2 * rest n d) (nat_abs d) f (of-halfway n d some h))

  -- one of the three always holds
  pub comes-out : ComesOut (division_of n d) n d
  unfolding division_of
  comes-out = comes-by (eqb (rest n d) 0) (eqb (2 * rest n d) (nat_abs d)) refl refl

  -- and no two of them
  pub ways-exclusive : (u v : Division) → ComesOut u n d → ComesOut v n d → u ≡ v
  ways-exclusive Exact Exact p q = refl
  ways-exclusive Exact Half p q = absurd (not-both p q)
  ways-exclusive Exact Rounded p q = absurd (q.0 p)
  ways-exclusive Half Exact p q = absurd (not-both q p)
  ways-exclusive Half Half p q = refl
  ways-exclusive Half Rounded p q = absurd (q.1 p)
  ways-exclusive Rounded Exact p q = absurd (p.0 q)
  ways-exclusive Rounded Half p q = absurd (p.1 q)
  ways-exclusive Rounded Rounded p q = refl

  -- exact exactly when n / d is a whole number, half exactly when twice n / d is an odd one, rounded exactly when neither
  pub division-exactly : (v : Division) → (division_of n d ≡ v) ↔ ComesOut v n d
  division-exactly v = (λ e. subst (λ u. ComesOut u n d) e comes-out, ways-exclusive (division_of n d) v comes-out)

-- ---- of a fraction, whichever way it is written: n / d and p / q are one

whole-ratio : (n d p q : ℤ) → d ≢ pos 0 → p *ℤ d ≡ n *ℤ q → Whole n d → Whole p q
whole-ratio n d p q some same w =
    let x = w.quotient in
    let both = ring 5 (λ n d p q x. since q (x ⊗ d) n (since (con (negsuc 0)) (p ⊗ d) (n ⊗ q) (d ⊗ (x ⊗ q) ≈ d ⊗ p))) refl n d p q x w.is same in
    record { quotient = x; is = *ℤ-cancel d (x *ℤ q) p some both }

half-ratio : (n d p q : ℤ) → d ≢ pos 0 → p *ℤ d ≡ n *ℤ q → Halfway n d → Halfway p q
half-ratio n d p q some same h =
    let b = h.below in
    let both = ring 5 (λ n d p q b. since q ((con (pos 2) ⊗ b ⊕ con (pos 1)) ⊗ d) (con (pos 2) ⊗ n) (since (con (negsuc 1)) (p ⊗ d) (n ⊗ q) (d ⊗ ((con (pos 2) ⊗ b ⊕ con (pos 1)) ⊗ q) ≈ d ⊗ (con (pos 2) ⊗ p)))) refl n d p q b h.is same in
    record { below = b; is = *ℤ-cancel d (odd b *ℤ q) (pos 2 *ℤ p) some both }

pub comes-out-ratio : (v : Division) (n d p q : ℤ) → d ≢ pos 0 → q ≢ pos 0 → p *ℤ d ≡ n *ℤ q → ComesOut v n d → ComesOut v p q
comes-out-ratio Exact n d p q sd sq same c = whole-ratio n d p q sd same c
comes-out-ratio Half n d p q sd sq same c = half-ratio n d p q sd same c
comes-out-ratio Rounded n d p q sd sq same c = (λ w. c.0 (whole-ratio p q n d sq (sym same) w), λ h. c.1 (half-ratio p q n d sq (sym same) h))

-- ---- the nearest whole number

outermost-further : (b : ℤ) → Further b (outermost b)
outermost-further (pos k) = record { one = inr refl; than_below = omega arith; than_above = omega arith }
outermost-further (negsuc k) =
    let above : negsuc k +ℤ pos 1 ≡ neg_ℤ (pos k) = omega (linear, sum (negsuc k) (pos 1), opp (pos k)) in
    record { one = inl refl; than_below = omega arith; than_above = omega (arith, ap nat_abs above, abs_neg (pos k)) }

-- how far it is from half way
outermost-gap : (n d b : ℤ) → odd b *ℤ d ≡ pos 2 *ℤ n → 2 * nat_abs (outermost b *ℤ d -ℤ n) ≡ nat_abs d
outermost-gap n d (pos k) is =
    sym (abs-mul (pos 2) ((pos k +ℤ pos 1) *ℤ d -ℤ n))
    ∙ ap nat_abs (ring 3 (λ n d b. since (con (pos 1)) ((con (pos 2) ⊗ b ⊕ con (pos 1)) ⊗ d) (con (pos 2) ⊗ n) (con (pos 2) ⊗ ((b ⊕ con (pos 1)) ⊗ d ⊖ n) ≈ d)) refl n d (pos k) is)
outermost-gap n d (negsuc k) is =
    sym (abs-mul (pos 2) (negsuc k *ℤ d -ℤ n))
    ∙ ap nat_abs (ring 3 (λ n d b. since (con (pos 1)) ((con (pos 2) ⊗ b ⊕ con (pos 1)) ⊗ d) (con (pos 2) ⊗ n) (con (pos 2) ⊗ (b ⊗ d ⊖ n) ≈ neg d)) refl n d (negsuc k) is)
    ∙ abs_neg d

outermost-nearest : {n d : ℤ} → d ≢ pos 0 → (h : Halfway n d) → Nearest n d (outermost h.below)
outermost-nearest {n} {d} some h =
    let gap = outermost-gap n d h.below h.is in
    let size : nat_abs (outermost h.below *ℤ d) ≡ (mag h.below + 1) * nat_abs d = abs-mul (outermost h.below) d ∙ ap (λ m. m * nat_abs d) (outermost-size h.below) in
    record { near = omega (arith, gap); away = λ half. omega (arith, size, half-sizes h, some-abs d some) }

module _ {n d x : ℤ} (some : d ≢ pos 0) (near : Nearest n d x) where
  -- of a whole quotient the quotient itself
  pub exact-nearest : Whole n d → x *ℤ d ≡ n
  exact-nearest w =
      let none : nat_abs (w.quotient *ℤ d -ℤ n) ≡ 0 = ap nat_abs (ap (λ z. z -ℤ n) w.is ∙ +ℤ_invr n) in
      let itself : Nearest n d w.quotient = record { near = rw none zero-le; away = λ half. absurd (omega (arith, none, some-abs d some)) } in
      ap (λ z. z *ℤ d) (nearest-unique n d x w.quotient near itself) ∙ w.is

  -- half way the further from zero of the two nearest
  pub half-nearest : (h : Halfway n d) → Further h.below x
  half-nearest h = rw (nearest-unique n d x (outermost h.below) near (outermost-nearest some h)) (outermost-further h.below)
