-- What 01 says in words of the definitions of specs/: a rounded quotient is the nearest whole number, halves away from
-- zero, and no other is; a test of bounds holds exactly within them. Assumes nothing.
use mathlib.Core.Path.{◌≡◌, refl, sym, ap, ◌∙◌}
use mathlib.Core.Logic.{◌↔◌, ◌≢◌, ◌⊎◌, inl, inr, ⊎_elim}
use mathlib.Core.Bool.{Bool, true, false, cond}
use Prim.Native.Nat.{ℕ, zero, suc, ◌+◌, ◌*◌, ◌-◌, ◌/◌, ◌≤◌, ◌<◌, zero-le}
use native.Mathlib.Nat.{suc-add, mul-le-mul_left, mul-le-mul_right, mul-lt-mul_of_pos_right, le_of_mul-le-mul_right, lt_of_mul-lt-mul_right, eq_of_mul-eq-mul_right, div-add-mod', mod-lt}
use native.Mathlib.Omega.{arith}
use borrow.Author.Tests.{le-leb, leb-true, le-ltb}
use lib.IntN.{ℤ, pos, negsuc, nat_abs, neg_ℤ, ◌+ℤ◌, ◌-ℤ◌, ◌*ℤ◌, neg_ℤ-neg_ℤ, *ℤ_comm}
use lib.Signed.{lt_z, ◌≤ℤ◌}
use Rattle.whole.specs.Number.{Within, is_within, lesser, greater}
use Rattle.whole.specs.Rounded.{rounded, Nearest}
use Rattle.whole.proofs.Linear.{up, dn, linear, sum, opp, diff, times, abs-parts, abs-le, le-or-lt, eq-or-apart}
use Rattle.whole.proofs.Bounds.{abs_neg, abs-mul}
use Rattle.whole.proofs.Products.{negℤ-*ℤ, *ℤ-id}
use Rattle.whole.proofs.Ring.{con, neg, ◌⊖◌, ◌⊗◌, ◌≈◌, since, ring}

-- ---- bounds

pub true-within : (n : ℕ) (z : ℤ) → is_within n z ≡ true → Within z n
unfolding is_within
true-within n z e = record { bound = leb-true (nat_abs z) n e }

pub within-true : {n : ℕ} {z : ℤ} → Within z n → is_within n z ≡ true
unfolding is_within
within-true {n} {z} w = le-leb (nat_abs z) n w.bound

pub within-iff : (n : ℕ) (z : ℤ) → (is_within n z ≡ true) ↔ Within z n
within-iff n z = (true-within n z, within-true)

-- ---- the lesser and the greater

one_of : (t : Bool) (a b : ℤ) → (cond t a b ≡ b) ⊎ (cond t a b ≡ a)
one_of true a b = inr refl
one_of false a b = inl refl

lesser-by : (a b : ℤ) (t : Bool) → lt_z b a ≡ t → (lesser a b ≤ℤ a) × (lesser a b ≤ℤ b)
unfolding lesser
lesser-by a b true e = rw e (omega linear)
lesser-by a b false e = rw e (omega linear)

-- it is one of the two
pub lesser-one : (a b : ℤ) → (lesser a b ≡ a) ⊎ (lesser a b ≡ b)
unfolding lesser
lesser-one a b = one_of (lt_z b a) b a

pub lesser-le : (a b : ℤ) → (lesser a b ≤ℤ a) × (lesser a b ≤ℤ b)
lesser-le a b = lesser-by a b (lt_z b a) refl

pub le-lesser : (x a b : ℤ) → x ≤ℤ a → x ≤ℤ b → x ≤ℤ lesser a b
le-lesser x a b p q = ⊎_elim (λ e. rw e p) (λ e. rw e q) (lesser-one a b)

greater-by : (a b : ℤ) (t : Bool) → lt_z a b ≡ t → (a ≤ℤ greater a b) × (b ≤ℤ greater a b)
unfolding greater
greater-by a b true e = rw e (omega linear)
greater-by a b false e = rw e (omega linear)

pub greater-one : (a b : ℤ) → (greater a b ≡ a) ⊎ (greater a b ≡ b)
unfolding greater
greater-one a b = one_of (lt_z a b) b a

pub le-greater : (a b : ℤ) → (a ≤ℤ greater a b) × (b ≤ℤ greater a b)
le-greater a b = greater-by a b (lt_z a b) refl

-- the first, where the second does not pass it
pub lesser-first : {a b : ℤ} → a ≤ℤ b → lesser a b ≡ a
lesser-first {a} {b} h = ⊎_elim (λ e. e) (λ e. omega (linear, (lesser-le a b).0)) (lesser-one a b)

pub greater-first : {a b : ℤ} → b ≤ℤ a → greater a b ≡ a
greater-first {a} {b} h = ⊎_elim (λ e. e) (λ e. omega (linear, (le-greater a b).0)) (greater-one a b)

-- ---- a rounded quotient, times its divisor: a multiple of |d| with the sign of n

-- the multiple, for the sizes m of the dividend and e of the divisor
abbrev multiple : ℕ → ℕ → ℕ
multiple m e = (m + e / 2) / e * e

abbrev pub signed : ℤ → ℕ → ℤ
signed (pos m) k = pos k
signed (negsuc m) k = neg_ℤ (pos k)

abs-signed : (n : ℤ) (k : ℕ) → nat_abs (signed n k) ≡ k
abs-signed (pos m) k = refl
abs-signed (negsuc m) k = abs_neg (pos k)

grown : (m h : ℕ) → negsuc m -ℤ pos h ≡ negsuc (m + h)
grown m h = omega (linear, diff (negsuc m) (pos h))

times-divisor : (n d : ℤ) → rounded n d *ℤ d ≡ signed n (multiple (nat_abs n) (nat_abs d))
unfolding rounded
times-divisor (pos m) (pos e) = simp (le-ltb m 0 zero-le)
times-divisor (pos m) (negsuc e) = simp (le-ltb m 0 zero-le, negℤ-*ℤ, neg_ℤ-neg_ℤ)
times-divisor (negsuc m) (pos e) = simp (grown, suc-add, negℤ-*ℤ)
times-divisor (negsuc m) (negsuc e) = simp (grown, suc-add)

-- how far it is from n, where the multiple is at most b from |n|
near-signed : (n : ℤ) (k b : ℕ) → k ≤ nat_abs n + b → nat_abs n ≤ k + b → nat_abs (signed n k -ℤ n) ≤ b
near-signed (pos m) k b p q = abs-le (pos k -ℤ pos m) (omega (arith, diff (pos k) (pos m))) (omega (arith, diff (pos k) (pos m)))
near-signed (negsuc m) k b p q =
    abs-le (neg_ℤ (pos k) -ℤ negsuc m) (omega (arith, diff (neg_ℤ (pos k)) (negsuc m), opp (pos k))) (omega (arith, diff (neg_ℤ (pos k)) (negsuc m), opp (pos k)))

-- the multiple is at most half of e from m, and less than half below it
record Close (m e k : ℕ) : Type 0 where
  above : k ≤ m + e / 2
  below : 2 * m < 2 * k + e

close : (m e : ℕ) → 0 < e → Close m e (multiple m e)
close m e h =
    let parts = div-add-mod' (m + e / 2) e in
    let rest = mod-lt (m + e / 2) h in
    record { above = omega arith; below = omega arith }

pub some-abs : (d : ℤ) → d ≢ pos 0 → 0 < nat_abs d
some-abs (pos zero) h = absurd (h refl)
some-abs (pos (suc n)) h = omega arith
some-abs (negsuc n) h = omega arith

-- demand 2: the nearest whole number, halves away from zero
pub rounded-nearest : (n d : ℤ) → d ≢ pos 0 → Nearest n d (rounded n d)
rounded-nearest n d h =
    let m = nat_abs n in
    let e = nat_abs d in
    let k = multiple m e in
    let c = close m e (some-abs d h) in
    let far : (b : ℕ) → k ≤ m + b → m ≤ k + b → nat_abs (rounded n d *ℤ d -ℤ n) ≤ b = λ b p q. rw (times-divisor n d) (near-signed n k b p q) in
    let size : nat_abs (rounded n d *ℤ d) ≡ k = rw (times-divisor n d) (abs-signed n k) in
    record {
      near = omega (arith, far (e / 2) c.above (omega arith));
      away = λ half. ⊎_elim (λ low. absurd (omega (arith, far (m - k) (omega arith) (omega arith)))) (λ high. rw size high) (le-or-lt k m);
    }

-- ---- no other whole number is the nearest

-- the parts of a multiple
multiple-parts : (e : ℕ) (x : ℤ) → (up (x *ℤ pos e) ≡ e * up x) × (dn (x *ℤ pos e) ≡ e * dn x)
multiple-parts e x = rw (*ℤ_comm x (pos e)) (times e x)

-- two that are one or more apart are just one apart, with n half way between them
record Halfway (n X Y : ℤ) (e : ℕ) : Type 0 where
  first : 2 * nat_abs (X -ℤ n) ≡ e
  second : 2 * nat_abs (Y -ℤ n) ≡ e
  above : (up X + dn n) * 2 + e ≡ (up n + dn X) * 2
  below : (up n + dn Y) * 2 + e ≡ (up Y + dn n) * 2

halfway : (n : ℤ) (e : ℕ) (x y : ℤ) → (x +ℤ pos 1) ≤ℤ y → Nearest n (pos e) x → Nearest n (pos e) y → Halfway n (x *ℤ pos e) (y *ℤ pos e) e
halfway n e x y lt p q =
    let X = x *ℤ pos e in
    let Y = y *ℤ pos e in
    let one : up x + 1 + dn y ≤ up y + dn x = omega (linear, sum x (pos 1)) in
    let step : up X + e + dn Y ≤ up Y + dn X = omega (arith, multiple-parts e x, multiple-parts e y, mul-le-mul_left e one) in
    let dx = diff X n in
    let dy = diff Y n in
    let ax = abs-parts (X -ℤ n) in
    let ay = abs-parts (Y -ℤ n) in
    let px = p.near in
    let qy = q.near in
    record { first = omega arith; second = omega arith; above = omega arith; below = omega arith }

-- that of them which is nearer to zero is not away from it
apart : (n : ℤ) (e : ℕ) (x y : ℤ) → (x +ℤ pos 1) ≤ℤ y → Nearest n (pos e) x → Nearest n (pos e) y → ⊥
apart n e (pos a) y lt p q =
    let h = halfway n e (pos a) y lt p q in
    omega (arith, p.away h.first, abs-parts n)
apart n e (negsuc a) (pos b) lt p q =
    let h = halfway n e (negsuc a) (pos b) lt p q in
    omega (arith, q.away h.second, multiple-parts e (negsuc a))
apart n e (negsuc a) (negsuc b) lt p q =
    let h = halfway n e (negsuc a) (negsuc b) lt p q in
    omega (arith, q.away h.second, abs-parts n, multiple-parts e (negsuc b), abs-parts (negsuc b *ℤ pos e))

mirrored : {n d x : ℤ} → Nearest n d x → Nearest (neg_ℤ n) (neg_ℤ d) x
mirrored {n} {d} {x} p =
    let gap : nat_abs (x *ℤ neg_ℤ d -ℤ neg_ℤ n) ≡ nat_abs (x *ℤ d -ℤ n) = rw (ring 3 (λ n d x. x ⊗ neg d ⊖ neg n ≈ neg (x ⊗ d ⊖ n)) refl n d x) (abs_neg (x *ℤ d -ℤ n)) in
    let size : nat_abs (x *ℤ neg_ℤ d) ≡ nat_abs (x *ℤ d) = rw (ring 2 (λ d x. x ⊗ neg d ≈ neg (x ⊗ d)) refl d x) (abs_neg (x *ℤ d)) in
    record { near = rw (gap, abs_neg d) p.near; away = rw (gap, abs_neg d, abs_neg n, size) p.away }

unique-at : (n : ℤ) (e : ℕ) (x y : ℤ) → Nearest n (pos e) x → Nearest n (pos e) y → x ≡ y
unique-at n e x y p q =
    ⊎_elim (λ same. same) (⊎_elim (λ lt. absurd (apart n e x y lt p q)) (λ lt. absurd (apart n e y x lt q p))) (eq-or-apart x y)

pub nearest-unique : (n d x y : ℤ) → Nearest n d x → Nearest n d y → x ≡ y
nearest-unique n (pos e) x y p q = unique-at n e x y p q
nearest-unique n (negsuc e) x y p q = unique-at (neg_ℤ n) (suc e) x y (mirrored p) (mirrored q)

-- ---- the nearest to a fraction, whichever way it is written

-- n / d and p / q are one fraction: its gap to x, its size and x itself, times |d| and times |q|
module _ (n d p q x : ℤ) (same : p *ℤ d ≡ n *ℤ q) where
  gaps : nat_abs (x *ℤ q -ℤ p) * nat_abs d ≡ nat_abs (x *ℤ d -ℤ n) * nat_abs q
  gaps =
      sym (abs-mul (x *ℤ q -ℤ p) d)
      ∙ ap nat_abs (ring 5 (λ n d p q x. since (con (negsuc 0)) (p ⊗ d) (n ⊗ q) ((x ⊗ q ⊖ p) ⊗ d ≈ (x ⊗ d ⊖ n) ⊗ q)) refl n d p q x same)
      ∙ abs-mul (x *ℤ d -ℤ n) q

  sizes : nat_abs p * nat_abs d ≡ nat_abs n * nat_abs q
  sizes = sym (abs-mul p d) ∙ ap nat_abs same ∙ abs-mul n q

  multiples : nat_abs (x *ℤ q) * nat_abs d ≡ nat_abs (x *ℤ d) * nat_abs q
  multiples = sym (abs-mul (x *ℤ q) d) ∙ ap nat_abs (ring 3 (λ d q x. x ⊗ q ⊗ d ≈ x ⊗ d ⊗ q) refl d q x) ∙ abs-mul (x *ℤ d) q

-- and to a whole number none but itself
pub nearest-whole : {n x : ℤ} → Nearest n (pos 1) x → x ≡ n
nearest-whole {n} {x} h = let off = rw (*ℤ-id x) at h.near in omega (linear, off, diff x n, abs-parts (x -ℤ n))

pub nearest-ratio : (n d p q x : ℤ) → d ≢ pos 0 → q ≢ pos 0 → p *ℤ d ≡ n *ℤ q → Nearest n d x → Nearest p q x
nearest-ratio n d p q x sd sq same h =
    let a = nat_abs (x *ℤ d -ℤ n) in
    let b = nat_abs (x *ℤ q -ℤ p) in
    let g = gaps n d p q x same in
    record {
      near = le_of_mul-le-mul_right {k = nat_abs d} (omega (arith, mul-le-mul_right (nat_abs q) h.near)) (some-abs d sd);
      away = λ half.
          let whole-half = eq_of_mul-eq-mul_right (nat_abs q) (some-abs q sq) (2 * a) (nat_abs d) (omega (arith, ap (λ k. k * nat_abs d) half)) in
          lt_of_mul-lt-mul_right (nat_abs d) (omega (arith, mul-lt-mul_of_pos_right (h.away whole-half) (some-abs q sq), sizes n d p q x same, multiples n d p q x same));
    }
