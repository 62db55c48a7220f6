-- What tests say: two joined by `&&`, one of whole numbers, and one that a definition chooses by. Assumes nothing.
use mathlib.Core.Path.{◌≡◌, refl, ap, ◌∙◌}
use mathlib.Core.Logic.{◌↔◌, ◌⊎◌, inl, inr}
use mathlib.Core.Bool.{Bool, true, false, ◌&&◌, ◌||◌, cond}
use Prim.Native.Nat.{ℕ, ◌≤◌, ◌<◌}
use native.Mathlib.Omega.{arith}
use borrow.Author.Tests.{leb-true, le-leb}
use lib.Dec.{T, ltb, leb, eqb, ltb→lt, lt→ltb, eqb→eq, eqb_refl}
use lib.IntN.{ℤ}
use lib.Signed.{lt_z, le_z, ◌<ℤ◌, ◌≤ℤ◌}

-- the first of two that hold together, in other words
pub replaced : {A P P' Q : Type 0} → P ↔ P' → A ↔ (P × Q) → A ↔ (P' × Q)
replaced p e = (λ h. (p.0 (e.0 h).0, (e.0 h).1), λ h. e.1 (p.1 h.0, h.1))

pub and_left : (a b : Bool) → (a && b) ≡ true → a ≡ true
and_left true b e = refl
and_left false b e = e

pub and_right : (a b : Bool) → (a && b) ≡ true → b ≡ true
and_right true b e = e
and_right false b e = cc

pub and-iff : (a b : Bool) {P Q : Type 0} → (a ≡ true) ↔ P → (b ≡ true) ↔ Q → ((a && b) ≡ true) ↔ (P × Q)
and-iff a b p q = (λ e. (p.0 (and_left a b e), q.0 (and_right a b e)), λ h. simp (p.1 h.0, q.1 h.1))

pub or-iff : (a b : Bool) {P Q : Type 0} → (a ≡ true) ↔ P → (b ≡ true) ↔ Q → ((a || b) ≡ true) ↔ (P ⊎ Q)
or-iff true b p q = (λ _. inl (p.0 refl), λ _. refl)
or-iff false b p q = (λ e. inr (q.0 e), λ h. or_right p q h)
  where
    or_right : {P Q : Type 0} {b : Bool} → (false ≡ true) ↔ P → (b ≡ true) ↔ Q → P ⊎ Q → b ≡ true
    or_right p q (inl x) = cc (p.1 x)
    or_right p q (inr y) = q.1 y

pub or_left : (a b : Bool) → (a || b) ≡ false → a ≡ false
or_left true b h = h
or_left false b h = refl

pub or_right : (a b : Bool) → (a || b) ≡ false → b ≡ false
or_right true b h = cc
or_right false b h = h

pub or-second : (a b : Bool) → b ≡ true → (a || b) ≡ true
or-second true b e = refl
or-second false b e = e

pub or-false : (t : Bool) → (t || false) ≡ t
or-false true = refl
or-false false = refl

pub or_swap : (a b c : Bool) → (a || (b || c)) ≡ (b || (a || c))
or_swap true true c = refl
or_swap true false c = refl
or_swap false b c = refl

pub or_turned : (a b c : Bool) → (a || (b || c)) ≡ ((b || a) || c)
or_turned true true c = refl
or_turned true false c = refl
or_turned false true c = refl
or_turned false false c = refl

pub either : {A : Type 0} (P : A → Type 0) (t : Bool) {x y : A} → (t ≡ true → P x) → (t ≡ false → P y) → P (cond t x y)
either P true p q = p refl
either P false p q = q refl

pub passed : (t : Bool) → t ≡ true → T t
passed t e = rw e tt

pub true-passed : (t : Bool) → T t → t ≡ true
true-passed true p = refl
true-passed false p = absurd p

pub clash : {t : Bool} → t ≡ true → t ≡ false → ⊥
clash e f = let z : ◌≡◌ {A = ℕ} 0 1 = cc in omega arith

pub else-true : (t : Bool) → (t ≡ false → ⊥) → t ≡ true
else-true true h = refl
else-true false h = absurd (h refl)

pub else-false : (t : Bool) → (t ≡ true → ⊥) → t ≡ false
else-false true n = absurd (n refl)
else-false false n = refl

pub lt_iff : (x y : ℤ) → (lt_z x y ≡ true) ↔ (x <ℤ y)
lt_iff x y = (λ e. record { lt = passed (lt_z x y) e }, λ h. true-passed (lt_z x y) h.lt)

pub ltb_iff : (m n : ℕ) → (ltb m n ≡ true) ↔ (m < n)
ltb_iff m n = (λ e. ltb→lt m n (passed (ltb m n) e), λ h. true-passed (ltb m n) (lt→ltb m n h))

pub leb-iff : (m n : ℕ) → (leb m n ≡ true) ↔ (m ≤ n)
leb-iff m n = (leb-true m n, le-leb m n)

pub eqb-iff : (m n : ℕ) → (eqb m n ≡ true) ↔ (m ≡ n)
eqb-iff m n = (λ e. eqb→eq m n (passed (eqb m n) e), λ h. rw h (true-passed (eqb n n) (eqb_refl n)))

pub le_iff : (x y : ℤ) → (le_z x y ≡ true) ↔ (x ≤ℤ y)
le_iff x y = (λ e. record { le = passed (le_z x y) e }, λ h. true-passed (le_z x y) h.le)

-- x is a where P holds, and b elsewhere
pub record Chosen (P : Type 0) {A : Type 0} (x a b : A) : Type 0 where
  pub holds : P → x ≡ a
  pub fails : (P → ⊥) → x ≡ b

pub chosen : {P : Type 0} {A : Type 0} (t : Bool) (a b : A) → (t ≡ true) ↔ P → Chosen P (cond t a b) a b
chosen true a b e = record { holds = λ p. refl; fails = λ n. absurd (n (e.0 refl)) }
chosen false a b e = record { holds = λ p. cc (e.1 p); fails = λ n. refl }

-- what tells a from b, as a refusal's number does, tells exactly where P fails
pub chosen-exactly : {P : Type 0} {A : Type 0} {x a b : A} (f : A → ℕ) {n : ℕ} → f a ≡ 0 → f b ≡ n → 0 < n → Chosen P x a b → (f x ≡ n) ↔ (P → ⊥)
chosen-exactly f ea eb some c = (λ e p. omega (arith, ap f (c.holds p)), λ no. ap f (c.fails no) ∙ eb)

-- ---- a chain of refusals: a bad test that holds, or a good one that fails, gives its number n, else the rest of the chain decides

pub never : (t : Bool) {a b m : ℕ} → (a ≡ m → ⊥) → (b ≡ m → ⊥) → cond t a b ≡ m → ⊥
never true na nb = na
never false na nb = nb

pub bad-first : {P : Type 0} (t : Bool) {n rest : ℕ} → (t ≡ true) ↔ P → (rest ≡ n → ⊥) → (cond t n rest ≡ n) ↔ P
bad-first true e other = (λ _. e.0 refl, λ _. refl)
bad-first false e other = (λ h. absurd (other h), λ p. absurd (passed false (e.1 p)))

pub bad-later : {P Q : Type 0} (t : Bool) {n rest m : ℕ} → (t ≡ true) ↔ P → (n ≡ m → ⊥) → (rest ≡ m) ↔ Q → (cond t n rest ≡ m) ↔ ((P → ⊥) × Q)
bad-later true e other q = (λ h. absurd (other h), λ h. absurd (h.0 (e.0 refl)))
bad-later false e other q = (λ h. (λ p. passed false (e.1 p), q.0 h), λ h. q.1 h.1)

pub good-first : {P : Type 0} (t : Bool) {n rest : ℕ} → (t ≡ true) ↔ P → (rest ≡ n → ⊥) → (cond t rest n ≡ n) ↔ (P → ⊥)
good-first true e other = (λ h. absurd (other h), λ h. absurd (h (e.0 refl)))
good-first false e other = (λ _. λ p. passed false (e.1 p), λ _. refl)

pub good-later : {P Q : Type 0} (t : Bool) {n rest m : ℕ} → (t ≡ true) ↔ P → (n ≡ m → ⊥) → (rest ≡ m) ↔ Q → (cond t rest n ≡ m) ↔ (P × Q)
good-later true e other q = (λ h. (e.0 refl, q.0 h), λ h. q.1 h.1)
good-later false e other q = (λ h. absurd (other h), λ h. absurd (passed false (e.1 h.0)))
