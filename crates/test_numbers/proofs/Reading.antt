-- What the digits at a place of a text come to: one digit after the other, and how large. Assumes nothing.
use mathlib.Core.Path.{◌≡◌, refl, sym, ◌∙◌}
use mathlib.Core.Bool.{Bool, true, false, and-eq-true_iff}
use mathlib.Core.List.{List, [], ◌∷◌}
use Prim.Native.Nat.{ℕ, zero, suc, ◌+◌, ◌-◌, ◌*◌, ◌^◌, ◌≤◌, ◌<◌, suc-le-suc}
use native.Mathlib.Nat.{pow-suc, mul-le-mul_right}
use native.Mathlib.Omega.{arith}
use borrow.Author.Tests.{leb-true}
use lib.Dec.{leb}
use lib.ListN.{length, get_or}
use Rattle.test_numbers.specs.Numbers.{is_digit, digits_from, digits_at}

-- ---- one byte

-- a byte that is not 0 stands within the text
pub inside : (s : List ℕ) (at : ℕ) → 0 < get_or s at 0 → at < length s
inside [] at h = absurd (omega arith)
inside (x ∷ s) zero h = omega arith
inside (x ∷ s) (suc at) h = suc-le-suc (inside s at h)

digit-range : (b : ℕ) → is_digit b ≡ true → (48 ≤ b) × (b ≤ 57)
unfolding is_digit
digit-range b e = let p = (and-eq-true_iff (leb 48 b) (leb b 57)).0 e in (leb-true 48 b p.0, leb-true b 57 p.1)

-- ---- the digits, in the form of the loop's tests

module _ (s : List ℕ) (v at : ℕ) where
  pub digits-end : (n : ℕ) → n ≤ 0 → digits_from n s v at ≡ record { value = v; next = at }
  unfolding digits_from
  digits-end zero h = refl
  digits-end (suc n) h = absurd (omega arith)

  pub digits-stop : (n : ℕ) {b : ℕ} → b ≡ get_or s at 0 → is_digit b ≡ false → digits_from n s v at ≡ record { value = v; next = at }
  unfolding digits_from
  digits-stop zero is e = refl
  digits-stop (suc n) is e = rw (← is, e)

  digits-turn : (n : ℕ) → 0 < n → is_digit (get_or s at 0) ≡ true → digits_from n s v at ≡ digits_from (n - 1) s (v * 10 + (get_or s at 0 - 48)) (at + 1)
  unfolding digits_from
  digits-turn zero h e = absurd (omega arith)
  digits-turn (suc n) h e = let less : suc n - 1 ≡ n = omega arith in rw (e, less)

-- ---- how large

-- digits after those that say v say v or more, and less than v + 1 followed by as many zeros
among-by : (n : ℕ) (s : List ℕ) (v at : ℕ) (t : Bool) → is_digit (get_or s at 0) ≡ t → (v ≤ (digits_from n s v at).value) × ((digits_from n s v at).value < suc v * 10 ^ n)
unfolding digits_from
among-by zero s v at t e = omega arith
among-by (suc n) s v at false e = rw (e, pow-suc 10 n) (omega (arith, among-by n s v at false e))
among-by (suc n) s v at true e =
    let w = v * 10 + (get_or s at 0 - 48) in
    let up : suc w ≤ suc v * 10 = omega (arith, digit-range (get_or s at 0) e) in
    rw (e, pow-suc 10 n) (omega (arith, mul-le-mul_right (10 ^ n) up, among-by n s w (at + 1) (is_digit (get_or s (at + 1) 0)) refl))

so_far : (n : ℕ) (s : List ℕ) (v at : ℕ) → v ≤ (digits_from n s v at).value
so_far n s v at = (among-by n s v at (is_digit (get_or s at 0)) refl).0

pub small : (s : List ℕ) (at : ℕ) → (digits_at s at).value < 10 ^ 18
unfolding digits_at
small s at = omega (arith, among-by 18 s 0 at (is_digit (get_or s at 0)) refl)

-- ---- one turn of the loop

-- b is the digit at the place at, after digits that say v; what the rest of them say stays the same
pub record Turn (s : List ℕ) (first n v at b : ℕ) : Type 0 where
  pub digit : 48 ≤ b
  pub here : at < length s
  pub room : v * 10 + (b - 48) < 10 ^ 18
  pub on : digits_from (n - 1) s (v * 10 + (b - 48)) (at + 1) ≡ digits_at s first

pub turn : {s : List ℕ} {first n v at b : ℕ} → 0 < n → b ≡ get_or s at 0 → is_digit b ≡ true → digits_from n s v at ≡ digits_at s first → Turn s first n v at b
turn {s} {first} {n} {v} {at} {b} h is e same =
    let w = v * 10 + (b - 48) in
    let on : digits_from (n - 1) s w (at + 1) ≡ digits_at s first = rw is (sym (digits-turn s v at n h (rw is at e)) ∙ same) in
    let low = (digit-range b e).0 in
    record {
      digit = low;
      here = inside s at (omega arith);
      room = omega (arith, small s first, rw on at (so_far (n - 1) s w (at + 1)));
      on = on;
    }

pub ruleset reading = (inside, small)
