-- Laws of whole numbers from one to another, and of how many pass a test. Assumes nothing.
use mathlib.Core.Path.{◌≡◌, refl, sym}
use mathlib.Core.Bool.{Bool, true, false, not, cond, ◌&&◌, ◌||◌, and-false, or-true, and_comm, or_comm, false≢true}
use Prim.Native.Nat.{ℕ, zero, suc, ◌+◌, ◌≤◌}
use native.Mathlib.Omega.{arith}
use lib.IntN.{ℤ, pos, ◌+ℤ◌, ◌-ℤ◌}
use lib.Signed.{lt_z, ◌≤ℤ◌, ◌<ℤ◌, ≤ℤ_refl}
use Rattle.whole.specs.Number.{lesser, greater}
use Rattle.whole.specs.Columns.{between, count_from}
use Rattle.whole.proofs.Linear.{up, dn, linear, sum, diff}
use Rattle.whole.proofs.Orders.{ordered}
use Rattle.whole.proofs.Tests.{and_left, and_right}

-- ---- from one to another

pub between-yes : (s e x : ℤ) → lt_z x s ≡ false → lt_z x e ≡ true → between s e x ≡ true
unfolding between
between-yes s e x p q = rw (p, q)

pub between-low : (s e x : ℤ) → lt_z x s ≡ true → between s e x ≡ false
unfolding between
between-low s e x p = rw p

pub between-high : (s e x : ℤ) → lt_z x e ≡ false → between s e x ≡ false
unfolding between
between-high s e x q = rw q (and-false (not (lt_z x s)))

not_yes : (a : Bool) → not a ≡ true → a ≡ false
not_yes true h = sym h
not_yes false h = refl

-- one test that follows from another
under : (a b : Bool) → (b ≡ true → a ≡ true) → b ≡ (a && b)
under true b h = refl
under false true h = sym (h refl)
under false false h = refl

over : (a b : Bool) → (a ≡ true → b ≡ true) → b ≡ (a || b)
over true b h = h refl
over false b h = refl

pub between_le : (s e x : ℤ) → between s e x ≡ true → lt_z x s ≡ false
unfolding between
between_le s e x h = not_yes (lt_z x s) (and_left (not (lt_z x s)) (lt_z x e) h)

pub between-lt : (s e x : ℤ) → between s e x ≡ true → lt_z x e ≡ true
unfolding between
between-lt s e x h = and_right (not (lt_z x s)) (lt_z x e) h

-- where both begin at y or before, only the end counts
between-from : (s t e y : ℤ) → s ≤ℤ y → t ≤ℤ y → between s e y ≡ between t e y
unfolding between
between-from s t e y p q =
    let a : lt_z y s ≡ false = omega ordered in
    let b : lt_z y t ≡ false = omega ordered in
    rw (a, b)

-- what is below both is below the lesser, and what is not above either is not above the greater
lt-lesser-of : (x a b : ℤ) (t : Bool) → lt_z b a ≡ t → x <ℤ a → x <ℤ b → x <ℤ lesser a b
unfolding lesser
lt-lesser-of x a b true h p q = rw h q
lt-lesser-of x a b false h p q = rw h p

pub lt-lesser : (x a b : ℤ) → x <ℤ a → x <ℤ b → x <ℤ lesser a b
lt-lesser x a b = lt-lesser-of x a b (lt_z b a) refl

greater-le-of : (a b x : ℤ) (t : Bool) → lt_z a b ≡ t → a ≤ℤ x → b ≤ℤ x → greater a b ≤ℤ x
unfolding greater
greater-le-of a b x true h p q = rw h q
greater-le-of a b x false h p q = rw h p

pub greater-le : (a b x : ℤ) → a ≤ℤ x → b ≤ℤ x → greater a b ≤ℤ x
greater-le a b x = greater-le-of a b x (lt_z a b) refl

-- below the lesser is below both, below the greater is below one
lt-lesser-by : (x a b : ℤ) (t : Bool) → lt_z b a ≡ t → lt_z x (lesser a b) ≡ (lt_z x a && lt_z x b)
unfolding lesser
lt-lesser-by x a b true h = rw h (under (lt_z x a) (lt_z x b) (λ below. omega ordered))
lt-lesser-by x a b false h = rw (h, and_comm (lt_z x a) (lt_z x b)) (under (lt_z x b) (lt_z x a) (λ below. omega ordered))

lt-greater-by : (x a b : ℤ) (t : Bool) → lt_z a b ≡ t → lt_z x (greater a b) ≡ (lt_z x a || lt_z x b)
unfolding greater
lt-greater-by x a b true h = rw h (over (lt_z x a) (lt_z x b) (λ below. omega ordered))
lt-greater-by x a b false h = rw (h, or_comm (lt_z x a) (lt_z x b)) (over (lt_z x b) (lt_z x a) (λ below. omega ordered))

-- two that touch or overlap are one
as_one : (xs xa xe xb : Bool) → (xa ≡ true → xe ≡ true) → (xs ≡ true → xb ≡ true)
    → (not (xs && xa) && (xe || xb)) ≡ (not xs && xe || not xa && xb)
as_one true true xe xb p q = refl
as_one true false xe true p q = or-true xe
as_one true false xe false p q = absurd (false≢true (q refl))
as_one false true true xb p q = refl
as_one false true false xb p q = absurd (false≢true (p refl))
as_one false false xe xb p q = refl

pub between-joined : (s e a b x : ℤ) → lt_z e a ≡ false → lt_z b s ≡ false → between (lesser s a) (greater e b) x ≡ (between s e x || between a b x)
unfolding between
between-joined s e a b x p q =
    rw (lt-lesser-by x s a (lt_z a s) refl, lt-greater-by x e b (lt_z e b) refl)
    (as_one (lt_z x s) (lt_z x a) (lt_z x e) (lt_z x b) (λ h. omega ordered) (λ h. omega ordered))

-- ---- how many

-- tests that agree from x on
pub count_same : (p q : ℤ → Bool) (x : ℤ) (n : ℕ) → ((y : ℤ) → x ≤ℤ y → p y ≡ q y) → count_from p x n ≡ count_from q x n
unfolding count_from
count_same p q x zero h = refl
count_same p q x (suc n) h = rw (h x (≤ℤ_refl x), count_same p q (x +ℤ pos 1) n (λ y l. h y (omega (linear, sum x (pos 1)))))

pub count_none : (x : ℤ) (n : ℕ) → count_from (λ y. false) x n ≡ 0
unfolding count_from
count_none x zero = refl
count_none x (suc n) = rw (count_none (x +ℤ pos 1) n)

-- tests that no number passes both of
apart : (a b : Bool) → (a ≡ true → b ≡ false) → cond (a || b) 1 0 ≡ cond a 1 0 + cond b 1 0
apart true b h = rw (h refl)
apart false true h = refl
apart false false h = refl

pub count-either : (p q : ℤ → Bool) (x : ℤ) (n : ℕ) → ((y : ℤ) → p y ≡ true → q y ≡ false)
    → count_from (λ y. p y || q y) x n ≡ count_from p x n + count_from q x n
unfolding count_from
count-either p q x zero h = refl
count-either p q x (suc n) h = omega (arith, apart (p x) (q x) (h x), count-either p q (x +ℤ pos 1) n h)

-- those from s to e, where all of them are among the n from x on; the numbers stand by their parts
abbrev Counted : ℤ → ℤ → ℤ → ℕ → Type 0
Counted s e x n = count_from (between s e) x n + (up s + dn e) ≡ up e + dn s

between-by : (s e x : ℤ) (n : ℕ) (t u : Bool) → lt_z x s ≡ t → lt_z x e ≡ u → x ≤ℤ s → s ≤ℤ e
    → ((from : ℤ) → (x +ℤ pos 1) ≤ℤ from → from ≤ℤ e → Counted from e (x +ℤ pos 1) n) → Counted s e x (suc n)
unfolding count_from
between-by s e x n true u low high a b more = rw (between-low s e x low) (omega (ordered, more s (omega (ordered, sum x (pos 1))) b))
between-by s e x n false true low high a b more =
    let next = x +ℤ pos 1 in
    let same = count_same (between s e) (between next e) next n (λ y l. between-from s next e y (omega (ordered, sum x (pos 1))) l) in
    rw (between-yes s e x low high, same) (omega (ordered, sum x (pos 1), more next (≤ℤ_refl next) (omega (ordered, sum x (pos 1)))))
between-by s e x n false false low high a b more =
    let next = x +ℤ pos 1 in
    let same = count_same (between s e) (λ y. false) next n (λ y l. between-high s e y (omega (ordered, sum x (pos 1)))) in
    rw (between-high s e x high, same, count_none next n) (omega ordered)

counted : (s e x : ℤ) (n : ℕ) → x ≤ℤ s → s ≤ℤ e → e ≤ℤ (x +ℤ pos n) → Counted s e x n
unfolding count_from
counted s e x zero a b c = omega (linear, sum x (pos 0))
counted s e x (suc n) a b c =
    between-by s e x n (lt_z x s) (lt_z x e) refl refl a b
    (λ from l m. counted from e (x +ℤ pos 1) n l m (omega (linear, sum x (pos (suc n)), sum (x +ℤ pos 1) (pos n), sum x (pos 1))))

pub count-between : (s e x : ℤ) (n : ℕ) → x ≤ℤ s → s ≤ℤ e → e ≤ℤ (x +ℤ pos n) → pos (count_from (between s e) x n) ≡ e -ℤ s
count-between s e x n a b c = omega (linear, counted s e x n a b c, diff e s)

-- ---- how many of n numbers can pass a test

one-most : (t : Bool) → cond t 1 0 ≤ 1
one-most true = omega arith
one-most false = omega arith

pub count_most : (p : ℤ → Bool) (x : ℤ) (n : ℕ) → count_from p x n ≤ n
unfolding count_from
count_most p x zero = omega arith
count_most p x (suc n) = omega (arith, one-most (p x), count_most p (x +ℤ pos 1) n)
