-- How far the counts of a stroke's last parallels lie apart: the accumulator pays for each step across. Assumes nothing.
use mathlib.Core.Path.{◌≡◌, refl}
use mathlib.Core.Logic.{⊎_elim}
use mathlib.Core.Bool.{Bool, true, false, cond, false≢true}
use Prim.Native.Nat.{ℕ, zero, suc, ◌+◌, ◌-◌, ◌*◌, ◌≤◌, ◌<◌}
use native.Mathlib.Nat.{le_refl, mul-le-mul, mul-le-mul_left}
use native.Mathlib.Omega.{arith}
use borrow.Author.Tests.{ltb-true, leb-true, le-ltb, lt-leb}
use lib.Dec.{ltb, leb}
use Rattle.whole.proofs.Linear.{le-or-lt}
use Rattle.whole.proofs.Squares.{two-squares}
use Rattle.shapes.specs.declared.Side.{Side}
use Rattle.shapes.specs.declared.Side.TheVariants.{Left, Right}
use Rattle.parallels.specs.Parallels.{swapped, falls}
use Rattle.skeletons.specs.Treads.{Tread, Mark, Trod, March, Arrived, tread_of, mark_of, due_at, kept_at, trod_by, trod, stepped, arrived_at, march, set_out, most_of, marched}

-- what is paid for a parallel: how much farther its side stands after it
abbrev price : ℕ → ℕ → Bool → ℕ
price a b extra = cond extra b a

module _ (a b : ℕ) where
  -- no more steps along the minor axis than those along the major one ask for, to the nearest; at an Extra point one more is due
  pub record Fair (n e : ℕ) : Type 0 where
    pub fair : 2 * a * e ≤ 2 * b * n + a

  pub record Fairly (m : Mark) : Type 0 where
    pub few : Fair m.n m.e
    pub late : m.extra ≡ true → 2 * a * m.e + a ≤ 2 * b * m.n

  -- a side stands one step beyond its last parallel
  record Follows (m : Mark) (t : Tread) : Type 0 where
    fairly : Fairly m
    few : Fair t.n t.e
    beyond : a * t.n + b * t.e ≡ a * m.n + b * m.e + price a b m.extra

  record Fared (t : Tread) (r : Trod) : Type 0 where
    follows : Follows r.mark r.after
    farther : a * t.n + b * t.e + price a b r.mark.extra ≤ a * r.after.n + b * r.after.e
    grows : 1 ≤ price a b r.mark.extra

  due-late : (side : Side) (n e : ℕ) → due_at a b side n e ≡ true → 2 * a * e + a ≤ 2 * b * n
  due-late Left n e h = omega (arith, ltb-true)
  due-late Right n e h = omega (arith, leb-true)

  -- an Extra point is due only where the smaller delta is not 0
  pub some-short : (n e : ℕ) → 1 ≤ a → 2 * a * e + a ≤ 2 * b * n → 1 ≤ b
  some-short n e some late = by b refl
    where
      by : (c : ℕ) → b ≡ c → 1 ≤ b
      by zero z = absurd (omega (arith, rw z at late))
      by (suc c) z = omega arith

  fared : (side : Side) (falling : Bool) (t : Tread) → 1 ≤ a → Fair t.n t.e → Fared t (trod a b side falling t)
  unfolding trod trod_by
  fared side falling t some h = by (due_at a b side t.n t.e) (kept_at a b falling t.e t.k) refl
    where
      by : (x y : Bool) → due_at a b side t.n t.e ≡ x → Fared t (trod_by a b x y t)
      by false y d =
          record {
            follows = record { fairly = record { few = h; late = λ x. absurd (false≢true x) }; few = record { fair = omega arith }; beyond = omega arith };
            farther = omega arith;
            grows = some;
          }
      by true true d =
          let late = due-late side t.n t.e d in
          record {
            follows = record { fairly = record { few = h; late = λ _. late }; few = record { fair = omega arith }; beyond = omega arith };
            farther = omega arith;
            grows = some-short t.n t.e some late;
          }
      by true false d =
          let late = due-late side t.n t.e d in
          record {
            follows = record { fairly = record { few = record { fair = omega arith }; late = λ x. absurd (false≢true x) }; few = record { fair = omega arith }; beyond = omega arith };
            farther = omega arith;
            grows = some;
          }

  -- ---- both sides

  record Paid (s : March) : Type 0 where
    this-follows : Follows s.here s.this
    other-follows : Follows s.there s.other
    paid : s.sum + a ≤ 2 * (a * s.this.n + b * s.this.e + (a * s.other.n + b * s.other.e)) + b

  -- the last parallels of both sides
  pub record PaidFor (most : ℕ) (r : Arrived) : Type 0 where
    pub left-fairly : Fairly r.left
    pub right-fairly : Fairly r.right
    pub paid : r.sum + a ≤ 2 * (a * r.left.n + b * r.left.e + price a b r.left.extra + (a * r.right.n + b * r.right.e + price a b r.right.extra)) + b
    pub over : most < r.sum * r.sum

  -- the accumulator grows by twice the price
  twice-price : (x : Bool) → cond x (2 * b) (2 * a) ≡ 2 * price a b x
  twice-price true = refl
  twice-price false = refl

  paid-at : (most : ℕ) (side : Side) (s : March) → Paid s → most < s.sum * s.sum → PaidFor most (arrived_at side s)
  paid-at most Left s p h = record { left-fairly = p.this-follows.fairly; right-fairly = p.other-follows.fairly; paid = omega (arith, p.paid, p.this-follows.beyond, p.other-follows.beyond); over = h }
  paid-at most Right s p h = record { left-fairly = p.other-follows.fairly; right-fairly = p.this-follows.fairly; paid = omega (arith, p.paid, p.this-follows.beyond, p.other-follows.beyond); over = h }

  module _ (some : 1 ≤ a) (flip : Bool) where
    step-paid : (side : Side) {s : March} → Paid s → Paid (stepped a b flip side s) × (s.sum + 1 ≤ (stepped a b flip side s).sum)
    unfolding stepped
    step-paid side {s} p =
        let f = fared side (falls flip side) s.this some p.this-follows.few in
        let twice = twice-price (trod a b side (falls flip side) s.this).mark.extra in
        (record { this-follows = p.other-follows; other-follows = f.follows; paid = omega (arith, twice, p.paid, f.farther) }, omega (arith, twice, f.grows))

    -- with parallels enough left
    march-paid : (n most : ℕ) (side : Side) (t : Bool) (s : March) → ltb most (s.sum * s.sum) ≡ t → Paid s → most < s.sum + n → PaidFor most (march n a b flip most side s)
    unfolding march
    march-paid zero most side t s e p h = paid-at most side s p (omega (arith, mul-le-mul {n₁ = 1} {m₁ = s.sum} {n₂ = s.sum} {m₂ = s.sum} (omega arith) (le_refl s.sum)))
    march-paid (suc n) most side true s e p h = rw e (paid-at most side s p (ltb-true most (s.sum * s.sum) e))
    march-paid (suc n) most side false s e p h =
        let q = step-paid side p in
        let s₁ = stepped a b flip side s in
        rw e (march-paid n most (swapped side) (ltb most (s₁.sum * s₁.sum)) s₁ refl q.0 (omega (arith, q.1)))

-- ---- the first parallel is the line itself

-- both sides one step beyond the line
abbrev pub onward : ℕ → ℕ → March
onward a b = record { this = tread_of 1 0 0; other = tread_of 1 0 0; here = mark_of 0 0 false; there = mark_of 0 0 false; sum = a + b + 2 * a }

module _ {a b w : ℕ} (some : 1 ≤ a) (less : b ≤ a) (wide : 1 ≤ w) (flip : Bool) where
  abbrev most : ℕ
  most = most_of a b w

  -- four times the sum of the squares, and what is below it, is within the threshold
  four : 4 * (a * a + b * b) ≤ most
  four = mul-le-mul {n₁ = 4} {m₁ = a * a + b * b} {n₂ = 2 * w * (2 * w)} {m₂ = a * a + b * b} (omega (arith, mul-le-mul {n₁ = 2} {m₁ = 2} {n₂ = 2 * w} {m₂ = 2 * w} (omega arith) (omega arith))) (le_refl (a * a + b * b))

  one_follows : (a + b) * (a + b) ≤ most
  one_follows = omega (arith, four, two-squares a b)

  first_step : stepped a b flip Right (set_out a b) ≡ onward a b
  unfolding stepped trod trod_by
  first_step = let test : leb (2 * a * 0 + a) (2 * b * 0) ≡ false = lt-leb (2 * a * 0 + a) (2 * b * 0) (omega arith) in rw test

  pub first-marched : marched a b flip w ≡ march (most - (a + b)) a b flip most Left (onward a b)
  unfolding marched march
  first-marched =
      let fuel : suc most - (a + b) ≡ suc (most - (a + b)) = omega (arith, one_follows, mul-le-mul {n₁ = 1} {m₁ = a + b} {n₂ = a + b} {m₂ = a + b} (omega arith) (le_refl (a + b))) in
      rw (fuel, le-ltb most ((a + b) * (a + b)) one_follows, first_step)

  onward-paid : Paid a b (onward a b)
  onward-paid =
      let follows : Follows a b (mark_of 0 0 false) (tread_of 1 0 0) = record { fairly = record { few = record { fair = omega arith }; late = λ x. absurd (false≢true x) }; few = record { fair = omega arith }; beyond = omega arith } in
      record { this-follows = follows; other-follows = follows; paid = omega arith }

  pub paid_for : PaidFor a b most (marched a b flip w)
  paid_for = rw first-marched (march-paid a b some flip (most - (a + b)) most Left (ltb most ((onward a b).sum * (onward a b).sum)) (onward a b) refl onward-paid (omega arith))

-- ---- from width 3 on

-- the way across the line from the one last parallel to the other, n and e steps out on the one side, and p and f on the other
abbrev pub gap_of : ℕ → ℕ → ℕ → ℕ → ℕ → ℕ → ℕ
gap_of a b n e p f = a * n + b * e + (a * p + b * f)

abbrev pub gap : ℕ → ℕ → Arrived → ℕ
gap a b r = gap_of a b r.left.n r.left.e r.right.n r.right.e

price-most : {a b : ℕ} → b ≤ a → (x : Bool) → price a b x ≤ a
price-most {a} less true = less
price-most {a} less false = le_refl a

-- so few steps along the major axis ask for no more along the minor one
fair-few : {a b n e : ℕ} → 1 ≤ a → b ≤ a → Fair a b n e → n ≤ 1 → e ≤ n
fair-few {a} {b} {n} {e} some less f one =
    ⊎_elim (λ low. low) (λ high. absurd (omega (arith, f.fair, mul-le-mul_left (2 * a) high, mul-le-mul {n₁ = 2 * b} {m₁ = n} {n₂ = 2 * a} {m₂ = n} (omega arith) (le_refl n), mul-le-mul_left a one))) (le-or-lt e n)

module _ {a b w : ℕ} (some : 1 ≤ a) (less : b ≤ a) (wide : 3 ≤ w) (flip : Bool) where
  abbrev r : Arrived
  r = marched a b flip w

  is-paid : PaidFor a b (most_of a b w) r
  is-paid = paid_for some less (omega arith) flip

  thirty-six : 36 * (a * a + b * b) ≤ most_of a b w
  thirty-six = mul-le-mul {n₁ = 36} {m₁ = a * a + b * b} {n₂ = 2 * w * (2 * w)} {m₂ = a * a + b * b} (omega (arith, mul-le-mul {n₁ = 6} {m₁ = 6} {n₂ = 2 * w} {m₂ = 2 * w} (omega arith) (omega arith))) (le_refl (a * a + b * b))

  -- the last parallels lie farther apart than a pixel's square is wide across the line
  pub gap-wide : a + b < gap a b r
  gap-wide =
      ⊎_elim
      (λ near.
      let short : r.sum ≤ 5 * a + 3 * b = omega (arith, is-paid.paid, price-most less r.left.extra, price-most less r.right.extra) in
      absurd (omega (arith, is-paid.over, thirty-six, two-squares (3 * a) (5 * b), mul-le-mul {n₁ = r.sum} {m₁ = r.sum} short short)))
      (λ far. far)
      (le-or-lt (gap a b r) (a + b))

  -- by two steps along the major axis, or more
  pub two_steps : 2 ≤ r.left.n + r.right.n
  two_steps =
      ⊎_elim (λ high. high)
      (λ low.
      let left : r.left.e ≤ r.left.n = fair-few some less is-paid.left-fairly.few (omega arith) in
      let right : r.right.e ≤ r.right.n = fair-few some less is-paid.right-fairly.few (omega arith) in
      let sum : r.left.n + r.right.n ≤ 1 = omega arith in
      absurd (omega (arith, gap-wide, mul-le-mul_left b left, mul-le-mul_left b right, mul-le-mul_left a sum, mul-le-mul_left b sum)))
      (le-or-lt 2 (r.left.n + r.right.n))
