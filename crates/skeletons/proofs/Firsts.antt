-- The parallels of width 2, by counts: the right edge is the line itself, and the left one starts a step beside it. Assumes nothing.
use mathlib.Core.Path.{◌≡◌, refl}
use mathlib.Core.Bool.{Bool, true, false, false≢true}
use Prim.Native.Nat.{ℕ, zero, suc, ◌+◌, ◌-◌, ◌*◌, ◌≤◌, ◌<◌}
use native.Mathlib.Nat.{mul-le-mul}
use native.Mathlib.Omega.{arith}
use borrow.Author.Tests.{ltb-true, ltb-false, lt-ltb, le-ltb, le-leb}
use lib.Dec.{ltb}
use Rattle.whole.proofs.Squares.{two-squares}
use Rattle.shapes.specs.declared.Side.{Side}
use Rattle.shapes.specs.declared.Side.TheVariants.{Left, Right}
use Rattle.skeletons.specs.Treads.{March, Arrived, tread_of, mark_of, kept_at, trod, trod_by, stepped, arrived_at, march, most_of, marched}
use Rattle.skeletons.proofs.Apart.{first-marched, onward}

march-done : (n a b : ℕ) (flip : Bool) (most : ℕ) (side : Side) (s : March) → ltb most (s.sum * s.sum) ≡ true → march n a b flip most side s ≡ arrived_at side s
unfolding march
march-done zero a b flip most side s e = refl
march-done (suc n) a b flip most side s e = rw e

-- the right one is the line itself; the left one starts a step beside it, and is Extra only where the line is steep enough
pub record Beside (a b : ℕ) (r : Arrived) : Type 0 where
  pub one : r.left.n ≡ 1
  pub none : r.left.e ≡ 0
  pub steep : r.left.extra ≡ true → a < 2 * b
  pub right_is : r.right ≡ mark_of 0 0 false

module _ {a b : ℕ} (some : 1 ≤ a) (less : b ≤ a) (flip : Bool) where
  -- the line itself, and one parallel more: then the accumulator is over, whether that was Normal or Extra
  short-of-two : (a + b + 2 * a) * (a + b + 2 * a) ≤ most_of a b 2
  short-of-two = omega (arith, two-squares a b)

  flat-over : 2 * b ≤ a → most_of a b 2 < (a + b + 2 * a + 2 * a) * (a + b + 2 * a + 2 * a)
  flat-over flat = omega (arith, mul-le-mul {n₁ = 2 * b} {m₁ = 2 * b} {n₂ = a} {m₂ = a} flat flat, mul-le-mul {n₁ = 1} {m₁ = 1} {n₂ = a} {m₂ = a} some some)

  steep-over : a < 2 * b → most_of a b 2 < (a + b + 2 * a + 2 * b) * (a + b + 2 * a + 2 * b)
  steep-over steep = by (2 * b - a) (a - b) (omega arith) (omega arith) (omega arith)
    where
      by : (u v : ℕ) → 1 ≤ u → a ≡ 2 * v + u → b ≡ v + u → most_of a b 2 < (a + b + 2 * a + 2 * b) * (a + b + 2 * a + 2 * b)
      by u v one larger smaller = rw (larger, smaller) (omega (arith, mul-le-mul {n₁ = 1} {m₁ = 1} {n₂ = u} {m₂ = u} one one))

  -- after the first left parallel
  abbrev flatly : March
  flatly = record { this = tread_of 1 0 0; other = tread_of 2 0 0; here = mark_of 0 0 false; there = mark_of 1 0 false; sum = a + b + 2 * a + 2 * a }

  abbrev steeply : March
  steeply = record { this = tread_of 1 0 0; other = tread_of 1 1 1; here = mark_of 0 0 false; there = mark_of 1 0 true; sum = a + b + 2 * a + 2 * b }

  second-by : (n : ℕ) (x : Bool) → ltb (2 * a * 0 + a) (2 * b * 1) ≡ x → Beside a b (march n a b flip (most_of a b 2) Right (stepped a b flip Left (onward a b)))
  unfolding stepped trod trod_by
  second-by n false e =
      let over = lt-ltb (most_of a b 2) ((a + b + 2 * a + 2 * a) * (a + b + 2 * a + 2 * a)) (flat-over (omega (arith, ltb-false (2 * a * 0 + a) (2 * b * 1) e))) in
      let step : stepped a b flip Left (onward a b) ≡ flatly = rw e in
      rw (step, march-done n a b flip (most_of a b 2) Right flatly over) (record { one = refl; none = refl; steep = λ z. absurd (false≢true z); right_is = refl })
  second-by n true e =
      let steep : a < 2 * b = omega (arith, ltb-true (2 * a * 0 + a) (2 * b * 1) e) in
      let over = lt-ltb (most_of a b 2) ((a + b + 2 * a + 2 * b) * (a + b + 2 * a + 2 * b)) (steep-over steep) in
      let step : stepped a b flip Left (onward a b) ≡ steeply = rw (e, kept flip steep) in
      rw (step, march-done n a b flip (most_of a b 2) Right steeply over) (record { one = refl; none = refl; steep = λ _. steep; right_is = refl })
    where
      kept : (y : Bool) → a < 2 * b → kept_at a b y 0 0 ≡ true
      kept true h = le-leb (2 * a * 0 + a) (2 * b * (0 + 1)) (omega arith)
      kept false h = lt-ltb (2 * a * 0 + a) (2 * b * (0 + 1)) (omega arith)

  pub beside_two : Beside a b (marched a b flip 2)
  unfolding march
  beside_two =
      let n = most_of a b 2 - (a + b) - 1 in
      let fuel : most_of a b 2 - (a + b) ≡ suc n = omega (arith, short-of-two, mul-le-mul {n₁ = 1} {m₁ = a + b + 2 * a} {n₂ = a + b + 2 * a} {m₂ = a + b + 2 * a} (omega arith) (omega arith)) in
      rw (first-marched {w = 2} some less (omega arith) flip, fuel, le-ltb (most_of a b 2) ((a + b + 2 * a) * (a + b + 2 * a)) short-of-two) (second-by n (ltb (2 * a * 0 + a) (2 * b * 1)) refl)
