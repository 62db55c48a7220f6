-- What W2 says of the parameters of a walk: they are fair for every delta but (0,0), and small enough for the steps.
-- Assumes nothing.
use mathlib.Core.Path.{◌≡◌, refl}
use mathlib.Core.Bool.{Bool, true, false, cond}
use Prim.Native.Nat.{ℕ, ◌+◌, ◌*◌, ◌≤◌}
use native.Mathlib.Nat.{le_refl}
use native.Mathlib.Omega.{arith}
use borrow.Author.Tests.{ltb-true, ltb-false}
use lib.Dec.{ltb, lit≤}
use lib.IntN.{ℤ, pos, nat_abs}
use lib.Signed.{lt_z, ◌≤ℤ◌}
use Rattle.whole.specs.Number.{Within}
use Rattle.whole.proofs.Bounds.{within_more, within-sub}
use Rattle.whole.proofs.Linear.{linear, times, abs-le}
use Rattle.shapes.specs.declared.Point.{Point}
use Rattle.shapes.specs.Shape.{point_of, Near}
use Rattle.shapes.proofs.Laws.{near-more, near-plus}
use Rattle.bresenham.specs.declared.Parameters.{Parameters}
use Rattle.bresenham.specs.declared.Bresenham.{Bresenham}
use Rattle.bresenham.specs.Walk.{step_limit, Sized, Placed, turned, Fair, direction_of, along, parameters_along}

-- ---- the steps

direction-by : (d : ℤ) (t : Bool) → lt_z d (pos 0) ≡ t → nat_abs (direction_of d) ≤ 1
unfolding direction_of
direction-by d true e = rw e (le_refl 1)
direction-by d false e = rw e (le_refl 1)

pub direction-unit : (d : ℤ) → Within (direction_of d) 1
direction-unit d = record { bound = direction-by d (lt_z d (pos 0)) refl }

abbrev pub across : Point → Point
across d = point_of (direction_of d.x) (pos 0)

abbrev pub down : Point → Point
down d = point_of (pos 0) (direction_of d.y)

across-unit : (d : Point) → Near 1 (across d)
across-unit d = record { x_near = direction-unit d.x; y_near = record { bound = lit≤ tt } }

down-unit : (d : Point) → Near 1 (down d)
down-unit d = record { x_near = record { bound = lit≤ tt }; y_near = direction-unit d.y }

-- ---- the parameters of a delta in one form, whichever axis is major

abbrev pub is_steep : Point → Bool
is_steep d = ltb (nat_abs d.x) (nat_abs d.y)

abbrev pub longer : Point → ℕ
longer d = cond (is_steep d) (nat_abs d.y) (nat_abs d.x)

abbrev pub shorter : Point → ℕ
shorter d = cond (is_steep d) (nat_abs d.x) (nat_abs d.y)

one_form : (t : Bool) (a b : Point) (m n : ℕ) → cond t (along a b (pos m) (pos n)) (along b a (pos n) (pos m)) ≡ along (cond t a b) (cond t b a) (pos (cond t m n)) (pos (cond t n m))
one_form true a b m n = refl
one_form false a b m n = refl

pub parameters-are : (d : Point) → parameters_along d ≡ along (cond (is_steep d) (down d) (across d)) (cond (is_steep d) (across d) (down d)) (pos (longer d)) (pos (shorter d))
unfolding parameters_along
parameters-are d = one_form (is_steep d) (down d) (across d) (nat_abs d.y) (nat_abs d.x)

-- of two numbers, m and n: a is the larger, c the smaller
pub record Sides (m n a c : ℕ) : Type 0 where
  pub m-less : m ≤ a
  pub n-less : n ≤ a
  pub less : c ≤ a
  pub least : (k : ℕ) → m ≤ k → n ≤ k → a ≤ k

sides-by : (m n : ℕ) (t : Bool) → ltb m n ≡ t → Sides m n (cond t n m) (cond t m n)
sides-by m n true e =
    let lt = ltb-true m n e in
    record { m-less = omega arith; n-less = le_refl n; less = omega arith; least = λ k x y. y }
sides-by m n false e =
    let le = ltb-false m n e in
    record { m-less = le_refl m; n-less = le; less = le; least = λ k x y. x }

pub sides : (d : Point) → Sides (nat_abs d.x) (nat_abs d.y) (longer d) (shorter d)
sides d = sides-by (nat_abs d.x) (nat_abs d.y) (is_steep d) refl

unit-either : (t : Bool) {a b : Point} → Near 1 a → Near 1 b → Near 1 (cond t a b)
unit-either true p q = p
unit-either false p q = q

-- ---- they are steps of one pixel, and the threshold is the larger absolute delta

pub major_unit : (d : Point) → Near 1 (parameters_along d).major
unfolding along
major_unit d = rw (parameters-are d) (unit-either (is_steep d) (down-unit d) (across-unit d))

pub minor_unit : (d : Point) → Near 1 (parameters_along d).minor
unfolding along
minor_unit d = rw (parameters-are d) (unit-either (is_steep d) (across-unit d) (down-unit d))

pub threshold-natural : {k : ℕ} (d : Point) → Near k d → (pos 0 ≤ℤ (parameters_along d).threshold) × (nat_abs (parameters_along d).threshold ≤ k)
unfolding along
threshold-natural {k} d h = rw (parameters-are d) (omega linear, (sides d).least k h.x_near.bound h.y_near.bound)

pub record Larger (k : ℕ) (d : Point) (p : Parameters) : Type 0 where
  pub fair : Fair k p
  pub x-less : nat_abs d.x ≤ nat_abs p.threshold
  pub y-less : nat_abs d.y ≤ nat_abs p.threshold
  pub least : (n : ℕ) → nat_abs d.x ≤ n → nat_abs d.y ≤ n → nat_abs p.threshold ≤ n

pub larger : {k : ℕ} (d : Point) → Near k d → 1 ≤ nat_abs d.x + nat_abs d.y → Larger k d (parameters_along d)
unfolding along
larger {k} d h some =
    let s = sides d in
    let most : longer d ≤ k = s.least k h.x_near.bound h.y_near.bound in
    rw (parameters-are d)
    (record {
      fair = record {
        some = omega linear;
        most = omega linear;
        loss_is = refl;
        gain_low = omega linear;
        gain_high = omega linear;
        major_unit = unit-either (is_steep d) (down-unit d) (across-unit d);
        minor_unit = unit-either (is_steep d) (across-unit d) (down-unit d);
      };
      x-less = s.m-less;
      y-less = s.n-less;
      least = s.least;
    })

-- ---- what the steps ask

pub fair-sized : {k : ℕ} {p : Parameters} → Fair k p → 2 * k ≤ step_limit → Sized p
fair-sized {k} {p} f h =
    let l = times 2 p.threshold in
    record {
      major_near = near-more f.major_unit (lit≤ tt);
      minor_near = near-more f.minor_unit (lit≤ tt);
      gain_small = record { bound = abs-le p.gain (omega linear) (omega linear) };
      loss_small = record { bound = abs-le p.loss (omega linear) (omega linear) };
      threshold_small = record { bound = abs-le p.threshold (omega linear) (omega linear) };
    }

-- after a minor move, where one is due, a place is still small enough for a major one
turned_by : (p : Parameters) (b : Bresenham) (t : Bool) → lt_z p.threshold b.error ≡ t → Sized p → Placed b → Near (step_limit + step_limit) (turned p b).point × Within (turned p b).error (step_limit + step_limit)
unfolding turned
turned_by p b true e s h = rw e (near-plus h.point_near s.minor_near, within-sub h.error_small s.loss_small)
turned_by p b false e s h = rw e (near-more h.point_near (lit≤ tt), within_more h.error_small (lit≤ tt))

pub turned-placed : {p : Parameters} {b : Bresenham} → Sized p → Placed b → Near (step_limit + step_limit) (turned p b).point × Within (turned p b).error (step_limit + step_limit)
turned-placed {p} {b} s h = turned_by p b (lt_z p.threshold b.error) refl s h
