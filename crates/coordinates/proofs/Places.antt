-- Places round a closed route: they stay in it, one comes after the one before it, and the first after the last. Assumes nothing.
use mathlib.Core.Path.{◌≡◌, refl}
use mathlib.Core.Bool.{Bool, true, false, cond}
use Prim.Native.Nat.{ℕ, ◌+◌, ◌-◌, ◌<◌}
use native.Mathlib.Omega.{arith}
use borrow.Author.Tests.{eqb-true, eqb-false, eq-eqb, ne_eqb}
use lib.Dec.{eqb}
use Rattle.coordinates.specs.Points.{place_after, place_before}

pub after-inner : (n i : ℕ) → i + 1 < n → place_after n i ≡ i + 1
unfolding place_after
after-inner n i more = rw (ne_eqb (i + 1) n (λ e. omega (arith, e)))

pub after_last : (n i : ℕ) → i + 1 ≡ n → place_after n i ≡ 0
unfolding place_after
after_last n i last = rw (eq-eqb (i + 1) n last)

after-by : (n i : ℕ) (t : Bool) → eqb (i + 1) n ≡ t → i < n → cond t 0 (i + 1) < n
after-by n i true e h = omega arith
after-by n i false e h = let other = eqb-false (i + 1) n e in omega (arith, other)

pub after-inside : {n i : ℕ} → i < n → place_after n i < n
unfolding place_after
after-inside {n} {i} = after-by n i (eqb (i + 1) n) refl

before-by : (n i : ℕ) (t : Bool) → i < n → cond t (n - 1) (i - 1) < n
before-by n i true h = omega arith
before-by n i false h = omega arith

pub before-inside : {n i : ℕ} → i < n → place_before n i < n
unfolding place_before
before-inside {n} {i} = before-by n i (eqb i 0)

-- after the place before one comes that one again
round_by : (n i : ℕ) (t : Bool) → eqb i 0 ≡ t → i < n → place_after n (cond t (n - 1) (i - 1)) ≡ i
unfolding place_after
round_by n i true e h =
    let first = eqb-true i 0 e in
    let last : n - 1 + 1 ≡ n = omega arith in
    rw (eq-eqb (n - 1 + 1) n last) (omega (arith, first))
round_by n i false e h =
    let some = eqb-false i 0 e in
    let on : i - 1 + 1 ≡ i = omega (arith, some) in
    rw (on, ne_eqb i n (λ z. omega arith))

pub before-after : {n i : ℕ} → i < n → place_after n (place_before n i) ≡ i
unfolding place_before
before-after {n} {i} = round_by n i (eqb i 0) refl
