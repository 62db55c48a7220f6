-- Lists of numbers: halves of their length, and the test of all their numbers, from the front. Assumes nothing.
use mathlib.Core.Path.{◌≡◌, refl}
use mathlib.Core.Logic.{◌↔◌}
use mathlib.Core.Bool.{true, false}
use mathlib.Core.List.{List, [], ◌∷◌}
use Prim.Native.Nat.{ℕ, zero, suc, ◌+◌, ◌*◌, ◌≤◌, ◌<◌}
use native.Mathlib.Numerals.{add-one}
use native.Mathlib.Omega.{arith}
use borrow.Author.Tests.{lt-ltb, le-ltb}
use lib.IntN.{ℤ, pos}
use lib.ListN.{length, get_or, drop}
use lib.Seq.{drop-cons, drop-length}
use Rattle.whole.specs.Number.{is_within, Within}
use Rattle.whole.specs.Places.{list_from}
use Rattle.shapes.specs.Shape.{Near}
use Rattle.whole.proofs.Laws.{true-within, within-true}
use Rattle.whole.proofs.Tests.{and_left, and_right}
use Rattle.shapes.specs.declared.Point.{Point}
use Rattle.coordinates.specs.Points.{point_at, point_count, points_of, last_two}
use Rattle.coordinates.specs.Refusal.{is_odd, are_within, AllWithin}

-- ---- points and numbers

pub count-within : (cs : List ℤ) → 2 * point_count cs ≤ length cs
unfolding point_count
count-within cs = omega arith

pub point-inside : {i : ℕ} (cs : List ℤ) → i < point_count cs → 2 * i + 1 < length cs
point-inside {i} cs h = omega (arith, count-within cs)

pub odd-true : {n : ℕ} (cs : List ℤ) → n ≡ point_count cs → 2 * n < length cs → is_odd cs ≡ true
unfolding is_odd
odd-true cs e h = lt-ltb (2 * point_count cs) (length cs) (omega (arith, e))

pub odd-false : {n : ℕ} (cs : List ℤ) → n ≡ point_count cs → length cs ≤ 2 * n → is_odd cs ≡ false
unfolding is_odd
odd-false cs e h = le-ltb (2 * point_count cs) (length cs) (omega (arith, e))

-- ---- the points in turn are those by their places

point-behind : (x y : ℤ) (cs : List ℤ) (k : ℕ) → point_at (x ∷ y ∷ cs) (suc k) ≡ point_at cs k
unfolding point_at
point-behind x y cs k =
    let even : 2 * suc k ≡ suc (suc (2 * k)) = omega arith in
    let odd : 2 * suc k + 1 ≡ suc (suc (2 * k + 1)) = omega arith in
    rw (odd, even)

points-behind : (x y : ℤ) (cs : List ℤ) (n k : ℕ) → list_from (point_at (x ∷ y ∷ cs)) (suc k) n ≡ list_from (point_at cs) k n
unfolding list_from
points-behind x y cs zero k = refl
points-behind x y cs (suc n) k = rw (point-behind x y cs k, points-behind x y cs n (suc k))

pub points-in-turn : (cs : List ℤ) → points_of cs ≡ list_from (point_at cs) 0 (point_count cs)
unfolding points_of list_from point_count point_at
points-in-turn [] = refl
points-in-turn (x ∷ []) = refl
points-in-turn (x ∷ y ∷ cs) =
    let n : point_count (x ∷ y ∷ cs) ≡ suc (point_count cs) = omega arith in
    rw (n, points-in-turn cs, points-behind x y cs (point_count cs) 0)

-- the last two of points that are given by their place
pub last-two : {A : Type 0} (point : ℕ → Point) (f : Point → Point → A) (m k : ℕ) → last_two f (point k) (point (suc k)) (list_from point (suc (suc k)) m) ≡ f (point (k + m)) (point (suc k + m))
unfolding last_two list_from
last-two point f zero k = let p : k + 0 ≡ k = omega arith in let q : suc k + 0 ≡ suc k = omega arith in rw (q, p)
last-two point f (suc m) k = let p : k + suc m ≡ suc k + m = omega arith in let q : suc k + suc m ≡ suc (suc k) + m = omega arith in rw (q, p) (last-two point f m (suc k))

-- ---- the test of all numbers from place i on

module _ (k : ℕ) (cs : List ℤ) (i : ℕ) where
  pub within_more : i < length cs → is_within k (get_or cs i (pos 0)) ≡ true → are_within k (drop i cs) ≡ are_within k (drop (i + 1) cs)
  unfolding are_within
  within_more h e = rw (add-one i, drop-cons cs i (pos 0) h, e)

  pub within-stop : i < length cs → is_within k (get_or cs i (pos 0)) ≡ false → are_within k (drop i cs) ≡ false
  unfolding are_within
  within-stop h e = rw (drop-cons cs i (pos 0) h, e)

pub within_end : (k : ℕ) (cs : List ℤ) → are_within k (drop (length cs) cs) ≡ true
unfolding are_within
within_end k cs = rw (drop-length cs)

-- ---- what it says

-- it holds exactly where every number is within
pub all-within : (k : ℕ) (cs : List ℤ) → are_within k cs ≡ true → (i : ℕ) → Within (get_or cs i (pos 0)) k
unfolding are_within
all-within k [] e i = record { bound = omega arith }
all-within k (c ∷ cs) e zero = true-within k c (and_left (is_within k c) (are_within k cs) e)
all-within k (c ∷ cs) e (suc i) = all-within k cs (and_right (is_within k c) (are_within k cs) e) i

pub within_all : (k : ℕ) (cs : List ℤ) → ((i : ℕ) → Within (get_or cs i (pos 0)) k) → are_within k cs ≡ true
unfolding are_within
within_all k [] h = refl
within_all k (c ∷ cs) h = rw (within-true (h 0)) (within_all k cs (λ i. h (suc i)))

pub within-exactly : (k : ℕ) (cs : List ℤ) → (are_within k cs ≡ true) ↔ AllWithin k cs
within-exactly k cs = (λ e. record { within = all-within k cs e }, λ h. within_all k cs h.within)

-- every point of such a list is near
pub point_near : {k : ℕ} {cs : List ℤ} → AllWithin k cs → (i : ℕ) → Near k (point_at cs i)
unfolding point_at
point_near a i = record { x_near = a.within (2 * i); y_near = a.within (2 * i + 1) }
