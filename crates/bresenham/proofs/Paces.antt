-- The law of a walk's pace: before its n-th point t minor moves are made exactly where n c and t a are at most half of a from each
-- other. So the walk of every line is known in closed form. Assumes nothing.
use mathlib.Core.Path.{◌≡◌, refl, sym, ap, ◌∙◌}
use mathlib.Core.Logic.{◌↔◌, ⊎_elim}
use mathlib.Core.Bool.{Bool, true, false, cond}
use Prim.Native.Nat.{ℕ, zero, suc, ◌+◌, ◌*◌, ◌-◌, ◌≤◌, ◌<◌}
use native.Mathlib.Nat.{le_refl, zero-add, add-zero, mul-le-mul_right, div-zero, div-mul-le_self, lt-div-mul-add, le-div_iff_mul-le, div-lt_iff_lt-mul, div-eq_of_lt-le}
use native.Mathlib.Omega.{arith}
use lib.IntN.{ℤ, pos, neg_ℤ, ◌+ℤ◌, ◌-ℤ◌}
use lib.Signed.{lt_z}
use Rattle.whole.proofs.Linear.{linear, diff, le-or-lt, pos-suc}
use Rattle.whole.proofs.Ring.{con, neg, ◌⊕◌, ◌⊖◌, ◌⊗◌, ◌≈◌, ring}
use Rattle.shapes.specs.declared.Point.{Point}
use Rattle.shapes.specs.Shape.{plus}
use Rattle.bresenham.specs.declared.Parameters.{Parameters}
use Rattle.bresenham.specs.Walk.{place_of, along, turned, handed, next_of}
use Rattle.bresenham.specs.Points.{points_from}
use Rattle.bresenham.specs.Paces.{counted, turns, Paced, turns_at, moved, moved_to, values_from}

-- ---- numbers alone: t is a quotient of n

pub turns-paced : {a c n : ℕ} → 0 < a → Paced a c n (turns_at a c n)
unfolding turns_at
turns-paced {a} {c} {n} some =
    let N = n * (2 * c) + (a - 1) in
    let low = div-mul-le_self N (2 * a) in
    let high = lt-div-mul-add {a = N} {b = 2 * a} (omega arith) in
    record { below = low; above = omega arith }

pub paced-turns : {a c n t : ℕ} → 0 < a → Paced a c n t → turns_at a c n ≡ t
unfolding turns_at
paced-turns {a} some w = div-eq_of_lt-le (2 * a) w.below (omega arith)

-- more points, no fewer minor moves, and no more than c in all
pub turns-mono : (a c : ℕ) {m n : ℕ} → m ≤ n → turns_at a c m ≤ turns_at a c n
unfolding turns_at
turns-mono a c {m} {n} h =
    ⊎_elim
    (λ (none : a ≤ 0). let z : a ≡ 0 = omega arith in rw z (simp div-zero (omega arith)))
    (λ (some : 0 < a). let low = div-mul-le_self (m * (2 * c) + (a - 1)) (2 * a) in (le-div_iff_mul-le {k = 2 * a} {x = turns_at a c m} {y = n * (2 * c) + (a - 1)} (omega arith)).1 (omega (arith, mul-le-mul_right (2 * c) h)))
    (le-or-lt a 0)

pub turns-most : (a c : ℕ) {n : ℕ} → n ≤ a → turns_at a c n ≤ c
unfolding turns_at
turns-most a c {n} h =
    ⊎_elim
    (λ (none : a ≤ 0). let z : a ≡ 0 = omega arith in rw z (simp div-zero (omega arith)))
    (λ (some : 0 < a). omega (arith, (div-lt_iff_lt-mul {k = 2 * a} {x = n * (2 * c) + (a - 1)} {y = c + 1} (omega arith)).1 (omega (arith, mul-le-mul_right (2 * c) h))))
    (le-or-lt a 0)

-- for the points of the walk, also where it has no move
idle : {a n : ℕ} (c : ℕ) → n ≤ a → a ≤ 0 → turns_at a c n ≡ 0
unfolding turns_at
idle {a} {n} c h none = let z : a ≡ 0 = omega arith in rw z (div-zero (n * (2 * c) + 0))

pub turns-within : {a c n : ℕ} → c ≤ a → n ≤ a → Paced a c n (turns_at a c n)
turns-within {a} {c} {n} less h =
    ⊎_elim
    (λ none. rw (idle c h none) (let z : n ≡ 0 = omega arith in rw z (record { below = omega arith; above = omega arith })))
    (λ some. turns-paced some)
    (le-or-lt a 0)

pub within-turns : {a c n t : ℕ} → c ≤ a → n ≤ a → t ≤ c → Paced a c n t → turns_at a c n ≡ t
within-turns {a} {c} {n} {t} less h most w = ⊎_elim (λ none. idle c h none ∙ omega arith) (λ some. paced-turns some w) (le-or-lt a 0)

-- ---- the walk goes from pos-suc such place to the next

-- no move, a minor pos-suc more, a major pos-suc more
still : (x M m : ℤ) → moved x M m 0 0 ≡ x
still x M m = ring 3 (λ x M m. x ⊕ con (pos 0) ⊗ M ⊕ con (pos 0) ⊗ m ≈ x) refl x M m

minor-more : (x M m : ℤ) (n t : ℕ) → moved x M m n t +ℤ m ≡ moved x M m n (suc t)
minor-more x M m n t = rw (pos-suc t) (ring 5 (λ x M m n t. x ⊕ n ⊗ M ⊕ t ⊗ m ⊕ m ≈ x ⊕ n ⊗ M ⊕ (t ⊕ con (pos 1)) ⊗ m) refl x M m (pos n) (pos t))

major-more : (x M m : ℤ) (n t : ℕ) → moved x M m n t +ℤ M ≡ moved x M m (suc n) t
major-more x M m n t = rw (pos-suc n) (ring 5 (λ x M m n t. x ⊕ n ⊗ M ⊕ t ⊗ m ⊕ M ≈ x ⊕ (n ⊕ con (pos 1)) ⊗ M ⊕ t ⊗ m) refl x M m (pos n) (pos t))

module _ (p : Parameters) (q : Point) where
  abbrev M : Point
  M = p.major

  abbrev m : Point
  m = p.minor

  begun : moved_to p q 0 0 ≡ place_of q (pos 0)
  unfolding moved_to
  begun = rw (still q.x M.x m.x, still q.y M.y m.y, still (pos 0) p.gain (neg_ℤ p.loss))

  minor-moved : (n t : ℕ) → place_of (plus (moved_to p q n t).point m) ((moved_to p q n t).error -ℤ p.loss) ≡ moved_to p q n (suc t)
  unfolding moved_to plus
  minor-moved n t = cc (minor-more q.x M.x m.x n t, minor-more q.y M.y m.y n t, minor-more (pos 0) p.gain (neg_ℤ p.loss) n t)

  major-moved : (n t : ℕ) → place_of (plus (moved_to p q n t).point M) ((moved_to p q n t).error +ℤ p.gain) ≡ moved_to p q (suc n) t
  unfolding moved_to plus
  major-moved n t = cc (major-more q.x M.x m.x n t, major-more q.y M.y m.y n t, major-more (pos 0) p.gain (neg_ℤ p.loss) n t)

  turned_by : (n t : ℕ) (d : Bool) → lt_z p.threshold (moved_to p q n t).error ≡ d → turned p (moved_to p q n t) ≡ moved_to p q n (cond d (suc t) t)
  unfolding turned
  turned_by n t true e = rw e (minor-moved n t)
  turned_by n t false e = rw e

-- the walk with the larger and the smaller absolute delta a and c
module _ (M m : Point) (a c : ℕ) (q : Point) (some : 0 < a) (less : c ≤ a) where
  abbrev p : Parameters
  p = along M m (pos a) (pos c)

  -- a place before its minor move, where pos-suc is due
  record Ready (n t : ℕ) : Type 0 where
    below : t * (2 * a) ≤ n * (2 * c) + (a - 1)
    above : n * (2 * c) ≤ t * (2 * a) + 3 * a

  error-is : (n t : ℕ) → (moved_to p q n t).error ≡ pos (n * (2 * c)) -ℤ pos (t * (2 * a))
  unfolding moved_to along
  error-is n t = ring 4 (λ n g t l. con (pos 0) ⊕ n ⊗ g ⊕ t ⊗ neg l ≈ n ⊗ g ⊖ t ⊗ l) refl (pos n) (pos (2 * c)) (pos t) (pos (2 * a))

  -- the minor moves made at a place are those that the pace asks for
  counted-by : (n t : ℕ) (d : Bool) → lt_z (pos a) (moved_to p q n t).error ≡ d → Ready n t → cond d (suc t) t ≡ turns_at a c n
  counted-by n t true e r =
      let far = diff (pos (n * (2 * c))) (pos (t * (2 * a))) in
      let error = error-is n t in
      sym (paced-turns some (record { below = omega linear; above = omega linear }))
  counted-by n t false e r =
      let far = diff (pos (n * (2 * c))) (pos (t * (2 * a))) in
      let error = error-is n t in
      sym (paced-turns some (record { below = r.below; above = omega linear }))

  counted_is : (n t : ℕ) → Ready n t → counted p (moved_to p q n t) t ≡ turns_at a c n
  unfolding along
  counted_is n t r = counted-by n t (lt_z (pos a) (moved_to p q n t).error) refl r

  next-is : (n t : ℕ) → Ready n t → next_of p (moved_to p q n t) ≡ record { point = (moved_to p q n (turns_at a c n)).point; state = moved_to p q (suc n) (turns_at a c n) }
  unfolding next_of handed along
  next-is n t r = rw (turned_by p q n t (lt_z (pos a) (moved_to p q n t).error) refl, counted_is n t r, major-moved p q n (turns_at a c n))

  ready-next : (n : ℕ) → Ready (suc n) (turns_at a c n)
  ready-next n = let w = turns-paced {c = c} {n = n} some in record { below = omega arith; above = omega arith }

  ready-first : Ready 0 0
  ready-first = record { below = omega arith; above = omega arith }

  turns-from : (k n t : ℕ) → Ready n t → turns k p (moved_to p q n t) t ≡ turns_at a c (k + n)
  unfolding turns
  turns-from zero n t r = rw zero-add (counted_is n t r)
  turns-from (suc k) n t r = rw (next-is n t r, counted_is n t r) (turns-from k (suc n) (turns_at a c n) (ready-next n) ∙ ap (turns_at a c) (omega arith))

  walk_from : (k n t : ℕ) → Ready n t → points_from k p (moved_to p q n t) ≡ values_from (λ n. (moved_to p q n (turns_at a c n)).point) n k
  unfolding points_from values_from
  walk_from zero n t r = refl
  walk_from (suc k) n t r = rw (next-is n t r, walk_from k (suc n) (turns_at a c n) (ready-next n))

-- a walk without a move
one-point : (M m : Point) (c : ℕ) (q : Point) → points_from 1 (along M m (pos 0) (pos c)) (place_of q (pos 0)) ≡ values_from (λ n. (moved_to (along M m (pos 0) (pos c)) q n (turns_at 0 c n)).point) 0 1
unfolding points_from values_from next_of handed turned along
one-point M m c q = rw (idle {a = 0} {n = 0} c (le_refl 0) (le_refl 0), begun (along M m (pos 0) (pos c)) q)

-- ---- the law, for the walk of any parameters that W2 gives, whichever axis is major

module _ (M m : Point) (a c : ℕ) (q : Point) (less : c ≤ a) where
  abbrev pub walk : Parameters
  walk = along M m (pos a) (pos c)

  pub turns-exactly : (n t : ℕ) → 0 < a → (turns n walk (place_of q (pos 0)) 0 ≡ t) ↔ Paced a c n t
  turns-exactly n t some =
      let is : turns n walk (place_of q (pos 0)) 0 ≡ turns_at a c (n + 0) = rw (← begun walk q) (turns-from M m a c q some less n 0 0 (ready-first M m a c q some less)) in
      (λ e. rw (← e, is, add-zero) (turns-paced some), λ w. is ∙ rw add-zero (paced-turns some w))

  pub walk-points : points_from (suc a) walk (place_of q (pos 0)) ≡ values_from (λ n. (moved_to walk q n (turns_at a c n)).point) 0 (suc a)
  walk-points =
      ⊎_elim
      (λ (none : a ≤ 0). let z : a ≡ 0 = omega arith in rw z (one-point M m c q))
      (λ (some : 0 < a). rw (← begun walk q) (walk_from M m a c q some less (suc a) 0 0 (ready-first M m a c q some less)))
      (le-or-lt a 0)
