-- From width 3 to 64 the edges of a leg do not come to one square within a miter's reach of where it starts, but for the leg of 2 and 1 at width 6. Assumes nothing.
use mathlib.Core.Path.{◌≡◌, refl, ap}
use mathlib.Core.Logic.{◌⊎◌, inl, inr, ⊎_elim}
use mathlib.Core.Bool.{Bool, true, false}
use Prim.Native.Nat.{ℕ, ◌+◌, ◌-◌, ◌*◌, ◌/◌, ◌≤◌, ◌<◌}
use native.Mathlib.Nat.{mul-le-mul, mul-le-mul_left}
use native.Mathlib.Omega.{arith}
use borrow.Author.Tests.{ltb-true, eqb-true}
use lib.Dec.{ltb, eqb}
use lib.IntN.{ℤ, pos, nat_abs, neg_ℤ, ◌+ℤ◌, ◌-ℤ◌, ◌*ℤ◌, neg_ℤ-neg_ℤ}
use Rattle.whole.proofs.Bounds.{abs_neg, abs-add, abs-mul}
use Rattle.whole.proofs.Linear.{linear, diff, abs-parts, le-or-lt}
use Rattle.whole.proofs.Ring.{con, ◌⊕◌, ◌⊖◌, ◌⊗◌, ◌≈◌, ring}
use Rattle.whole.proofs.Steps.{square_le}
use Rattle.whole.proofs.Tests.{and_left, and_right}
use Rattle.skeletons.specs.Treads.{Arrived, most_of, marched}
use Rattle.skeletons.proofs.Apart.{PaidFor, gap_of, gap, paid_for, gap-wide, two_steps}
use Rattle.skeletons.proofs.Distances.{Wide, Close, never-long, never-wide, wide_of, late_of, extra-wide}
use Rattle.skeletons.proofs.Sights.{Reached, Normal, Extra, Sighted, normal, extra}
use Rattle.skeletons.proofs.Small.{Test, passes, by_gap, by_axis, keeps, is_excepted, few-keep, many-keep}
use Rattle.skeletons.proofs.Together.{both-normal, both-extra, one-extra, along-axis}

-- a Normal edge n and e steps out on the one side, and an Extra one p and f on the other
module _ (b c w n e p f : ℕ) (x y : ℤ) where
  abbrev g : ℕ
  g = gap_of (b + c + 1) (b + 1) n e p f

  -- seen from an end of the leg, at which the Extra one is s nearer along the major axis
  pub closes : (s : ℤ) → nat_abs y ≤ 2 * w → Normal (b + c + 1) (b + 1) (x -ℤ pos n) (y -ℤ pos e) → Extra (b + c + 1) (b + 1) (neg_ℤ x -ℤ pos p +ℤ s) (neg_ℤ y -ℤ pos f -ℤ s)
      → Close b c w (2 * c * (b + c + 1) * nat_abs s) g f
  closes s low h k =
      let far = pos g -ℤ s *ℤ pos c in
      let gap : g ≤ nat_abs far + nat_abs s * c = omega (arith, abs-parts far, abs-parts (s *ℤ pos c), diff (pos g) (s *ℤ pos c), abs-mul s (pos c)) in
      let end : nat_abs (y +ℤ pos f +ℤ s) ≤ 2 * w + f + nat_abs s = omega (arith, abs-add (y +ℤ pos f) s, abs-add y (pos f)) in
      omega (arith, one-extra b c n e p f x y s h k, mul-le-mul_left (2 * (b + c)) gap, mul-le-mul_left (2 * c) end)

  module _ (reach : Reached w x y) (some : 1 ≤ b + c) (h : Normal (b + c + 1) (b + 1) (x -ℤ pos n) (y -ℤ pos e)) (k : Extra (b + c + 1) (b + 1) (neg_ℤ x -ℤ pos p +ℤ pos 0) (neg_ℤ y -ℤ pos f -ℤ pos 0)) where
    close-start : Close b c w 0 g f
    close-start = omega (arith, closes (pos 0) (square_le (nat_abs y) (2 * w) (omega arith)) h k)

    gap-no : by_gap b c w 0 n e p f ≡ true → ⊥
    gap-no t = omega (arith, close-start, ltb-true)

    axis-no : by_axis b c w n e p f ≡ true → ⊥
    axis-no t =
        let far = (c + 1) * (n + p) + e - (c + 2) / 2 in
        let beyond : 2 * w * (2 * w) < p * p + far * far = ltb-true (2 * w * (2 * w)) (p * p + far * far) (and_right (eqb b 0) (ltb (2 * w * (2 * w)) (p * p + far * far)) t) in
        let thin : b ≡ 0 = eqb-true b 0 (and_left (eqb b 0) (ltb (2 * w * (2 * w)) (p * p + far * far)) t) in
        let larger : b + c + 1 ≡ c + 1 = omega (arith, thin) in
        let smaller : b + 1 ≡ 1 = omega (arith, thin) in
        let a = along-axis c n e p f x y (pos 0) (omega (arith, thin)) (rw (larger, smaller) at h) (rw (larger, smaller) at k) in
        let to = pos ((c + 1) * (n + p) + e) in
        let is : y -ℤ pos e -ℤ pos (c + 1) *ℤ (pos (n + p) -ℤ pos 0) ≡ y -ℤ to = ring 4 (λ c m e y. y ⊖ e ⊖ (c ⊕ con (pos 1)) ⊗ (m ⊖ con (pos 0)) ≈ y ⊖ ((c ⊕ con (pos 1)) ⊗ m ⊕ e)) refl (pos c) (pos (n + p)) (pos e) y in
        let off = ap nat_abs is in
        let y-far : far ≤ nat_abs y = omega (arith, a.far, off, abs-parts y, abs-parts (y -ℤ to), diff y to) in
        let x-far : p ≤ nat_abs x = omega (linear, a.at, abs-parts x, diff (pos 0) (pos p)) in
        omega (arith, mul-le-mul {n₁ = p} {m₁ = p} x-far x-far, mul-le-mul {n₁ = far} {m₁ = far} y-far y-far)

    keeps-no : keeps b c w n e p f ≡ true → ⊥
    keeps-no t = by (by_gap b c w 0 n e p f) refl
      where
        by : (u : Bool) → by_gap b c w 0 n e p f ≡ u → ⊥
        by true e = gap-no e
        by false e = axis-no (rw e at t)

    -- so they keep apart: a gap as wide as the width asks for is too wide, and short legs are computed
    start-no : 3 ≤ w → 4 * c * f ≤ g → Wide b c w g → (b + c < 8 → w ≤ 10 → keeps b c w n e p f ≡ true) → (b ≡ 0 → c ≡ 1 → 11 ≤ w → keeps b c w n e p f ≡ true) → ⊥
    start-no three late wide few many =
        ⊎_elim
        (λ long. let is : w ≡ 3 + (w - 3) = omega arith in never-long b c (w - 3) g f long late (rw is at wide) (rw is at close-start))
        (λ small. ⊎_elim (λ ten. keeps-no (few small ten))
        (λ eleven.
        let is : w ≡ 11 + (w - 11) = omega arith in
        let broad : (1 ≤ b) ⊎ (2 ≤ c) → ⊥ = λ more. never-wide b c (w - 11) g f more late (rw is at wide) (rw is at close-start) in
        ⊎_elim (λ some. broad (inl some)) (λ none. ⊎_elim (λ two. broad (inr two)) (λ one. keeps-no (many (omega arith) (omega arith) eleven)) (le-or-lt 2 c)) (le-or-lt 1 b))
        (le-or-lt w 10))
        (le-or-lt 8 (b + c))

-- ---- both edges of a leg

module _ (b c w : ℕ) (flip : Bool) where
  abbrev last : Arrived
  last = marched (b + c + 1) (b + 1) flip w

  -- what is known of a Normal edge n and e steps out on the one side, and an Extra one p and f on the other
  pub record OneExtra (n e p f : ℕ) : Type 0 where
    pub late : 4 * c * f ≤ gap_of (b + c + 1) (b + 1) n e p f
    pub wide : Wide b c w (gap_of (b + c + 1) (b + 1) n e p f)
    pub passed : (test : Test) → passes test last ≡ true → test n e p f ≡ true

  -- such two do not come to the square x and y steps away, whichever is on the left
  abbrev pub Parted : ℤ → ℤ → ℤ → Type 0
  Parted x y s = (n e p f : ℕ) (u v t : ℤ) → OneExtra n e p f → nat_abs u ≡ nat_abs x → nat_abs v ≡ nat_abs y → nat_abs t ≡ nat_abs s
      → Normal (b + c + 1) (b + 1) (u -ℤ pos n) (v -ℤ pos e) → Extra (b + c + 1) (b + 1) (neg_ℤ u -ℤ pos p +ℤ t) (neg_ℤ v -ℤ pos f -ℤ t) → ⊥

  module _ (three : 3 ≤ w) where
    is-paid : PaidFor (b + c + 1) (b + 1) (most_of (b + c + 1) (b + 1) w) last
    is-paid = paid_for (omega arith) (omega arith) (omega arith) flip

    gap_more : b + c + 1 + (b + 1) < gap (b + c + 1) (b + 1) last
    gap_more = gap-wide (omega arith) (omega arith) three flip

    steps-more : 2 ≤ last.left.n + last.right.n
    steps-more = two_steps (omega arith) (omega arith) three flip

    -- the Extra one is on the right, or on the left
    right-extra : last.left.extra ≡ false → last.right.extra ≡ true → OneExtra last.left.n last.left.e last.right.n last.right.e
    unfolding passes
    right-extra l r =
        let prices = rw (l, r) at is-paid.paid in
        record {
          late = late_of b c last.right.n last.right.e _ (is-paid.right-fairly.late r) (omega arith);
          wide = wide_of b c w last.sum _ is-paid.over (omega (arith, prices));
          passed = λ test h. rw (l, r) at h;
        }

    left-extra : last.left.extra ≡ true → last.right.extra ≡ false → OneExtra last.right.n last.right.e last.left.n last.left.e
    unfolding passes
    left-extra l r =
        let prices = rw (l, r) at is-paid.paid in
        record {
          late = late_of b c last.left.n last.left.e _ (is-paid.left-fairly.late l) (omega arith);
          wide = wide_of b c w last.sum _ is-paid.over (omega (arith, prices));
          passed = λ test h. rw (l, r) at h;
        }

    -- so no two edges do
    module _ (x y s : ℤ) (some : 1 ≤ b + c) where
      pub none-together : Parted x y s → Sighted (b + c + 1) (b + 1) x y s last.left → Sighted (b + c + 1) (b + 1) (neg_ℤ x) (neg_ℤ y) (neg_ℤ s) last.right → ⊥
      none-together parted (normal l h) (normal r k) = omega (arith, gap_more, both-normal (b + c + 1) (b + 1) last.left.n last.left.e last.right.n last.right.e x y h k)
      none-together parted (normal l h) (extra r k) = parted _ _ _ _ x y (neg_ℤ s) (right-extra l r) refl refl (abs_neg s) h k
      none-together parted (extra l h) (normal r k) = parted _ _ _ _ (neg_ℤ x) (neg_ℤ y) s (left-extra l r) (abs_neg x) (abs_neg y) refl k (rw (neg_ℤ-neg_ℤ x, neg_ℤ-neg_ℤ y) h)
      none-together parted (extra l h) (extra r k) =
          extra-wide b c (last.left.n + last.right.n) (last.left.e + last.right.e) some steps-more (omega (arith, gap_more))
          (omega (arith, both-extra (b + c + 1) (b + 1) last.left.n last.left.e last.right.n last.right.e x y s h k))

    module _ (most : w ≤ 64) (x y : ℤ) (reach : Reached w x y) (some : 1 ≤ b + c) (unless : flip ≡ true → is_excepted b c w ≡ false) where
      start-parted : Parted x y (pos 0)
      start-parted n e p f u v t one u-is v-is t-is h k =
          let none : t ≡ pos 0 = omega (linear, t-is, abs-parts t) in
          start-no b c w n e p f u v (rw (u-is, v-is) reach) some h (rw none at k) three one.late one.wide
          (λ small ten. one.passed (keeps b c w) (few-keep b c w flip some small three ten unless))
          (λ zero one_more eleven. one.passed (keeps b c w) (many-keep b c w flip zero one_more eleven most))

      pub starts_apart : Sighted (b + c + 1) (b + 1) x y (pos 0) last.left → Sighted (b + c + 1) (b + 1) (neg_ℤ x) (neg_ℤ y) (pos 0) last.right → ⊥
      starts_apart = none-together x y (pos 0) some start-parted
