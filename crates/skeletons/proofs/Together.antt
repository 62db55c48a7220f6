-- Both edges of a leg come to one square: what that says of the way between them. Assumes nothing.
use mathlib.Core.Path.{◌≡◌, refl, sym, ap}
use mathlib.Core.Logic.{⊎_elim}
use Prim.Native.Nat.{ℕ, ◌+◌, ◌*◌, ◌≤◌}
use native.Mathlib.Nat.{mul-le-mul_left, mul-le-mul_right}
use native.Mathlib.Omega.{arith}
use lib.IntN.{ℤ, pos, nat_abs, neg_ℤ, ◌+ℤ◌, ◌-ℤ◌, ◌*ℤ◌}
use Rattle.whole.proofs.Bounds.{abs_neg, abs-add, abs-sub, abs-mul}
use Rattle.whole.proofs.Linear.{linear, sum, diff, opp, abs-parts, le-or-lt}
use Rattle.whole.proofs.Ring.{con, neg, ◌⊕◌, ◌⊖◌, ◌⊗◌, ◌≈◌, since, ring}
use Rattle.skeletons.proofs.Apart.{gap_of}
use Rattle.skeletons.proofs.Sights.{Normal, Extra}

-- the one edge is n and e steps out on the one side, the other p and f on the other
module _ (a b n e p f : ℕ) (x y : ℤ) where
  abbrev g : ℕ
  g = gap_of a b n e p f

  -- two Normal ones
  pub both-normal : Normal a b (x -ℤ pos n) (y -ℤ pos e) → Normal a b (neg_ℤ x -ℤ pos p) (neg_ℤ y -ℤ pos f) → g ≤ a + b
  both-normal h k =
      let q = pos a *ℤ (x -ℤ pos n) +ℤ pos b *ℤ (y -ℤ pos e) in
      let r = pos a *ℤ (neg_ℤ x -ℤ pos p) +ℤ pos b *ℤ (neg_ℤ y -ℤ pos f) in
      let is : neg_ℤ (q +ℤ r) ≡ pos g = ring 8 (λ a b n e p f x y. neg (a ⊗ (x ⊖ n) ⊕ b ⊗ (y ⊖ e) ⊕ (a ⊗ (neg x ⊖ p) ⊕ b ⊗ (neg y ⊖ f))) ≈ a ⊗ n ⊕ b ⊗ e ⊕ (a ⊗ p ⊕ b ⊗ f)) refl (pos a) (pos b) (pos n) (pos e) (pos p) (pos f) x y in
      omega (arith, h.near, k.near, ap nat_abs is, abs_neg (q +ℤ r), abs-add q r)

  -- two Extra ones
  pub both-extra : (s : ℤ) → Extra a b (x -ℤ pos n +ℤ s) (y -ℤ pos e -ℤ s) → Extra a b (neg_ℤ x -ℤ pos p +ℤ neg_ℤ s) (neg_ℤ y -ℤ pos f -ℤ neg_ℤ s) → g + 2 ≤ a + b + (n + e + (p + f))
  both-extra s h k =
      let u = x -ℤ pos n +ℤ s in
      let v = y -ℤ pos e -ℤ s in
      let t = neg_ℤ x -ℤ pos p +ℤ neg_ℤ s in
      let w = neg_ℤ y -ℤ pos f -ℤ neg_ℤ s in
      let q = pos a *ℤ u +ℤ pos b *ℤ v -ℤ (u +ℤ v) in
      let r = pos a *ℤ t +ℤ pos b *ℤ w -ℤ (t +ℤ w) in
      let steps = pos (n + e + (p + f)) in
      let is : neg_ℤ (q +ℤ r) ≡ pos g -ℤ steps =
      ring 9 (λ a b n e p f x y s. neg (a ⊗ (x ⊖ n ⊕ s) ⊕ b ⊗ (y ⊖ e ⊖ s) ⊖ (x ⊖ n ⊕ s ⊕ (y ⊖ e ⊖ s)) ⊕ (a ⊗ (neg x ⊖ p ⊕ neg s) ⊕ b ⊗ (neg y ⊖ f ⊖ neg s) ⊖ (neg x ⊖ p ⊕ neg s ⊕ (neg y ⊖ f ⊖ neg s)))) ≈ a ⊗ n ⊕ b ⊗ e ⊕ (a ⊗ p ⊕ b ⊗ f) ⊖ (n ⊕ e ⊕ (p ⊕ f))) refl
      (pos a) (pos b) (pos n) (pos e) (pos p) (pos f) x y s in
      omega (arith, h.near, k.near, ap nat_abs is, abs_neg (q +ℤ r), abs-add q r, abs-parts (pos g -ℤ steps), diff (pos g) steps)

-- a Normal one and an Extra one, the deltas being b + c + 1 and b + 1: s is what the Extra one is nearer along the major axis, and farther along the other
module _ (b c n e p f : ℕ) (x y s : ℤ) where
  pub one-extra : Normal (b + c + 1) (b + 1) (x -ℤ pos n) (y -ℤ pos e) → Extra (b + c + 1) (b + 1) (neg_ℤ x -ℤ pos p +ℤ s) (neg_ℤ y -ℤ pos f -ℤ s)
      → 2 * (b + c) * nat_abs (pos (gap_of (b + c + 1) (b + 1) n e p f) -ℤ s *ℤ pos c) ≤ 2 * (b + c) * (b + c + b + 1) + (b + c + b) + 2 * c * nat_abs (y +ℤ pos f +ℤ s)
  one-extra h k =
      let u = neg_ℤ x -ℤ pos p +ℤ s in
      let v = neg_ℤ y -ℤ pos f -ℤ s in
      let q = pos (b + c + 1) *ℤ (x -ℤ pos n) +ℤ pos (b + 1) *ℤ (y -ℤ pos e) in
      let r = pos (b + c + 1) *ℤ u +ℤ pos (b + 1) *ℤ v -ℤ (u +ℤ v) in
      let t = y +ℤ pos f +ℤ s in
      let far = pos (gap_of (b + c + 1) (b + 1) n e p f) -ℤ s *ℤ pos c in
      let is : pos (b + c) *ℤ far ≡ neg_ℤ (pos (b + c) *ℤ (r +ℤ q)) -ℤ r +ℤ pos c *ℤ t =
      ring 9 (λ b c n e p f x y s.
      (b ⊕ c) ⊗ ((b ⊕ c ⊕ con (pos 1)) ⊗ n ⊕ (b ⊕ con (pos 1)) ⊗ e ⊕ ((b ⊕ c ⊕ con (pos 1)) ⊗ p ⊕ (b ⊕ con (pos 1)) ⊗ f) ⊖ s ⊗ c)
      ≈ neg ((b ⊕ c) ⊗ ((b ⊕ c ⊕ con (pos 1)) ⊗ (neg x ⊖ p ⊕ s) ⊕ (b ⊕ con (pos 1)) ⊗ (neg y ⊖ f ⊖ s) ⊖ (neg x ⊖ p ⊕ s ⊕ (neg y ⊖ f ⊖ s)) ⊕ ((b ⊕ c ⊕ con (pos 1)) ⊗ (x ⊖ n) ⊕ (b ⊕ con (pos 1)) ⊗ (y ⊖ e))))
      ⊖ ((b ⊕ c ⊕ con (pos 1)) ⊗ (neg x ⊖ p ⊕ s) ⊕ (b ⊕ con (pos 1)) ⊗ (neg y ⊖ f ⊖ s) ⊖ (neg x ⊖ p ⊕ s ⊕ (neg y ⊖ f ⊖ s))) ⊕ c ⊗ (y ⊕ f ⊕ s)) refl
      (pos b) (pos c) (pos n) (pos e) (pos p) (pos f) x y s in
      omega (arith, sym (abs-mul (pos (b + c)) far), ap nat_abs is, abs-add (neg_ℤ (pos (b + c) *ℤ (r +ℤ q)) -ℤ r) (pos c *ℤ t), abs-sub (neg_ℤ (pos (b + c) *ℤ (r +ℤ q))) r, abs_neg (pos (b + c) *ℤ (r +ℤ q)), abs-mul (pos (b + c)) (r +ℤ q), mul-le-mul_left (b + c) (abs-add r q), abs-mul (pos c) t, mul-le-mul_left (b + c) h.near, mul-le-mul_left (b + c) k.near)

-- where the smaller delta is 1 the Extra edge lies along an axis
module _ (c n e p f : ℕ) (x y s : ℤ) where
  pub record Axis : Type 0 where
    pub at : x ≡ s -ℤ pos p
    pub far : 2 * nat_abs (y -ℤ pos e -ℤ pos (c + 1) *ℤ (pos (n + p) -ℤ s)) ≤ c + 2

  pub along-axis : 1 ≤ c → Normal (c + 1) 1 (x -ℤ pos n) (y -ℤ pos e) → Extra (c + 1) 1 (neg_ℤ x -ℤ pos p +ℤ s) (neg_ℤ y -ℤ pos f -ℤ s) → Axis
  along-axis some h k =
      let u = neg_ℤ x -ℤ pos p +ℤ s in
      let v = neg_ℤ y -ℤ pos f -ℤ s in
      let thin : pos (c + 1) *ℤ u +ℤ pos 1 *ℤ v -ℤ (u +ℤ v) ≡ pos c *ℤ u = ring 3 (λ c u v. (c ⊕ con (pos 1)) ⊗ u ⊕ con (pos 1) ⊗ v ⊖ (u ⊕ v) ≈ c ⊗ u) refl (pos c) u v in
      let small : 2 * (c * nat_abs u) ≤ c = omega (arith, k.near, ap nat_abs thin, abs-mul (pos c) u) in
      let none : nat_abs u ≡ 0 = ⊎_elim (λ more. absurd (omega (arith, mul-le-mul_left c more))) (λ no. omega arith) (le-or-lt 1 (nat_abs u)) in
      let at : x ≡ s -ℤ pos p = omega (linear, none, abs-parts u, sum (neg_ℤ x -ℤ pos p) s, diff (neg_ℤ x) (pos p), opp x, diff s (pos p)) in
      let is : pos (c + 1) *ℤ (x -ℤ pos n) +ℤ pos 1 *ℤ (y -ℤ pos e) ≡ y -ℤ pos e -ℤ pos (c + 1) *ℤ (pos (n + p) -ℤ s) =
      ring 7 (λ c n e p x y s. since (c ⊕ con (pos 1)) x (s ⊖ p) ((c ⊕ con (pos 1)) ⊗ (x ⊖ n) ⊕ con (pos 1) ⊗ (y ⊖ e) ≈ y ⊖ e ⊖ (c ⊕ con (pos 1)) ⊗ (n ⊕ p ⊖ s))) refl (pos c) (pos n) (pos e) (pos p) x y s at in
      record { at = at; far = omega (arith, h.near, ap nat_abs is) }

-- ---- the one edge ends at the point, t nearer along the major axis and farther along the other; c is the larger delta less the smaller

module _ (b c n e p f : ℕ) (t : ℤ) where
  abbrev way : ℕ
  way = gap_of (c + b) b n e p f

  pub normal-beside : nat_abs t ≤ 1 → Normal (c + b) b (neg_ℤ (pos n -ℤ t) -ℤ pos p) (neg_ℤ (pos e +ℤ t) -ℤ pos f) → 2 * way ≤ c + b + b + 2 * c
  normal-beside one h =
      let q = pos (c + b) *ℤ (neg_ℤ (pos n -ℤ t) -ℤ pos p) +ℤ pos b *ℤ (neg_ℤ (pos e +ℤ t) -ℤ pos f) in
      let is : pos way ≡ t *ℤ pos c -ℤ q = ring 7 (λ b c n e p f t. (c ⊕ b) ⊗ n ⊕ b ⊗ e ⊕ ((c ⊕ b) ⊗ p ⊕ b ⊗ f) ≈ t ⊗ c ⊖ ((c ⊕ b) ⊗ (neg (n ⊖ t) ⊖ p) ⊕ b ⊗ (neg (e ⊕ t) ⊖ f))) refl (pos b) (pos c) (pos n) (pos e) (pos p) (pos f) t in
      omega (arith, h.near, ap nat_abs is, abs-sub (t *ℤ pos c) q, abs-mul t (pos c), mul-le-mul_right c one)

  pub extra-beside : (s : ℤ) → nat_abs (t +ℤ s) ≤ 1 → Extra (c + b) b (neg_ℤ (pos n -ℤ t) -ℤ pos p +ℤ s) (neg_ℤ (pos e +ℤ t) -ℤ pos f -ℤ s) → 2 * way + 2 ≤ c + b + b + 2 * c + 2 * (n + e + (p + f))
  extra-beside s one h =
      let u = neg_ℤ (pos n -ℤ t) -ℤ pos p +ℤ s in
      let v = neg_ℤ (pos e +ℤ t) -ℤ pos f -ℤ s in
      let q = pos (c + b) *ℤ u +ℤ pos b *ℤ v -ℤ (u +ℤ v) in
      let steps = pos (n + e + (p + f)) in
      let is : pos way ≡ (t +ℤ s) *ℤ pos c -ℤ q +ℤ steps =
      ring 8 (λ b c n e p f t s. (c ⊕ b) ⊗ n ⊕ b ⊗ e ⊕ ((c ⊕ b) ⊗ p ⊕ b ⊗ f) ≈ (t ⊕ s) ⊗ c ⊖ ((c ⊕ b) ⊗ (neg (n ⊖ t) ⊖ p ⊕ s) ⊕ b ⊗ (neg (e ⊕ t) ⊖ f ⊖ s) ⊖ (neg (n ⊖ t) ⊖ p ⊕ s ⊕ (neg (e ⊕ t) ⊖ f ⊖ s))) ⊕ (n ⊕ e ⊕ (p ⊕ f))) refl
      (pos b) (pos c) (pos n) (pos e) (pos p) (pos f) t s in
      omega (arith, h.near, ap nat_abs is, abs-add ((t +ℤ s) *ℤ pos c -ℤ q) steps, abs-sub ((t +ℤ s) *ℤ pos c) q, abs-mul (t +ℤ s) (pos c), mul-le-mul_right c one)
