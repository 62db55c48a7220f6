-- At width 2 the left edges of a bend do not cross in the square round its point. Assumes nothing.
use mathlib.Core.Path.{◌≡◌, refl, sym, ap, ◌∙◌}
use mathlib.Core.Logic.{◌≢◌, ◌⊎◌, inl, inr, ⊎_elim}
use mathlib.Core.Bool.{Bool, true, false}
use Prim.Native.Nat.{ℕ, suc, ◌+◌, ◌-◌, ◌*◌, ◌≤◌, ◌<◌}
use native.Mathlib.Nat.{mul-le-mul, mul-le-mul_left, mul-le-mul_right}
use native.Mathlib.Omega.{arith}
use lib.IntN.{ℤ, pos, negsuc, nat_abs, neg_ℤ, ◌+ℤ◌, ◌-ℤ◌, ◌*ℤ◌, +ℤ_idl, +ℤ_idr, *ℤ-zero, *ℤ_comm}
use Rattle.whole.proofs.Bounds.{abs_neg, abs-add, abs-mul}
use Rattle.whole.proofs.Laws.{some-abs}
use Rattle.whole.proofs.Linear.{linear, sum, opp, times, abs-parts, le-or-lt}
use Rattle.whole.proofs.Products.{*ℤ-id, id-*ℤ, *ℤ-null, *ℤ-cancel}
use Rattle.whole.proofs.Ring.{con, neg, ◌⊕◌, ◌⊖◌, ◌⊗◌, ◌≈◌, since, ring}
use Rattle.whole.proofs.Steps.{one-or, square-is}
use Rattle.shapes.specs.declared.Point.{Point}
use Rattle.shapes.specs.declared.Line.{Line}
use Rattle.shapes.specs.declared.Side.TheVariants.{Left}
use Rattle.shapes.specs.declared.Side.{Side}
use Rattle.shapes.specs.Shape.{point_of, line_of, minus, determinant, dot_product, delta}
use Rattle.bresenham.proofs.Laws.{longer, shorter}
use Rattle.parallels.specs.Parallels.{aimed}
use Rattle.intersection_params.specs.declared.Solution.{Solution}
use Rattle.intersection_params.specs.Crossing.{solution_of}
use Rattle.intersection_params.proofs.Laws.{solution-true}
use Rattle.intersection_params.specs.Words.{OnLine, IsDrawn}
use Rattle.skeletons.proofs.Firsts.{Beside, beside_two}
use Rattle.skeletons.proofs.Strokes.{Fits, flip, counts, edge, step, off, Solid, some, less, short, starts-at, ends_at, delta-normal, delta-extra}
use Rattle.skeletons.proofs.Marches.{larger, smaller}
use Rattle.skeletons.proofs.Frames.{major, minor, reduce, across-delta, across-reduce, across-cut, Sizes, sizes, one-step, product, diagonal}
use Rattle.skeletons.proofs.Sights.{opposite-steps}

-- ---- a point that is half of d along both axes

record Halves (d x y : ℤ) : Type 0 where
  x-half : pos 2 *ℤ x ≡ d
  y-half : pos 2 *ℤ y ≡ d

half-sum : (d x y : ℤ) → 2 * nat_abs x ≤ nat_abs d → 2 * nat_abs y ≤ nat_abs d → d ≡ x +ℤ y → Halves d x y
half-sum (pos n) x y p q e = record { x-half = omega (linear, e, sum x y, times 2 x, abs-parts x, abs-parts y); y-half = omega (linear, e, sum x y, times 2 y, abs-parts x, abs-parts y) }
half-sum (negsuc n) x y p q e = record { x-half = omega (linear, e, sum x y, times 2 x, abs-parts x, abs-parts y); y-half = omega (linear, e, sum x y, times 2 y, abs-parts x, abs-parts y) }

-- an edge that is one step out comes to the square only along a diagonal
half_out : (a b : ℕ) (d x y : ℤ) → 1 ≤ a → b ≤ a → d ≢ pos 0 → 2 * nat_abs x ≤ nat_abs d → 2 * nat_abs y ≤ nat_abs d → pos a *ℤ (x -ℤ d) +ℤ pos b *ℤ y ≡ pos 0 → (a ≡ b) × Halves d x y
half_out a b d x y some less moves p q on =
    let way = pos a *ℤ x +ℤ pos b *ℤ y in
    let is : pos a *ℤ d ≡ way = ring 5 (λ a b d x y. since (con (negsuc 0)) (a ⊗ (x ⊖ d) ⊕ b ⊗ y) (con (pos 0)) (a ⊗ d ≈ a ⊗ x ⊕ b ⊗ y)) refl (pos a) (pos b) d x y on in
    let far : a * nat_abs d ≤ a * nat_abs x + b * nat_abs y = omega (arith, ap nat_abs is, abs-mul (pos a) d, abs-add (pos a *ℤ x) (pos b *ℤ y), abs-mul (pos a) x, abs-mul (pos b) y) in
    let equal : a ≡ b = ⊎_elim (λ low. omega arith) (λ high. absurd (omega (arith, far, some-abs d moves, mul-le-mul_left a p, mul-le-mul_left b q, mul-le-mul_right (nat_abs d) high))) (le-or-lt a b) in
    let not-zero : pos a ≢ pos 0 = λ z. omega (arith, ap nat_abs z) in
    (equal, half-sum d x y p q (*ℤ-cancel (pos a) d (x +ℤ y) not-zero (is ∙ ring 5 (λ a b d x y. since y b a (a ⊗ x ⊕ b ⊗ y ≈ a ⊗ (x ⊕ y))) refl (pos a) (pos b) d x y (ap pos (sym equal)))))

-- ---- an Extra edge, seen from its end: it is s nearer along the one axis, and farther along the other

-- half of d, or of its opposite
half-or : (d x : ℤ) → 2 * nat_abs x ≡ nat_abs d → (pos 2 *ℤ x ≡ pos 1 *ℤ d) ⊎ (pos 2 *ℤ x ≡ negsuc 0 *ℤ d)
half-or (pos n) (pos m) e = inl (ap pos (omega (arith, e)))
half-or (negsuc n) (pos m) e = inr (ap pos (omega (arith, e)))
half-or (pos n) (negsuc m) e = let is : 2 * suc m ≡ 1 * n = omega (arith, e) in inr (ap (λ k. neg_ℤ (pos k)) is)
half-or (negsuc n) (negsuc m) e = let is : 2 * suc m ≡ 1 * suc n = omega (arith, e) in inl (ap (λ k. neg_ℤ (pos k)) is)

-- what is left of the edge's equation, without d
scaled : (a b : ℕ) (d x y s u v : ℤ) → d ≢ pos 0 → pos 2 *ℤ x ≡ u *ℤ d → pos 2 *ℤ y ≡ v *ℤ d → pos a *ℤ (x -ℤ d *ℤ (pos 1 -ℤ s)) +ℤ pos b *ℤ (y -ℤ d *ℤ s) ≡ pos 0
    → pos a *ℤ (u -ℤ pos 2 *ℤ (pos 1 -ℤ s)) +ℤ pos b *ℤ (v -ℤ pos 2 *ℤ s) ≡ pos 0
scaled a b d x y s u v moves p q on =
    *ℤ-null d (pos a *ℤ (u -ℤ pos 2 *ℤ (pos 1 -ℤ s)) +ℤ pos b *ℤ (v -ℤ pos 2 *ℤ s)) moves
    (ring 8 (λ a b d x y s u v. since (neg a) (con (pos 2) ⊗ x) (u ⊗ d) (since (neg b) (con (pos 2) ⊗ y) (v ⊗ d) (since (con (pos 2)) (a ⊗ (x ⊖ d ⊗ (con (pos 1) ⊖ s)) ⊕ b ⊗ (y ⊖ d ⊗ s)) (con (pos 0)) (d ⊗ (a ⊗ (u ⊖ con (pos 2) ⊗ (con (pos 1) ⊖ s)) ⊕ b ⊗ (v ⊖ con (pos 2) ⊗ s)) ≈ con (pos 0))))) refl (pos a) (pos b) d x y s u v p q on)

-- a multiple less another
level : (m n : ℕ) → pos m +ℤ neg_ℤ (pos n) ≡ pos 0 → m ≡ n
level m n e = omega (linear, e, sum (pos m) (neg_ℤ (pos n)), opp (pos n))

level-back : (m n : ℕ) → neg_ℤ (pos m) +ℤ pos n ≡ pos 0 → m ≡ n
level-back m n e = omega (linear, e, sum (neg_ℤ (pos m)) (pos n), opp (pos m))

both-down : (m n : ℕ) → neg_ℤ (pos m) +ℤ neg_ℤ (pos n) ≡ pos 0 → m + n ≡ 0
both-down m n e = omega (linear, e, sum (neg_ℤ (pos m)) (neg_ℤ (pos n)), opp (pos m), opp (pos n))

module _ (a b : ℕ) (some : 1 ≤ a) (less : b ≤ a) (steep : a < 2 * b + 1) where
  -- the signs that are left
  signs : (s u v : ℤ) → (s ≡ pos 1) ⊎ (s ≡ negsuc 0) → (u ≡ pos 1) ⊎ (u ≡ negsuc 0) → (v ≡ pos 1) ⊎ (v ≡ negsuc 0) → pos a *ℤ (u -ℤ pos 2 *ℤ (pos 1 -ℤ s)) +ℤ pos b *ℤ (v -ℤ pos 2 *ℤ s) ≡ pos 0 → (a ≡ b) × ((u ≡ pos 1) × (v ≡ pos 1))
  signs s u v (inl i) (inl j) (inl k) e = (omega (arith, level (a * 1) (b * 1) (rw (i, j, k) at e)), (j, k))
  signs s u v (inl i) (inl j) (inr k) e = absurd (omega (arith, level (a * 1) (b * 3) (rw (i, j, k) at e)))
  signs s u v (inl i) (inr j) (inl k) e = absurd (omega (arith, both-down (a * 1) (b * 1) (rw (i, j, k) at e)))
  signs s u v (inl i) (inr j) (inr k) e = absurd (omega (arith, both-down (a * 1) (b * 3) (rw (i, j, k) at e)))
  signs s u v (inr i) (inl j) (inl k) e = (omega (arith, level-back (a * 3) (b * 3) (rw (i, j, k) at e)), (j, k))
  signs s u v (inr i) (inl j) (inr k) e = absurd (omega (arith, level-back (a * 3) (b * 1) (rw (i, j, k) at e)))
  signs s u v (inr i) (inr j) (inl k) e = absurd (omega (arith, level-back (a * 5) (b * 3) (rw (i, j, k) at e)))
  signs s u v (inr i) (inr j) (inr k) e = absurd (omega (arith, level-back (a * 5) (b * 1) (rw (i, j, k) at e)))

  half-cut : (d x y s : ℤ) → d ≢ pos 0 → nat_abs s ≡ 1 → 2 * nat_abs x ≡ nat_abs d → 2 * nat_abs y ≡ nat_abs d → pos a *ℤ (x -ℤ d *ℤ (pos 1 -ℤ s)) +ℤ pos b *ℤ (y -ℤ d *ℤ s) ≡ pos 0 → (a ≡ b) × Halves d x y
  half-cut d x y s moves one p q on = by (half-or d x p) (half-or d y q)
    where
      known : (u v : ℤ) → (u ≡ pos 1) ⊎ (u ≡ negsuc 0) → (v ≡ pos 1) ⊎ (v ≡ negsuc 0) → pos 2 *ℤ x ≡ u *ℤ d → pos 2 *ℤ y ≡ v *ℤ d → (a ≡ b) × Halves d x y
      known u v i j ex ey =
          let k = signs s u v (one-or s one) i j (scaled a b d x y s u v moves ex ey on) in
          (k.0, record { x-half = ex ∙ ap (λ w. w *ℤ d) k.1.0 ∙ id-*ℤ d; y-half = ey ∙ ap (λ w. w *ℤ d) k.1.1 ∙ id-*ℤ d })

      by : (pos 2 *ℤ x ≡ pos 1 *ℤ d) ⊎ (pos 2 *ℤ x ≡ negsuc 0 *ℤ d) → (pos 2 *ℤ y ≡ pos 1 *ℤ d) ⊎ (pos 2 *ℤ y ≡ negsuc 0 *ℤ d) → (a ≡ b) × Halves d x y
      by (inl i) (inl j) = known (pos 1) (pos 1) (inl refl) (inl refl) i j
      by (inl i) (inr j) = known (pos 1) (negsuc 0) (inl refl) (inr refl) i j
      by (inr i) (inl j) = known (negsuc 0) (pos 1) (inr refl) (inl refl) i j
      by (inr i) (inr j) = known (negsuc 0) (negsuc 0) (inr refl) (inr refl) i j

-- ---- a crossing at t / n, seen from q

module _ (t : Solution) (q : Point) where
  abbrev n : ℤ
  n = t.determinant

  -- the way to it from a point, n times as long
  abbrev pub from : Point → Point
  from p = point_of (t.x -ℤ n *ℤ p.x) (t.y -ℤ n *ℤ p.y)

  from-point : (c p : Point) → dot_product c (from p) ≡ dot_product c (from q) -ℤ n *ℤ dot_product c (minus p q)
  unfolding dot_product minus
  from-point c p =
      ring 9 (λ n x y u v p r a b. u ⊗ (x ⊖ n ⊗ p) ⊕ v ⊗ (y ⊖ n ⊗ r) ≈ (u ⊗ (x ⊖ n ⊗ a) ⊕ v ⊗ (y ⊖ n ⊗ b)) ⊖ n ⊗ (u ⊗ (p ⊖ a) ⊕ v ⊗ (r ⊖ b))) refl n t.x t.y c.x c.y p.x p.y q.x q.y

  from_either : (l : Line) → determinant (delta l) (from l.end) ≡ determinant (delta l) (from l.start)
  unfolding determinant delta minus
  from_either l =
      ring 7 (λ n x y a b p r. (p ⊖ a) ⊗ (y ⊖ n ⊗ r) ⊖ (r ⊖ b) ⊗ (x ⊖ n ⊗ p) ≈ (p ⊖ a) ⊗ (y ⊖ n ⊗ b) ⊖ (r ⊖ b) ⊗ (x ⊖ n ⊗ a)) refl n t.x t.y l.start.x l.start.y l.end.x l.end.y

-- it lies on a line of a delta, or of one that is shorter
on-normal : (d v : Point) → determinant d v ≡ pos 0 → pos (longer d) *ℤ dot_product (major d) v +ℤ pos (shorter d) *ℤ dot_product (minor d) v ≡ pos 0
on-normal d v e = ring 1 (λ x. since (con (negsuc 0)) (neg x) (con (pos 0)) (x ≈ con (pos 0))) refl (pos (longer d) *ℤ dot_product (major d) v +ℤ pos (shorter d) *ℤ dot_product (minor d) v) (sym (across-delta d v) ∙ e)

on-extra : (d v : Point) (a b : ℕ) → longer d ≡ a + 1 → shorter d ≡ b + 1 → determinant (minus d (reduce d)) v ≡ pos 0 → pos a *ℤ dot_product (major d) v +ℤ pos b *ℤ dot_product (minor d) v ≡ pos 0
on-extra d v a b larger-is smaller-is e =
    let x = dot_product (major d) v in
    let y = dot_product (minor d) v in
    let is = sym (across-cut d v) ∙ e in
    let far : neg_ℤ (pos (longer d) *ℤ x +ℤ pos (shorter d) *ℤ y) -ℤ neg_ℤ (x +ℤ y) ≡ pos 0 = rw (across-delta d v, across-reduce d (omega (arith, smaller-is)) v) at is in
    let parts : neg_ℤ (pos (a + 1) *ℤ x +ℤ pos (b + 1) *ℤ y) -ℤ neg_ℤ (x +ℤ y) ≡ pos 0 = rw (larger-is, smaller-is) at far in
    ring 4 (λ a b x y. since (con (negsuc 0)) (neg ((a ⊕ con (pos 1)) ⊗ x ⊕ (b ⊕ con (pos 1)) ⊗ y) ⊖ neg (x ⊕ y)) (con (pos 0)) (a ⊗ x ⊕ b ⊗ y ≈ con (pos 0))) refl (pos a) (pos b) x y parts

one_fewer : (z : ℤ) (n : ℕ) (s : ℤ) → z ≡ pos n *ℤ s → z -ℤ s ≡ (pos n -ℤ pos 1) *ℤ s
one_fewer z n s e = ring 3 (λ z n s. since (con (pos 1)) z (n ⊗ s) (z ⊖ s ≈ (n ⊖ con (pos 1)) ⊗ s)) refl z (pos n) s e

-- ---- the left edge of a leg

module _ {l : Line} (fits : Fits l 2) where
  pub two-beside : Beside (larger l) (smaller l) (counts l 2)
  two-beside = beside_two (some fits) (less l) (flip l 2)

module _ {l : Line} (fits : Fits l 2) (t : Solution) (moves : t.determinant ≢ pos 0) (solid : Solid l 2 Left) where
  abbrev d : Point
  d = aimed l

  abbrev E : Line
  E = edge l 2 Left

  -- how far the crossing is along the axes
  abbrev along : Point → ℤ
  along q = dot_product (major d) (from t q q)

  abbrev beyond : Point → ℤ
  beyond q = dot_product (minor d) (from t q q)

  -- by an equation for a Normal edge, or for an Extra one
  module _ (q p : Point) (x y : ℤ) (on : determinant (delta E) (from t q p) ≡ pos 0) (x-is : dot_product (major d) (minus p q) ≡ x) (y-is : dot_product (minor d) (minus p q) ≡ y) where
    x-way : dot_product (major d) (from t q p) ≡ along q -ℤ t.determinant *ℤ x
    x-way = from-point t q (major d) p ∙ ap (λ k. along q -ℤ t.determinant *ℤ k) x-is

    y-way : dot_product (minor d) (from t q p) ≡ beyond q -ℤ t.determinant *ℤ y
    y-way = from-point t q (minor d) p ∙ ap (λ k. beyond q -ℤ t.determinant *ℤ k) y-is

    by-normal : (counts l 2).left.extra ≡ false → pos (longer d) *ℤ (along q -ℤ t.determinant *ℤ x) +ℤ pos (shorter d) *ℤ (beyond q -ℤ t.determinant *ℤ y) ≡ pos 0
    by-normal e = rw (x-way, y-way) at (on-normal d (from t q p) (rw (delta-normal fits Left e ∙ solid.aim) at on))

    by-extra : (a b : ℕ) → longer d ≡ a + 1 → shorter d ≡ b + 1 → (counts l 2).left.extra ≡ true → pos a *ℤ (along q -ℤ t.determinant *ℤ x) +ℤ pos b *ℤ (beyond q -ℤ t.determinant *ℤ y) ≡ pos 0
    by-extra a b larger-is smaller-is e = rw (x-way, y-way) at (on-extra d (from t q p) a b larger-is smaller-is (rw (delta-extra fits Left e ∙ ap (λ k. minus k (reduce d)) solid.aim) at on))

  -- the deltas of an Extra edge are one shorter, and it still has a length
  record Cut : Type 0 where
    a' : ℕ
    b' : ℕ
    larger-is : longer d ≡ a' + 1
    smaller-is : shorter d ≡ b' + 1
    some' : 1 ≤ a'
    less' : b' ≤ a'
    steep' : a' < 2 * b' + 1

  cut : (counts l 2).left.extra ≡ true → Cut
  cut e =
      let one = short fits (omega arith) Left e in
      let long = solid.long e in
      let order = less l in
      let steep = (two-beside fits).steep e in
      record { a' = longer d - 1; b' = shorter d - 1; larger-is = omega arith; smaller-is = omega arith; some' = omega arith; less' = omega arith; steep' = omega arith }

  equal-cut : (c : Cut) → c.a' ≡ c.b' → longer d ≡ shorter d
  equal-cut c e = c.larger-is ∙ ap (λ k. k + 1) e ∙ sym c.smaller-is

  -- it comes to the square round the leg's start only along a diagonal
  start-half : OnLine E t → 2 * nat_abs (along l.start) ≤ nat_abs t.determinant → 2 * nat_abs (beyond l.start) ≤ nat_abs t.determinant → (longer d ≡ shorter d) × Halves t.determinant (along l.start) (beyond l.start)
  start-half on p r = by (counts l 2).left.extra refl
    where
      x-is : dot_product (major d) (minus E.start l.start) ≡ pos 1
      x-is = (starts-at fits Left).major-at ∙ ap pos (two-beside fits).one

      y-is : dot_product (minor d) (minus E.start l.start) ≡ pos 0
      y-is = (starts-at fits Left).minor-at ∙ ap pos (two-beside fits).none

      by : (u : Bool) → (counts l 2).left.extra ≡ u → (longer d ≡ shorter d) × Halves t.determinant (along l.start) (beyond l.start)
      by false e = half_out (longer d) (shorter d) t.determinant (along l.start) (beyond l.start) (some fits) (less l) moves p r (simp (*ℤ-id, *ℤ-zero, +ℤ_idr) at (by-normal l.start E.start (pos 1) (pos 0) on x-is y-is e))
      by true e =
          let c = cut e in
          let h = half_out c.a' c.b' t.determinant (along l.start) (beyond l.start) c.some' c.less' moves p r (simp (*ℤ-id, *ℤ-zero, +ℤ_idr) at (by-extra l.start E.start (pos 1) (pos 0) on x-is y-is c.a' c.b' c.larger-is c.smaller-is e)) in
          (equal-cut c h.0, h.1)

  -- and round its end too, where the crossing is half out along both axes
  end-half : OnLine E t → 2 * nat_abs (along l.end) ≡ nat_abs t.determinant → 2 * nat_abs (beyond l.end) ≡ nat_abs t.determinant → (longer d ≡ shorter d) × Halves t.determinant (along l.end) (beyond l.end)
  end-half on p r = by (counts l 2).left.extra refl
    where
      s : ℤ
      s = step l Left

      on-end : determinant (delta E) (from t l.end E.end) ≡ pos 0
      on-end = from_either t l.end E ∙ on

      x-is : dot_product (major d) (minus E.end l.end) ≡ pos 1 -ℤ off (counts l 2).left.extra s
      x-is = (ends_at fits (omega arith) Left).major-at ∙ ap (λ k. pos k -ℤ off (counts l 2).left.extra s) (two-beside fits).one

      y-is : dot_product (minor d) (minus E.end l.end) ≡ pos 0 +ℤ off (counts l 2).left.extra s
      y-is = (ends_at fits (omega arith) Left).minor-at ∙ ap (λ k. pos k +ℤ off (counts l 2).left.extra s) (two-beside fits).none

      by : (u : Bool) → (counts l 2).left.extra ≡ u → (longer d ≡ shorter d) × Halves t.determinant (along l.end) (beyond l.end)
      by false e =
          let eq = by-normal l.end E.end (pos 1) (pos 0) on-end (x-is ∙ ap (λ u. pos 1 -ℤ off u s) e) (y-is ∙ ap (λ u. pos 0 +ℤ off u s) e) e in
          half_out (longer d) (shorter d) t.determinant (along l.end) (beyond l.end) (some fits) (less l) moves (omega (arith, p)) (omega (arith, r)) (simp (*ℤ-id, *ℤ-zero, +ℤ_idr) at eq)
      by true e =
          let c = cut e in
          let eq = by-extra l.end E.end (pos 1 -ℤ s) s on-end (x-is ∙ ap (λ u. pos 1 -ℤ off u s) e) (y-is ∙ ap (λ u. pos 0 +ℤ off u s) e ∙ +ℤ_idl s) c.a' c.b' c.larger-is c.smaller-is e in
          let h = half-cut c.a' c.b' c.some' c.less' c.steep' t.determinant (along l.end) (beyond l.end) s moves (one-step d) p r eq in
          (equal-cut c h.0, h.1)

  -- then the step that an Extra edge is shorter is square to the way from there, and the edge is so many of them
  record Diagonal (v : Point) : Type 0 where
    square : dot_product (reduce d) v ≡ pos 0
    times-of : ℤ
    x-of : (delta E).x ≡ times-of *ℤ (reduce d).x
    y_of : (delta E).y ≡ times-of *ℤ (reduce d).y

  diagonal-by : (v : Point) → longer d ≡ shorter d → Halves t.determinant (dot_product (major d) v) (dot_product (minor d) v) → Diagonal v
  unfolding minus
  diagonal-by v equal h = by (counts l 2).left.extra refl
    where
      one : 1 ≤ shorter d
      one = omega (arith, equal, some fits)

      same : dot_product (major d) v ≡ dot_product (minor d) v
      same = *ℤ-cancel (pos 2) (dot_product (major d) v) (dot_product (minor d) v) (λ z. omega (arith, ap nat_abs z)) (h.x-half ∙ sym h.y-half)

      flat : dot_product (reduce d) v ≡ pos 0
      flat =
          product d (reduce d) v ∙ ap (λ k. dot_product (major d) (reduce d) *ℤ dot_product (major d) v +ℤ k *ℤ dot_product (minor d) v) (opposite-steps d one)
          ∙ ring 3 (λ s x y. since s x y (s ⊗ x ⊕ neg s ⊗ y ≈ con (pos 0))) refl (dot_product (major d) (reduce d)) (dot_product (major d) v) (dot_product (minor d) v) same

      by : (u : Bool) → (counts l 2).left.extra ≡ u → Diagonal v
      by false e =
          let is = delta-normal fits Left e ∙ solid.aim in
          let along-it = diagonal d equal in
          record { square = flat; times-of = pos (longer d); x-of = ap (λ p. p.x) is ∙ along-it.0; y_of = ap (λ p. p.y) is ∙ along-it.1 }
      by true e =
          let is = delta-extra fits Left e ∙ ap (λ k. minus k (reduce d)) solid.aim in
          let along-it = diagonal d equal in
          record { square = flat; times-of = pos (longer d) -ℤ pos 1; x-of = ap (λ p. p.x) is ∙ one_fewer d.x (longer d) (reduce d).x along-it.0; y_of = ap (λ p. p.y) is ∙ one_fewer d.y (longer d) (reduce d).y along-it.1 }

-- ---- two directions that are square to one way are one

square-both : (s u v : Point) → dot_product s v ≡ pos 0 → dot_product u v ≡ pos 0 → determinant s u *ℤ dot_product v v ≡ pos 0
unfolding determinant dot_product
square-both s u v p q =
    ring 6 (λ a b c d x y. since (d ⊗ x ⊖ c ⊗ y) (a ⊗ x ⊕ b ⊗ y) (con (pos 0)) (since (a ⊗ y ⊖ b ⊗ x) (c ⊗ x ⊕ d ⊗ y) (con (pos 0)) ((a ⊗ d ⊖ b ⊗ c) ⊗ (x ⊗ x ⊕ y ⊗ y) ≈ con (pos 0)))) refl s.x s.y u.x u.y v.x v.y p q

-- multiples of two directions that are one do not cross
multiples : (g h s u : Point) (m n : ℤ) → g.x ≡ m *ℤ s.x → g.y ≡ m *ℤ s.y → h.x ≡ n *ℤ u.x → h.y ≡ n *ℤ u.y → determinant s u ≡ pos 0 → determinant g h ≡ pos 0
unfolding determinant
multiples g h s u m n gx gy hx hy e =
    ring 10 (λ a b c d s t u v m n. since d a (m ⊗ s) (since (neg c) b (m ⊗ t) (since (neg (m ⊗ t)) c (n ⊗ u) (since (m ⊗ s) d (n ⊗ v) (since (m ⊗ n) (s ⊗ v ⊖ t ⊗ u) (con (pos 0)) (a ⊗ d ⊖ b ⊗ c ≈ con (pos 0))))))) refl
    g.x g.y h.x h.y s.x s.y u.x u.y m n gx gy hx hy e

-- half of a number that is not 0 is not 0
some-half : (d x : ℤ) → d ≢ pos 0 → pos 2 *ℤ x ≡ d → 1 ≤ nat_abs x
some-half d x moves e = ⊎_elim (λ more. more) (λ none. absurd (omega (arith, some-abs d moves, ap nat_abs e, abs-mul (pos 2) x))) (le-or-lt 1 (nat_abs x))

-- a way that is not still has a square
some-square : (v : Point) → 1 ≤ nat_abs v.x → dot_product v v ≢ pos 0
unfolding dot_product
some-square v one e = let square = rw (square-is v.x, square-is v.y) at e in omega (linear, square, mul-le-mul {n₁ = 1} {m₁ = 1} one one)

gap-turned : (x d a : ℤ) → nat_abs (x -ℤ d *ℤ a) ≡ nat_abs (a *ℤ d -ℤ x)
gap-turned x d a = ap nat_abs (ring 3 (λ x d a. x ⊖ d ⊗ a ≈ neg (a ⊗ d ⊖ x)) refl x d a) ∙ abs_neg (a *ℤ d -ℤ x)

-- numbers of which twice is at most k, or k itself
small_by : (m n k : ℕ) (v : Point) → Sizes m n v → 2 * nat_abs v.x ≤ k → 2 * nat_abs v.y ≤ k → (2 * m ≤ k) × (2 * n ≤ k)
small_by m n k v is p q = ⊎_elim (λ e. rw (e.0, e.1) (p, q)) (λ e. rw (e.0, e.1) (q, p)) is

half-by : (m n i j k : ℕ) (v : Point) → Sizes m n v → Sizes i j v → 2 * m ≡ k → 2 * n ≡ k → (2 * i ≡ k) × (2 * j ≡ k)
half-by m n i j k v (inl e) (inl f) p q = (omega (arith, e, f, p), omega (arith, e, f, q))
half-by m n i j k v (inl e) (inr f) p q = (omega (arith, e, f, q), omega (arith, e, f, p))
half-by m n i j k v (inr e) (inl f) p q = (omega (arith, e, f, q), omega (arith, e, f, p))
half-by m n i j k v (inr e) (inr f) p q = (omega (arith, e, f, p), omega (arith, e, f, q))

some-either : (m n : ℕ) (v : Point) → Sizes m n v → 1 ≤ m → 1 ≤ n → 1 ≤ nat_abs v.x
some-either m n v (inl e) p q = omega (arith, e)
some-either m n v (inr e) p q = omega (arith, e)

half-size : (d x : ℤ) → pos 2 *ℤ x ≡ d → 2 * nat_abs x ≡ nat_abs d
half-size d x e = sym (abs-mul (pos 2) x) ∙ ap nat_abs e

-- ---- the crossing of the two left edges of a bend, drawn at its point

module _ {p q r : Point} (first_fits : Fits (line_of p q) 2) (second_fits : Fits (line_of q r) 2) where
  abbrev first : Line
  first = edge (line_of p q) 2 Left

  abbrev second : Line
  second = edge (line_of q r) 2 Left

  pub two-never : {s : Side} → IsDrawn second first q s → Solid (line_of p q) 2 Left → Solid (line_of q r) 2 Left → ⊥
  two-never drawn before after =
      let t = solution_of second first in
      let real = solution-true second first drawn.crosses in
      let n = t.determinant in
      let v = from t q q in
      let c = aimed (line_of p q) in
      let d = aimed (line_of q r) in
      let x-small : 2 * nat_abs v.x ≤ nat_abs n = rw (gap-turned t.x n q.x) (drawn.nearest_x t real).near in
      let y-small : 2 * nat_abs v.y ≤ nat_abs n = rw (gap-turned t.y n q.y) (drawn.nearest_y t real).near in
      let both = small_by (nat_abs (dot_product (major d) v)) (nat_abs (dot_product (minor d) v)) (nat_abs n) v (sizes d v) x-small y-small in
      let h = start-half second_fits t real.some after real.on_first both.0 both.1 in
      let halves = half-by (nat_abs (dot_product (major d) v)) (nat_abs (dot_product (minor d) v)) (nat_abs (dot_product (major c) v)) (nat_abs (dot_product (minor c) v)) (nat_abs n) v (sizes d v) (sizes c v) (half-size n (dot_product (major d) v) h.1.x-half) (half-size n (dot_product (minor d) v) h.1.y-half) in
      let k = end-half first_fits t real.some before real.on_second halves.0 halves.1 in
      let e = diagonal-by second_fits t real.some after v h.0 h.1 in
      let f = diagonal-by first_fits t real.some before v k.0 k.1 in
      let moved = some-either (nat_abs (dot_product (major d) v)) (nat_abs (dot_product (minor d) v)) v (sizes d v) (some-half n (dot_product (major d) v) real.some h.1.x-half) (some-half n (dot_product (minor d) v) real.some h.1.y-half) in
      let flat = *ℤ-null (dot_product v v) (determinant (reduce d) (reduce c)) (some-square v moved) (*ℤ_comm (dot_product v v) (determinant (reduce d) (reduce c)) ∙ square-both (reduce d) (reduce c) v e.square f.square) in
      drawn.crosses (multiples (delta second) (delta first) (reduce d) (reduce c) e.times-of f.times-of e.x-of e.y_of f.x-of f.y_of flat)
