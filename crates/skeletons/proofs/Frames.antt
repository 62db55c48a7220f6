-- A delta by the steps across it: determinants with it, and with the delta of an Extra edge, are sums of steps along the two axes. Assumes nothing.
use mathlib.Core.Path.{◌≡◌, refl, ap, ◌∙◌}
use mathlib.Core.Logic.{◌⊎◌, inl, inr, ⊎_elim}
use mathlib.Core.Bool.{Bool, true, false, cond}
use Prim.Native.Nat.{ℕ, zero, suc, ◌+◌, ◌≤◌}
use native.Mathlib.Omega.{arith}
use borrow.Author.Tests.{le-ltb}
use lib.IntN.{ℤ, pos, negsuc, nat_abs, neg_ℤ, ◌+ℤ◌, ◌-ℤ◌, ◌*ℤ◌, +ℤ_idl, +ℤ_idr}
use lib.Signed.{lt_z}
use Rattle.whole.proofs.Bounds.{abs-mul}
use Rattle.whole.proofs.Linear.{linear, diff, abs-parts, none_below, below_parts}
use Rattle.whole.proofs.Products.{*ℤ-id}
use Rattle.whole.proofs.Tests.{either}
use Rattle.whole.proofs.Ring.{con, neg, ◌⊕◌, ◌⊖◌, ◌⊗◌, ◌≈◌, since, ring}
use Rattle.shapes.specs.declared.Point.{Point}
use Rattle.shapes.specs.Shape.{point_of, plus, minus, determinant, dot_product}
use Rattle.bresenham.specs.declared.Parameters.{Parameters}
use Rattle.bresenham.specs.Walk.{direction_of, parameters_along}
use Rattle.bresenham.specs.Walk as Walk
use Rattle.bresenham.proofs.Laws.{across, down, is_steep, longer, shorter, parameters-are, sides}
use Rattle.parallels.specs.Parallels.{turned_back}
use Rattle.skeletons.proofs.Legs.{direction-square, back}

-- ---- a number by its direction

forward : (n : ℕ) → direction_of (pos n) ≡ pos 1
unfolding direction_of
forward n = rw (le-ltb n 0 (omega arith))

directed : (z : ℤ) → pos (nat_abs z) *ℤ direction_of z ≡ z
unfolding direction_of
directed (pos n) = rw (forward n) (*ℤ-id (pos n))
directed (negsuc n) = ap neg_ℤ (*ℤ-id (pos (suc n)))

turned-direction : (z : ℤ) → 1 ≤ nat_abs z → direction_of (neg_ℤ z) ≡ neg_ℤ (direction_of z)
unfolding direction_of
turned-direction (pos zero) h = absurd (omega arith)
turned-direction (pos (suc n)) h = rw (forward (suc n))
turned-direction (negsuc n) h = forward (suc n)

-- one step nearer to 0
shortened : (z : ℤ) → 1 ≤ nat_abs z → nat_abs (z -ℤ direction_of z) + 1 ≡ nat_abs z
unfolding direction_of
shortened (pos zero) h = absurd (omega arith)
shortened (pos (suc n)) h = rw (forward (suc n)) (let d = diff (pos (suc n)) (pos 1) in let p = none_below {z = pos (suc n) -ℤ pos 1} (omega linear) in omega (arith, abs-parts (pos (suc n) -ℤ pos 1)))
shortened (negsuc n) h = let d = diff (negsuc n) (negsuc 0) in let p = below_parts (negsuc n -ℤ negsuc 0) (omega linear) in omega arith

-- ---- a delta and its steps: a along the major axis and b along the minor one

none-and : (m : ℕ) (z : ℤ) → pos m *ℤ pos 0 +ℤ pos (nat_abs z) *ℤ direction_of z ≡ z
none-and m z = ring 2 (λ m k. m ⊗ con (pos 0) ⊕ k ≈ k) refl (pos m) (pos (nat_abs z) *ℤ direction_of z) ∙ directed z

and_none : (m : ℕ) (z : ℤ) → pos (nat_abs z) *ℤ direction_of z +ℤ pos m *ℤ pos 0 ≡ z
and_none m z = ring 2 (λ m k. k ⊕ m ⊗ con (pos 0) ≈ k) refl (pos m) (pos (nat_abs z) *ℤ direction_of z) ∙ directed z

record Spanned (c : Point) (p : Parameters) (a b : ℕ) : Type 0 where
  x-is : pos a *ℤ p.major.x +ℤ pos b *ℤ p.minor.x ≡ c.x
  y-is : pos a *ℤ p.major.y +ℤ pos b *ℤ p.minor.y ≡ c.y
  both : plus p.major p.minor ≡ point_of (direction_of c.x) (direction_of c.y)

spanned-by : (c : Point) (t : Bool) → let m = nat_abs c.x in let n = nat_abs c.y in
    Spanned c (Walk.along (cond t (down c) (across c)) (cond t (across c) (down c)) (pos (cond t n m)) (pos (cond t m n))) (cond t n m) (cond t m n)
unfolding Walk.along plus
spanned-by c true = record { x-is = none-and (nat_abs c.y) c.x; y-is = and_none (nat_abs c.x) c.y; both = simp (+ℤ_idl, +ℤ_idr) }
spanned-by c false = record { x-is = and_none (nat_abs c.y) c.x; y-is = none-and (nat_abs c.x) c.y; both = simp (+ℤ_idl, +ℤ_idr) }

spanned : (c : Point) → Spanned c (parameters_along c) (longer c) (shorter c)
spanned c = rw (parameters-are c) (spanned-by c (is_steep c))

-- ---- determinants with a delta, and with one that is a step shorter along both axes

module _ (d : Point) where
  abbrev pub major : Point
  major = (parameters_along (turned_back d)).major

  abbrev pub minor : Point
  minor = (parameters_along (turned_back d)).minor

  -- what an Extra edge is shorter
  abbrev pub reduce : Point
  reduce = plus (parameters_along d).major (parameters_along d).minor

  crossed : Spanned (turned_back d) (parameters_along (turned_back d)) (longer d) (shorter d)
  crossed = rw ((back d).0, (back d).1) at (spanned (turned_back d))

  pub across-delta : (v : Point) → determinant d v ≡ neg_ℤ (pos (longer d) *ℤ dot_product major v +ℤ pos (shorter d) *ℤ dot_product minor v)
  unfolding determinant dot_product
  across-delta v =
      ring 10 (λ x y v w a b m n k l. since v (a ⊗ m ⊕ b ⊗ k) y (since w (a ⊗ n ⊕ b ⊗ l) (neg x) (x ⊗ w ⊖ y ⊗ v ≈ neg (a ⊗ (m ⊗ v ⊕ n ⊗ w) ⊕ b ⊗ (k ⊗ v ⊕ l ⊗ w))))) refl
      d.x d.y v.x v.y (pos (longer d)) (pos (shorter d)) major.x major.y minor.x minor.y crossed.x-is crossed.y-is

  reduce-x : reduce.x ≡ direction_of d.x
  reduce-x = ap (λ p. p.x) (spanned d).both

  reduce-y : reduce.y ≡ direction_of d.y
  reduce-y = ap (λ p. p.y) (spanned d).both

  pub size_is : nat_abs d.x + nat_abs d.y ≡ longer d + shorter d
  size_is = by (is_steep d)
    where
      by : (t : Bool) → nat_abs d.x + nat_abs d.y ≡ cond t (nat_abs d.y) (nat_abs d.x) + cond t (nat_abs d.x) (nat_abs d.y)
      by true = omega arith
      by false = refl

  module _ (some : 1 ≤ shorter d) where
    some-both : (1 ≤ nat_abs d.x) × (1 ≤ nat_abs d.y)
    some-both = let s = sides d in (omega (arith, size_is, s.n-less), omega (arith, size_is, s.m-less))

    pub across-reduce : (v : Point) → determinant reduce v ≡ neg_ℤ (dot_product major v +ℤ dot_product minor v)
    unfolding determinant dot_product plus
    across-reduce v =
        ring 10 (λ r s v w m n k l p q. since w r p (since (neg v) s q (since v (m ⊕ k) q (since w (n ⊕ l) (neg p) (r ⊗ w ⊖ s ⊗ v ≈ neg ((m ⊗ v ⊕ n ⊗ w) ⊕ (k ⊗ v ⊕ l ⊗ w))))))) refl
        reduce.x reduce.y v.x v.y major.x major.y minor.x minor.y (direction_of d.x) (direction_of d.y) reduce-x reduce-y (ap (λ p. p.x) crossed.both) (ap (λ p. p.y) crossed.both ∙ turned-direction d.x some-both.0)

    -- a delta that is one step shorter along both axes
    pub cut-size : nat_abs (minus d reduce).x + nat_abs (minus d reduce).y + 2 ≡ longer d + shorter d
    unfolding minus
    cut-size = rw (reduce-x, reduce-y) (omega (arith, shortened d.x some-both.0, shortened d.y some-both.1, size_is))

  pub across-cut : (v : Point) → determinant (minus d reduce) v ≡ determinant d v -ℤ determinant reduce v
  unfolding determinant minus
  across-cut v = ring 6 (λ x y r s v w. (x ⊖ r) ⊗ w ⊖ (y ⊖ s) ⊗ v ≈ (x ⊗ w ⊖ y ⊗ v) ⊖ (r ⊗ w ⊖ s ⊗ v)) refl d.x d.y reduce.x reduce.y v.x v.y

-- ---- along the axes a point is as far as its coordinates are

one-along-x : (u : ℤ) (v : Point) → nat_abs u ≡ 1 → nat_abs (dot_product (point_of u (pos 0)) v) ≡ nat_abs v.x
unfolding dot_product
one-along-x u v one =
    let is = ring 3 (λ u x y. u ⊗ x ⊕ con (pos 0) ⊗ y ≈ u ⊗ x) refl u v.x v.y in
    ap nat_abs is ∙ abs-mul u v.x ∙ rw one (omega arith)

one-along-y : (u : ℤ) (v : Point) → nat_abs u ≡ 1 → nat_abs (dot_product (point_of (pos 0) u) v) ≡ nat_abs v.y
unfolding dot_product
one-along-y u v one =
    let is = ring 3 (λ u x y. con (pos 0) ⊗ x ⊕ u ⊗ y ≈ u ⊗ y) refl u v.x v.y in
    ap nat_abs is ∙ abs-mul u v.y ∙ rw one (omega arith)

one-direction : (z : ℤ) → nat_abs (direction_of z) ≡ 1
unfolding direction_of
one-direction z = either (λ u. nat_abs u ≡ 1) (lt_z z (pos 0)) (λ _. refl) (λ _. refl)

-- the two numbers, in the one order or the other
abbrev pub Sizes : ℕ → ℕ → Point → Type 0
Sizes m n v = ((m ≡ nat_abs v.x) × (n ≡ nat_abs v.y)) ⊎ ((m ≡ nat_abs v.y) × (n ≡ nat_abs v.x))

sizes-by : (c v : Point) (t : Bool) → Sizes (nat_abs (dot_product (cond t (down c) (across c)) v)) (nat_abs (dot_product (cond t (across c) (down c)) v)) v
sizes-by c v true = inr (one-along-y (direction_of c.y) v (one-direction c.y), one-along-x (direction_of c.x) v (one-direction c.x))
sizes-by c v false = inl (one-along-x (direction_of c.x) v (one-direction c.x), one-along-y (direction_of c.y) v (one-direction c.y))

sizes-along : (c v : Point) → Sizes (nat_abs (dot_product (parameters_along c).major v)) (nat_abs (dot_product (parameters_along c).minor v)) v
unfolding Walk.along
sizes-along c v = rw (parameters-are c) (sizes-by c v (is_steep c))

pub sizes : (d v : Point) → Sizes (nat_abs (dot_product (major d) v)) (nat_abs (dot_product (minor d) v)) v
sizes d v = sizes-along (turned_back d) v

-- what an Extra edge is shorter is one step along the major axis
pub one-step : (d : Point) → nat_abs (dot_product (major d) (reduce d)) ≡ 1
one-step d =
    ⊎_elim (λ is. is.0 ∙ ap nat_abs (reduce-x d) ∙ one-direction d.x) (λ is. is.0 ∙ ap nat_abs (reduce-y d) ∙ one-direction d.y) (sizes d (reduce d))

-- ---- a product by the two axes

product-by : (c s v : Point) (t : Bool) → let u = cond t (down c) (across c) in let w = cond t (across c) (down c) in dot_product s v ≡ dot_product u s *ℤ dot_product u v +ℤ dot_product w s *ℤ dot_product w v
unfolding dot_product
product-by c s v true =
    ring 6 (λ p q x y m n. since (neg (y ⊗ n)) (q ⊗ q) (con (pos 1)) (since (neg (x ⊗ m)) (p ⊗ p) (con (pos 1)) (x ⊗ m ⊕ y ⊗ n ≈ (con (pos 0) ⊗ x ⊕ q ⊗ y) ⊗ (con (pos 0) ⊗ m ⊕ q ⊗ n) ⊕ (p ⊗ x ⊕ con (pos 0) ⊗ y) ⊗ (p ⊗ m ⊕ con (pos 0) ⊗ n)))) refl
    (direction_of c.x) (direction_of c.y) s.x s.y v.x v.y (direction-square c.y) (direction-square c.x)
product-by c s v false =
    ring 6 (λ p q x y m n. since (neg (y ⊗ n)) (q ⊗ q) (con (pos 1)) (since (neg (x ⊗ m)) (p ⊗ p) (con (pos 1)) (x ⊗ m ⊕ y ⊗ n ≈ (p ⊗ x ⊕ con (pos 0) ⊗ y) ⊗ (p ⊗ m ⊕ con (pos 0) ⊗ n) ⊕ (con (pos 0) ⊗ x ⊕ q ⊗ y) ⊗ (con (pos 0) ⊗ m ⊕ q ⊗ n)))) refl
    (direction_of c.x) (direction_of c.y) s.x s.y v.x v.y (direction-square c.y) (direction-square c.x)

product-along : (c s v : Point) → let p = parameters_along c in dot_product s v ≡ dot_product p.major s *ℤ dot_product p.major v +ℤ dot_product p.minor s *ℤ dot_product p.minor v
unfolding Walk.along
product-along c s v = rw (parameters-are c) (product-by c s v (is_steep c))

pub product : (d s v : Point) → dot_product s v ≡ dot_product (major d) s *ℤ dot_product (major d) v +ℤ dot_product (minor d) s *ℤ dot_product (minor d) v
product d s v = product-along (turned_back d) s v

-- a delta along a diagonal is so many times the step that an Extra edge is shorter
pub diagonal : (d : Point) → longer d ≡ shorter d → (d.x ≡ pos (longer d) *ℤ (reduce d).x) × (d.y ≡ pos (longer d) *ℤ (reduce d).y)
unfolding plus
diagonal d equal =
    let s = spanned d in
    let p = parameters_along d in (
      ring 5 (λ x a b m n. since (con (negsuc 0)) (a ⊗ m ⊕ b ⊗ n) x (since (con (negsuc 0)) (a ⊗ n) (b ⊗ n) (x ≈ a ⊗ (m ⊕ n)))) refl d.x (pos (longer d)) (pos (shorter d)) p.major.x p.minor.x s.x-is (ap (λ k. pos k *ℤ p.minor.x) equal),
      ring 5 (λ x a b m n. since (con (negsuc 0)) (a ⊗ m ⊕ b ⊗ n) x (since (con (negsuc 0)) (a ⊗ n) (b ⊗ n) (x ≈ a ⊗ (m ⊕ n)))) refl d.y (pos (longer d)) (pos (shorter d)) p.major.y p.minor.y s.y-is (ap (λ k. pos k *ℤ p.minor.y) equal),
    )
