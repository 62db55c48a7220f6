-- When an edge of a leg comes to the square round a point, by steps along the two axes across the leg: seen from where the leg starts, and from
-- where it ends. Assumes nothing.
use mathlib.Core.Path.{◌≡◌, refl, sym, ap, ◌∙◌}
use mathlib.Core.Bool.{Bool, true, false}
use Prim.Native.Nat.{ℕ, ◌+◌, ◌*◌, ◌≤◌}
use native.Mathlib.Omega.{arith}
use lib.IntN.{ℤ, pos, negsuc, nat_abs, neg_ℤ, ◌+ℤ◌, ◌-ℤ◌, ◌*ℤ◌, +ℤ_idr}
use Rattle.whole.proofs.Bounds.{abs_neg}
use Rattle.whole.proofs.Linear.{there-and-off}
use Rattle.whole.proofs.Ring.{con, neg, ◌⊕◌, ◌⊖◌, ◌⊗◌, ◌≈◌, since, ring}
use Rattle.shapes.specs.declared.Point.{Point}
use Rattle.shapes.specs.declared.Line.{Line}
use Rattle.shapes.specs.declared.Side.{Side}
use Rattle.shapes.specs.declared.Side.TheVariants.{Left, Right}
use Rattle.shapes.specs.declared.Offset.TheVariants.{None}
use Rattle.shapes.specs.Shape.{plus, minus, determinant, dot_product, delta}
use Rattle.bresenham.specs.declared.Parameters.{Parameters}
use Rattle.bresenham.specs.Walk.{parameters_along}
use Rattle.bresenham.proofs.Laws.{longer, shorter}
use Rattle.parallels.specs.Parallels.{aimed, plan_along, plan_of}
use Rattle.extents.specs.declared.Edge.{Edge}
use Rattle.extents.specs.Edges.{closed}
use Rattle.skeletons.specs.Treads.{Mark}
use Rattle.skeletons.proofs.Cells.{Touches}
use Rattle.skeletons.proofs.Frames.{major, minor, reduce, across-delta, across-reduce, across-cut, size_is, cut-size}
use Rattle.skeletons.proofs.Marches.{Marked}
use Rattle.skeletons.proofs.Outward.{outward, outward-less, outward-plus, outward-back}

-- so many steps away is within the reach of a miter at width w
abbrev pub Reached : ℕ → ℤ → ℤ → Type 0
Reached w x y = nat_abs x * nat_abs x + nat_abs y * nat_abs y ≤ 2 * w * (2 * w)

-- x steps along the major axis and y along the minor one from a Normal edge, and from an Extra one: the square is not beyond it
pub record Normal (a b : ℕ) (x y : ℤ) : Type 0 where
  pub near : 2 * nat_abs (pos a *ℤ x +ℤ pos b *ℤ y) ≤ a + b

pub record Extra (a b : ℕ) (x y : ℤ) : Type 0 where
  pub near : 2 * nat_abs (pos a *ℤ x +ℤ pos b *ℤ y -ℤ (x +ℤ y)) + 2 ≤ a + b

-- ---- a line of a delta, or of one that is shorter, seen from its start and from its end

module _ (d : Point) {l : Line} {z : Point} (m : Touches l z) where
  abbrev a : ℕ
  a = longer d

  abbrev b : ℕ
  b = shorter d

  normal-by : (v : Point) → delta l ≡ d → nat_abs (determinant (delta l) v) ≡ nat_abs (determinant (delta l) (minus z l.start)) → Normal a b (dot_product (major d) v) (dot_product (minor d) v)
  normal-by v is same =
      let way = pos a *ℤ dot_product (major d) v +ℤ pos b *ℤ dot_product (minor d) v in
      let size : nat_abs (delta l).x + nat_abs (delta l).y ≡ a + b = rw is (size_is d) in
      let turned : nat_abs (determinant (delta l) v) ≡ nat_abs way = rw is (ap nat_abs (across-delta d v) ∙ abs_neg way) in
      record { near = omega (arith, m.near, same, turned, size) }

  extra-by : (v : Point) → 1 ≤ b → delta l ≡ minus d (reduce d) → nat_abs (determinant (delta l) v) ≡ nat_abs (determinant (delta l) (minus z l.start)) → Extra a b (dot_product (major d) v) (dot_product (minor d) v)
  extra-by v some is same =
      let x = dot_product (major d) v in
      let y = dot_product (minor d) v in
      let way = pos a *ℤ x +ℤ pos b *ℤ y -ℤ (x +ℤ y) in
      let size : nat_abs (delta l).x + nat_abs (delta l).y + 2 ≡ a + b = rw is (cut-size d some) in
      let far : determinant (minus d (reduce d)) v ≡ neg_ℤ way = rw (across-cut d v, across-delta d v, across-reduce d some v) (ring 4 (λ a b x y. neg (a ⊗ x ⊕ b ⊗ y) ⊖ neg (x ⊕ y) ≈ neg (a ⊗ x ⊕ b ⊗ y ⊖ (x ⊕ y))) refl (pos a) (pos b) x y) in
      let turned : nat_abs (determinant (delta l) v) ≡ nat_abs way = rw is (ap nat_abs far ∙ abs_neg way) in
      record { near = omega (arith, m.near, same, turned, size) }

-- from the end of a line the determinant is that from its start
from_end : (l : Line) (z : Point) → determinant (delta l) (minus z l.end) ≡ determinant (delta l) (minus z l.start)
unfolding determinant delta minus
from_end l z = ring 6 (λ a b p q x y. (p ⊖ a) ⊗ (y ⊖ q) ⊖ (q ⊖ b) ⊗ (x ⊖ p) ≈ (p ⊖ a) ⊗ (y ⊖ b) ⊖ (q ⊖ b) ⊗ (x ⊖ a)) refl l.start.x l.start.y l.end.x l.end.y z.x z.y

-- ---- turned round, the same

turned-way : (a b : ℕ) (x y : ℤ) → pos a *ℤ neg_ℤ x +ℤ pos b *ℤ neg_ℤ y ≡ neg_ℤ (pos a *ℤ x +ℤ pos b *ℤ y)
turned-way a b x y = ring 4 (λ a b x y. a ⊗ neg x ⊕ b ⊗ neg y ≈ neg (a ⊗ x ⊕ b ⊗ y)) refl (pos a) (pos b) x y

normal-turned : {a b : ℕ} {x y : ℤ} → Normal a b x y → Normal a b (neg_ℤ x) (neg_ℤ y)
normal-turned {a} {b} {x} {y} h = record { near = rw (turned-way a b x y, abs_neg (pos a *ℤ x +ℤ pos b *ℤ y)) h.near }

extra-turned : {a b : ℕ} {x y : ℤ} → Extra a b x y → Extra a b (neg_ℤ x) (neg_ℤ y)
extra-turned {a} {b} {x} {y} h =
    let way = pos a *ℤ x +ℤ pos b *ℤ y -ℤ (x +ℤ y) in
    let turned : pos a *ℤ neg_ℤ x +ℤ pos b *ℤ neg_ℤ y -ℤ (neg_ℤ x +ℤ neg_ℤ y) ≡ neg_ℤ way = ring 4 (λ a b x y. a ⊗ neg x ⊕ b ⊗ neg y ⊖ (neg x ⊕ neg y) ≈ neg (a ⊗ x ⊕ b ⊗ y ⊖ (x ⊕ y))) refl (pos a) (pos b) x y in
    record { near = rw (turned, abs_neg way) h.near }

-- ---- an edge

shorter-way : (p d s : ℤ) → p +ℤ d -ℤ s -ℤ p ≡ d -ℤ s
shorter-way = ring 3 (λ p d s. p ⊕ d ⊖ s ⊖ p ≈ d ⊖ s) refl

module _ (l : Line) (along : Parameters) (e : Edge) where
  pub closed-normal : e.extra ≡ false → (delta (closed l along e) ≡ delta l) × ((closed l along e).end ≡ plus e.point (delta l))
  unfolding closed delta minus plus
  closed-normal h = rw h (simp (there-and-off e.point.x (l.end.x -ℤ l.start.x), there-and-off e.point.y (l.end.y -ℤ l.start.y)), refl)

  pub closed-extra : e.extra ≡ true → (delta (closed l along e) ≡ minus (delta l) (plus along.major along.minor)) × ((closed l along e).end ≡ minus (plus e.point (delta l)) (plus along.major along.minor))
  unfolding closed delta minus plus
  closed-extra h =
      rw h (simp (shorter-way e.point.x (l.end.x -ℤ l.start.x) (along.major.x +ℤ along.minor.x), shorter-way e.point.y (l.end.y -ℤ l.start.y) (along.major.y +ℤ along.minor.y)), refl)

-- the way to a point from an edge's start, and from its end, by that from the leg's start and from its end
module _ (c z p : Point) (l : Line) where
  from_start : dot_product c (minus z p) ≡ dot_product c (minus z l.start) -ℤ dot_product c (minus p l.start)
  unfolding dot_product minus
  from_start = ring 8 (λ x y z w p q a b. x ⊗ (z ⊖ p) ⊕ y ⊗ (w ⊖ q) ≈ (x ⊗ (z ⊖ a) ⊕ y ⊗ (w ⊖ b)) ⊖ (x ⊗ (p ⊖ a) ⊕ y ⊗ (q ⊖ b))) refl c.x c.y z.x z.y p.x p.y l.start.x l.start.y

  from-whole : dot_product c (minus z (plus p (delta l))) ≡ dot_product c (minus z l.end) -ℤ dot_product c (minus p l.start)
  unfolding dot_product minus plus delta
  from-whole =
      ring 10 (λ x y z w p q a b m n. x ⊗ (z ⊖ (p ⊕ (m ⊖ a))) ⊕ y ⊗ (w ⊖ (q ⊕ (n ⊖ b))) ≈ (x ⊗ (z ⊖ m) ⊕ y ⊗ (w ⊖ n)) ⊖ (x ⊗ (p ⊖ a) ⊕ y ⊗ (q ⊖ b))) refl
      c.x c.y z.x z.y p.x p.y l.start.x l.start.y l.end.x l.end.y

  from_cut : (s : Point) → dot_product c (minus z (minus (plus p (delta l)) s)) ≡ dot_product c (minus z l.end) -ℤ dot_product c (minus p l.start) +ℤ dot_product c s
  unfolding dot_product minus plus delta
  from_cut s =
      ring 12 (λ x y z w p q a b m n s t. x ⊗ (z ⊖ (p ⊕ (m ⊖ a) ⊖ s)) ⊕ y ⊗ (w ⊖ (q ⊕ (n ⊖ b) ⊖ t)) ≈ (x ⊗ (z ⊖ m) ⊕ y ⊗ (w ⊖ n)) ⊖ (x ⊗ (p ⊖ a) ⊕ y ⊗ (q ⊖ b)) ⊕ (x ⊗ s ⊕ y ⊗ t)) refl
      c.x c.y z.x z.y p.x p.y l.start.x l.start.y l.end.x l.end.y s.x s.y

-- and to where an edge ends
module _ (c p : Point) (l : Line) where
  pub to_whole : dot_product c (minus (plus p (delta l)) l.end) ≡ dot_product c (minus p l.start)
  unfolding dot_product minus plus delta
  to_whole = ring 8 (λ x y p q a b m n. x ⊗ (p ⊕ (m ⊖ a) ⊖ m) ⊕ y ⊗ (q ⊕ (n ⊖ b) ⊖ n) ≈ x ⊗ (p ⊖ a) ⊕ y ⊗ (q ⊖ b)) refl c.x c.y p.x p.y l.start.x l.start.y l.end.x l.end.y

  pub to-cut : (s : Point) → dot_product c (minus (minus (plus p (delta l)) s) l.end) ≡ dot_product c (minus p l.start) -ℤ dot_product c s
  unfolding dot_product minus plus delta
  to-cut s =
      ring 10 (λ x y p q a b m n s t. x ⊗ (p ⊕ (m ⊖ a) ⊖ s ⊖ m) ⊕ y ⊗ (q ⊕ (n ⊖ b) ⊖ t ⊖ n) ≈ (x ⊗ (p ⊖ a) ⊕ y ⊗ (q ⊖ b)) ⊖ (x ⊗ s ⊕ y ⊗ t)) refl
      c.x c.y p.x p.y l.start.x l.start.y l.end.x l.end.y s.x s.y

-- ---- an edge by its counts: where it is seen from its end, an Extra one is s nearer along the one axis and farther along the other

pub data Sighted (a b : ℕ) (x y s : ℤ) (m : Mark) : Type 0 where
  normal : m.extra ≡ false → Normal a b (x -ℤ pos m.n) (y -ℤ pos m.e) → Sighted a b x y s m
  extra : m.extra ≡ true → Extra a b (x -ℤ pos m.n +ℤ s) (y -ℤ pos m.e -ℤ s) → Sighted a b x y s m

-- on the left, and turned round on the right
normal-outward : {a b : ℕ} {x y : ℤ} (side : Side) → Normal a b x y → Normal a b (outward side x) (outward side y)
normal-outward Left h = h
normal-outward Right h = normal-turned h

extra-outward : {a b : ℕ} {x y : ℤ} (side : Side) → Extra a b x y → Extra a b (outward side x) (outward side y)
extra-outward Left h = h
extra-outward Right h = extra-turned h

-- the steps that an Extra edge is shorter, along the two axes
pub opposite-steps : (d : Point) → 1 ≤ shorter d → dot_product (minor d) (reduce d) ≡ neg_ℤ (dot_product (major d) (reduce d))
unfolding determinant
opposite-steps d some =
    let s = reduce d in
    let x = dot_product (major d) s in
    let y = dot_product (minor d) s in
    let none : neg_ℤ (x +ℤ y) ≡ pos 0 = sym (across-reduce d some s) ∙ ring 2 (λ u v. u ⊗ v ⊖ v ⊗ u ≈ con (pos 0)) refl s.x s.y in
    ring 2 (λ x y. since (con (negsuc 0)) (neg (x ⊕ y)) (con (pos 0)) (y ≈ neg x)) refl x y none

module _ (l : Line) (w : ℕ) (aim : delta l ≡ aimed l) (side : Side) {e : Edge} {m : Mark} (marked : Marked (plan_of l (pos w) None) l.start side e m) (short : m.extra ≡ true → 1 ≤ shorter (aimed l)) (z : Point) where
  abbrev d : Point
  d = aimed l

  abbrev edge : Line
  edge = closed l (plan_of l (pos w) None).parallel e

  -- the way along an axis, seen from the leg's start or its end
  abbrev way : Point → Point → ℤ
  way c o = outward side (dot_product c (minus z o))

  pub sighted-start : Touches edge z → Sighted (longer d) (shorter d) (way (major d) l.start) (way (minor d) l.start) (pos 0) m
  unfolding closed plan_of plan_along
  sighted-start h = by m.extra refl
    where
      v : Point
      v = minus z e.point

      x-is : outward side (dot_product (major d) v) ≡ way (major d) l.start -ℤ pos m.n
      x-is = ap (outward side) (from_start (major d) z e.point l) ∙ outward-less side (dot_product (major d) (minus z l.start)) (dot_product (major d) (minus e.point l.start)) marked.strode.major

      y-is : outward side (dot_product (minor d) v) ≡ way (minor d) l.start -ℤ pos m.e
      y-is = ap (outward side) (from_start (minor d) z e.point l) ∙ outward-less side (dot_product (minor d) (minus z l.start)) (dot_product (minor d) (minus e.point l.start)) marked.strode.minor

      by : (t : Bool) → m.extra ≡ t → Sighted (longer d) (shorter d) (way (major d) l.start) (way (minor d) l.start) (pos 0) m
      by false t = normal t (rw (x-is, y-is) at (normal-outward side (normal-by d h v ((closed-normal l (parameters_along d) e (marked.extra ∙ t)).0 ∙ aim) refl)))
      by true t = extra t (simp +ℤ_idr (rw (x-is, y-is) at (extra-outward side (extra-by d h v (short t) ((closed-extra l (parameters_along d) e (marked.extra ∙ t)).0 ∙ ap (λ x. minus x (reduce d)) aim) refl))))

  -- what an Extra edge is nearer along the major axis, seen from its end
  abbrev nearer : ℤ
  nearer = outward side (dot_product (major d) (reduce d))

  pub sighted-end : Touches edge z → Sighted (longer d) (shorter d) (way (major d) l.end) (way (minor d) l.end) nearer m
  unfolding plan_of plan_along
  sighted-end h = by m.extra refl
    where
      v : Point
      v = minus z edge.end

      same : nat_abs (determinant (delta edge) v) ≡ nat_abs (determinant (delta edge) (minus z edge.start))
      same = ap nat_abs (from_end edge z)

      -- the way along an axis less that to the edge
      less : (c : Point) {n : ℕ} → outward side (dot_product c (minus e.point l.start)) ≡ pos n → outward side (dot_product c (minus z l.end) -ℤ dot_product c (minus e.point l.start)) ≡ way c l.end -ℤ pos n
      less c at = outward-less side (dot_product c (minus z l.end)) (dot_product c (minus e.point l.start)) at

      whole : (c : Point) {n : ℕ} → edge.end ≡ plus e.point (delta l) → outward side (dot_product c (minus e.point l.start)) ≡ pos n → outward side (dot_product c v) ≡ way c l.end -ℤ pos n
      whole c is at = ap (λ p. outward side (dot_product c (minus z p))) is ∙ ap (outward side) (from-whole c z e.point l) ∙ less c at

      cut : (c : Point) {n : ℕ} → edge.end ≡ minus (plus e.point (delta l)) (reduce d) → outward side (dot_product c (minus e.point l.start)) ≡ pos n → outward side (dot_product c v) ≡ way c l.end -ℤ pos n +ℤ outward side (dot_product c (reduce d))
      cut c is at =
          ap (λ p. outward side (dot_product c (minus z p))) is ∙ ap (outward side) (from_cut c z e.point l (reduce d))
          ∙ outward-plus side (dot_product c (minus z l.end) -ℤ dot_product c (minus e.point l.start)) (dot_product c (reduce d)) ∙ ap (λ q. q +ℤ outward side (dot_product c (reduce d))) (less c at)

      by : (t : Bool) → m.extra ≡ t → Sighted (longer d) (shorter d) (way (major d) l.end) (way (minor d) l.end) nearer m
      by false t =
          let c = closed-normal l (parameters_along d) e (marked.extra ∙ t) in
          normal t (rw (whole (major d) c.1 marked.strode.major, whole (minor d) c.1 marked.strode.minor) at (normal-outward side (normal-by d h v (c.0 ∙ aim) same)))
      by true t =
          let c = closed-extra l (parameters_along d) e (marked.extra ∙ t) in
          let back : outward side (dot_product (minor d) (reduce d)) ≡ neg_ℤ nearer = ap (outward side) (opposite-steps d (short t)) ∙ outward-back side (dot_product (major d) (reduce d)) in
          extra t (rw (cut (major d) c.1 marked.strode.major, cut (minor d) c.1 marked.strode.minor, back) at (extra-outward side (extra-by d h v (short t) (c.0 ∙ ap (λ x. minus x (reduce d)) aim) same)))
