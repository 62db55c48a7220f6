-- The plan of a line by numbers: the deltas a and b, and the steps across. Assumes nothing.
use mathlib.Core.Path.{◌≡◌, refl, ◌∙◌}
use mathlib.Core.Bool.{Bool, true, false, cond}
use Prim.Native.Nat.{ℕ}
use native.Mathlib.Omega.{arith}
use borrow.Author.Tests.{ltb-true, ltb-false}
use lib.Dec.{ltb}
use lib.IntN.{ℤ, pos, nat_abs, ◌*ℤ◌}
use lib.Signed.{lt_z}
use Rattle.whole.proofs.Bounds.{abs_neg}
use Rattle.whole.proofs.Ring.{con, ◌⊕◌, ◌⊗◌, ◌≈◌, ring}
use Rattle.whole.proofs.Tests.{either}
use Rattle.shapes.specs.declared.Point.{Point}
use Rattle.shapes.specs.declared.Offset.{Offset}
use Rattle.shapes.specs.Shape.{point_of, dot_product}
use Rattle.bresenham.specs.Walk.{direction_of, parameters_along}
use Rattle.bresenham.specs.Walk as Walk
use Rattle.bresenham.proofs.Laws.{across, down, is_steep, longer, shorter, parameters-are}
use Rattle.parallels.specs.Parallels.{turned_back, plan_along}
use Rattle.skeletons.proofs.Strides.{Gauged, Unit, Measured}

-- ---- directions are 1 or -1

pub direction-square : (z : ℤ) → direction_of z *ℤ direction_of z ≡ pos 1
unfolding direction_of
direction-square z = either (λ u. u *ℤ u ≡ pos 1) (lt_z z (pos 0)) (λ _. refl) (λ _. refl)

-- ---- the parameters along a delta

gauged : (c : Point) → Gauged (parameters_along c) (longer c) (shorter c)
unfolding Walk.along
gauged c = rw (parameters-are c) (record { far = refl; gains = refl; loses = refl })

-- ---- steps of one pixel along the axes

along-x : (u : ℤ) → u *ℤ u ≡ pos 1 → dot_product (point_of u (pos 0)) (point_of u (pos 0)) ≡ pos 1
unfolding dot_product
along-x u e = ring 1 (λ u. u ⊗ u ⊕ con (pos 0) ⊗ con (pos 0) ≈ u ⊗ u) refl u ∙ e

along-y : (u : ℤ) → u *ℤ u ≡ pos 1 → dot_product (point_of (pos 0) u) (point_of (pos 0) u) ≡ pos 1
unfolding dot_product
along-y u e = ring 1 (λ u. con (pos 0) ⊗ con (pos 0) ⊕ u ⊗ u ≈ u ⊗ u) refl u ∙ e

x-to-y : (u v : ℤ) → dot_product (point_of u (pos 0)) (point_of (pos 0) v) ≡ pos 0
unfolding dot_product
x-to-y = ring 2 (λ u v. u ⊗ con (pos 0) ⊕ con (pos 0) ⊗ v ≈ con (pos 0)) refl

y-to-x : (u v : ℤ) → dot_product (point_of (pos 0) v) (point_of u (pos 0)) ≡ pos 0
unfolding dot_product
y-to-x = ring 2 (λ u v. con (pos 0) ⊗ u ⊕ v ⊗ con (pos 0) ≈ con (pos 0)) refl

unit-by : (c : Point) (t : Bool) (a b : ℤ) → Unit (Walk.along (cond t (down c) (across c)) (cond t (across c) (down c)) a b)
unfolding Walk.along
unit-by c true a b =
    let u = direction_of c.x in
    let v = direction_of c.y in
    record { major_unit = along-y v (direction-square c.y); crossed = y-to-x u v; crossed-back = x-to-y u v; minor_unit = along-x u (direction-square c.x) }
unit-by c false a b =
    let u = direction_of c.x in
    let v = direction_of c.y in
    record { major_unit = along-x u (direction-square c.x); crossed = x-to-y u v; crossed-back = y-to-x u v; minor_unit = along-y v (direction-square c.y) }

unit : (c : Point) → Unit (parameters_along c)
unit c = rw (parameters-are c) (unit-by c (is_steep c) (pos (longer c)) (pos (shorter c)))

-- ---- the deltas of a line turned by a quarter are the same

back_by : (m n : ℕ) (s t : Bool) → ltb m n ≡ s → ltb n m ≡ t → (cond t m n ≡ cond s n m) × (cond t n m ≡ cond s m n)
back_by m n true true e f = absurd (omega (arith, ltb-true m n e, ltb-true n m f))
back_by m n true false e f = (refl, refl)
back_by m n false true e f = (refl, refl)
back_by m n false false e f = (omega (arith, ltb-false m n e, ltb-false n m f), omega (arith, ltb-false m n e, ltb-false n m f))

pub back : (d : Point) → (longer (turned_back d) ≡ longer d) × (shorter (turned_back d) ≡ shorter d)
back d = rw (abs_neg d.x) (back_by (nat_abs d.x) (nat_abs d.y) (is_steep d) (ltb (nat_abs d.y) (nat_abs d.x)) refl refl)

-- ---- the plan along a delta

pub measured : (d : Point) (width : ℤ) (offset : Offset) → Measured (plan_along d width offset) (longer d) (shorter d)
unfolding plan_along
measured d width offset = record { across-is = rw ((back d).0, (back d).1) at (gauged (turned_back d)); along-is = gauged d; steps = unit (turned_back d) }
