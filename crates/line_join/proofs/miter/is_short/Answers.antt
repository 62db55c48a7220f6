-- Past the two tests no component is beyond 128, so that 64 bits hold the squares.
use Rattle.std.proofs.Common.{◌≡◌, ℕ, ◌+◌, ◌^◌, false, ℤ, pos, ◌-ℤ◌, ◌*ℤ◌, w64, to_z, of_z, rules, sym, ap, ◌∙◌}
use lib.IntN.{nat_abs}
use lib.Signed.{lt_z}
use mir.Facts.{to_z-of_z}
use Rattle.whole.specs.Number.{Within}
use Rattle.whole.proofs.Linear.{linear, times}
use Rattle.whole.proofs.Machine.{Hold, hold-as, literal, fits-mul, fits-add, hold-sub, hold-mul, hold-add, lt-hold}
use Rattle.shapes.specs.declared.Point.{Point}
use Rattle.shapes.specs.Limits.{line_limit}
use Rattle.shapes.specs.Shape.{Near, minus, dot_product, squared_length}
use Rattle.shapes.specs.Strokes.{Thin}
use Rattle.shapes.proofs.Laws.{x-held, y-held}
use Rattle.shapes.proofs.Widths.{thin-held}
use Rattle.line_join.specs.Miter.{miter_limit, corner_room, reaches}
use Rattle.line_join.proofs.Laws.{too_wide, too-tall}
use Rattle.line_join.proofs.miter.is_short.Goals as goal
use Rattle.line_join.proofs.miter.is_short.Goals.{then-most-magnitude-via-then-most-magnitude, then-most-magnitude-via-else-most-magnitude+then-most-magnitude-2}

-- a component that passed its test
passed : {w z : ℤ} → Thin w → lt_z (pos 2 *ℤ w) (pos (nat_abs z)) ≡ false → Within z 128
passed {w} {z} h e = record { bound = omega (linear, times 2 w, h.high) }

-- a difference of coordinates, its absolute value and twice the width, in their bits
abbrev difference : ℤ → ℤ → ℕ
difference a b = of_z w64 (to_z w64 (of_z w64 a) -ℤ to_z w64 (of_z w64 b))

abbrev twice : ℤ → ℕ
twice w = of_z w64 (pos 2 *ℤ to_z w64 (of_z w64 w))

twice-held : {w : ℤ} → Thin w → Hold (twice w) (pos 2 *ℤ w) 128
twice-held h = hold-mul (literal 2 tt) (thin-held h) tt

x-difference : {mid tip : Point} → Near line_limit mid → Near corner_room tip → Hold (difference tip.x mid.x) (tip.x -ℤ mid.x) (2 ^ 48 + 2 ^ 14)
x-difference p q = hold-sub (x-held q tt) (x-held p tt) tt

y-difference : {mid tip : Point} → Near line_limit mid → Near corner_room tip → Hold (difference tip.y mid.y) (tip.y -ℤ mid.y) (2 ^ 48 + 2 ^ 14)
y-difference p q = hold-sub (y-held q tt) (y-held p tt) tt

far : {n : ℕ} {z m : ℤ} → Hold n z (2 ^ 48 + 2 ^ 14) → m ≡ pos (nat_abs (to_z w64 n)) → Hold (of_z w64 m) (pos (nat_abs z)) (2 ^ 48 + 2 ^ 14)
far d e = hold-as (e ∙ ap (λ z. pos (nat_abs z)) d.is) (record { bound = d.small.bound }) tt

short : {n : ℕ} {w z m : ℤ} → Thin w → Hold n z (2 ^ 48 + 2 ^ 14) → m ≡ pos (nat_abs (to_z w64 n)) → lt_z (to_z w64 (twice w)) (to_z w64 (of_z w64 m)) ≡ false → Hold n z 128
short h d e test = record { is = d.is; small = passed h (lt-hold (twice-held h) (far d e) test) }

pub returns-then-most-magnitude : goal.returns-then-most-magnitude
returns-then-most-magnitude c =
    let a = c.args in
    let r = c.requires in
    elim c.then-most-magnitude.branch [
      | then-most-magnitude-via-then-most-magnitude w ↦
          sym (too_wide a.mid a.tip a.width r.thin (lt-hold (twice-held r.thin) (far (x-difference r.near r.near_2) c.magnitude.ensures) w.if-most-magnitude.true))
      | then-most-magnitude-via-else-most-magnitude+then-most-magnitude-2 w ↦
          sym (too-tall a.mid a.tip a.width r.thin (lt-hold (twice-held r.thin) (far (y-difference r.near r.near_2) w.magnitude-else-most-magnitude.ensures) w.if-most-magnitude-2.true))
    ]

pub overflow_mul-result : goal.overflow_mul-result
overflow_mul-result c =
    let r = c.requires in
    let x = short r.thin (x-difference r.near r.near_2) c.magnitude.ensures c.if-most-magnitude.false in
    fits-mul x x tt

pub overflow_mul-result-2 : goal.overflow_mul-result-2
overflow_mul-result-2 c =
    let r = c.requires in
    let y = short r.thin (y-difference r.near r.near_2) c.magnitude-else-most-magnitude.ensures c.if-most-magnitude-2.false in
    fits-mul y y tt

pub overflow_add-result : goal.overflow_add-result
overflow_add-result c =
    let r = c.requires in
    let x = short r.thin (x-difference r.near r.near_2) c.magnitude.ensures c.if-most-magnitude.false in
    let y = short r.thin (y-difference r.near r.near_2) c.magnitude-else-most-magnitude.ensures c.if-most-magnitude-2.false in
    fits-add (hold-mul x x tt) (hold-mul y y tt) tt

pub returns : goal.returns
unfolding reaches squared_length dot_product minus
returns c =
    let r = c.requires in
    let x = short r.thin (x-difference r.near r.near_2) c.magnitude.ensures c.if-most-magnitude.false in
    let y = short r.thin (y-difference r.near r.near_2) c.magnitude-else-most-magnitude.ensures c.if-most-magnitude-2.false in
    rw (
      (hold-add (hold-mul x x tt) (hold-mul y y tt) tt).is,
      to_z-of_z {w = w64} {z = c.limit.result} (search rules) ∙ c.limit.ensures ∙ ap miter_limit (thin-held r.thin).is,
    )
