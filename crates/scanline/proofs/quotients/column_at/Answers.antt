-- A count of columns, 1 or -1, and the start's column are small, so that the machine holds what is worked out of them.
use mathlib.Core.Path.{◌≡◌, ap, ◌∙◌}
use Prim.Native.Nat.{ℕ, ◌^◌, ◌≤◌}
use borrow.Author.Rules.{rules}
use lib.IntN.{ℤ, pos}
use mir.Syntax.{w64}
use mir.Val.{SFits, of_z, to_z}
use mir.Facts.{to_z-of_z}
use Rattle.whole.proofs.Machine.{Hold, hold, hold-as, fits-add, fits-mul, hold-add, hold-mul}
use Rattle.bresenham.specs.Walk.{direction_of}
use Rattle.bresenham.specs.Paces.{steps_from}
use Rattle.bresenham.proofs.Laws.{direction-unit}
use Rattle.shapes.specs.declared.Line.{Line}
use Rattle.shapes.specs.declared.Point.{Point}
use Rattle.shapes.specs.Shape.{delta}
use Rattle.scanline.proofs.quotients.column_at.Goals as goal

-- the count of columns, and their direction, in their bits
count : (k : ℕ) → k ≤ 2 ^ 15 → Hold (of_z w64 (pos k)) (pos k) (2 ^ 15)
count k le = hold {z = pos k} (record { bound = le }) tt

toward : (l : Line) (d : Point) (r : ℤ) → d ≡ delta l → SFits w64 d.x → r ≡ direction_of (to_z w64 (of_z w64 d.x)) → Hold (of_z w64 r) (direction_of (delta l).x) 1
toward l d r is fits e = hold-as {r = r} (e ∙ ap direction_of (to_z-of_z fits ∙ ap (λ (p : Point). p.x) is)) (direction-unit (delta l).x) tt

pub overflow_mul-result : goal.overflow_mul-result
overflow_mul-result c =
    let t = toward c.args.line c.delta-d.result c.direction.result c.delta-d.ensures (search rules) c.direction.ensures in
    fits-mul (count c.args.k c.requires.k_bound) t tt

pub overflow_add-result : goal.overflow_add-result
overflow_add-result c =
    let t = toward c.args.line c.delta-d.result c.direction.result c.delta-d.ensures (search rules) c.direction.ensures in
    fits-add (hold c.requires.line_near.start_near.x_near tt) (hold-mul (count c.args.k c.requires.k_bound) t tt) tt

pub returns : goal.returns
unfolding steps_from
returns c =
    let t = toward c.args.line c.delta-d.result c.direction.result c.delta-d.ensures (search rules) c.direction.ensures in
    (hold-add (hold c.requires.line_near.start_near.x_near tt) (hold-mul (count c.args.k c.requires.k_bound) t tt) tt).is
