-- The row is one of the line's, so that its way from the line's start is small.
use mathlib.Core.Path.{◌≡◌, ap, ◌∙◌}
use Prim.Native.Nat.{ℕ}
use borrow.Author.Rules.{rules}
use lib.IntN.{ℤ, nat_abs, ◌-ℤ◌}
use mir.Syntax.{w64}
use mir.Val.{SFits, of_z, to_z}
use mir.Facts.{to_z-of_z}
use Rattle.whole.proofs.Machine.{Hold, hold, fits_sub, hold-sub}
use Rattle.shapes.specs.declared.Line.{Line}
use Rattle.shapes.specs.declared.Point.{Point}
use Rattle.shapes.specs.Limits.{line_limit}
use Rattle.shapes.specs.Shape.{LineNear, delta}
use Rattle.bresenham.specs.Paces.{wide, tall, Between}
use Rattle.scanline.specs.Rows.{rows_to, ends_on}
use Rattle.scanline.proofs.Rows.{ends-within, sizes}
use Rattle.scanline.proofs.quotients.ends_on.Goals as goal

-- the row and the line's first row, in their bits
row_hold : {l : Line} {row : ℤ} → LineNear line_limit l → Between l.start.y l.end.y row → Hold (of_z w64 row) row line_limit
row_hold near on = hold (ends-within near.start_near.y_near near.end_near.y_near on) tt

first_hold : {l : Line} → LineNear line_limit l → Hold (of_z w64 l.start.y) l.start.y line_limit
first_hold near = hold near.start_near.y_near tt

pub overflow_sub-row : goal.overflow_sub-row
overflow_sub-row c = fits_sub (row_hold c.requires.line_near c.requires.between) (first_hold c.requires.line_near) tt

-- what is counted: columns, rows, and the rows to this one
record Counted (l : Line) (row : ℤ) (w h r : ℕ) : Type 0 where
  wide_is : w ≡ wide l
  tall_is : h ≡ tall l
  rows_are : r ≡ rows_to l row

counted : (l : Line) (row : ℤ) (d : Point) {w h r : ℕ} → d ≡ delta l → SFits w64 d.x → SFits w64 d.y → LineNear line_limit l → Between l.start.y l.end.y row → w ≡ nat_abs (to_z w64 (of_z w64 d.x)) → h ≡ nat_abs (to_z w64 (of_z w64 d.y)) → r ≡ nat_abs (to_z w64 (of_z w64 (to_z w64 (of_z w64 row) -ℤ to_z w64 (of_z w64 l.start.y)))) → Counted l row w h r
counted l row d is x y near on e f g =
    record {
      wide_is = e ∙ ap nat_abs (to_z-of_z x ∙ ap (λ (p : Point). p.x) is);
      tall_is = f ∙ ap nat_abs (to_z-of_z y ∙ ap (λ (p : Point). p.y) is);
      rows_are = g ∙ ap nat_abs (hold-sub (row_hold near on) (first_hold near) tt).is;
    }

pub ends_at-requires : goal.ends_at-requires
ends_at-requires c =
    let k = counted c.args.line c.args.row c.delta-d.result c.delta-d.ensures (search rules) (search rules) c.requires.line_near c.requires.between c.unsigned_abs.ensures.value c.unsigned_abs-2.ensures.value c.unsigned_abs-3.ensures.value in
    sizes c.args.line c.args.row c.requires.between c.requires.line_near k.wide_is k.tall_is k.rows_are

pub returns : goal.returns
unfolding ends_on
returns c =
    let k = counted c.args.line c.args.row c.delta-d.result c.delta-d.ensures (search rules) (search rules) c.requires.line_near c.requires.between c.unsigned_abs.ensures.value c.unsigned_abs-2.ensures.value c.unsigned_abs-3.ensures.value in
    rw (c.ends_at.ensures, k.wide_is, k.tall_is, k.rows_are)
