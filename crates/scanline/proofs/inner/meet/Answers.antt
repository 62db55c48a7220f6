-- On a row of the line the span takes in the first and the last column, and off them none.
use mathlib.Core.Path.{◌≡◌, sym, ap, ◌∙◌}
use mathlib.Core.Bool.{Bool, true, false}
use Prim.Native.Nat.{◌^◌, ◌≤◌}
use native.Mathlib.Omega.{arith}
use borrow.Author.Rules.{rules}
use lib.Dec.{lit≤}
use lib.IntN.{ℤ}
use mir.Syntax.{w64}
use mir.Val.{SFits, to_z, of_z}
use mir.Facts.{to_z-of_z}
use Rattle.whole.proofs.Bounds.{within_more}
use Rattle.whole.proofs.Machine.{Hold, hold-as}
use Rattle.shapes.specs.declared.Line.{Line}
use Rattle.shapes.specs.declared.Span.{Span}
use Rattle.shapes.specs.Shape.{LineNear}
use Rattle.shapes.specs.Limits.{line_limit}
use Rattle.bresenham.specs.Paces.{Between}
use Rattle.scanline.specs.declared.quotients.Ends.{Ends}
use Rattle.scanline.specs.Rows.{has_row, ends_on, column_at, first_on, last_on}
use Rattle.scanline.proofs.Rows.{row-exactly, counts-small, at-near, first-at, last-at, met-row}
use Rattle.scanline.proofs.Laws.{met-off}
use Rattle.scanline.proofs.inner.meet.Goals as goal

-- what is known on one of the line's rows: the two columns, and that they are small
record Known (s : Span) (l : Line) (e : Ends) : Type 0 where
  between : Between l.start.y l.end.y s.row
  ends : e ≡ ends_on l s.row
  first_small : e.first ≤ 2 ^ 15
  last_small : e.last ≤ 2 ^ 15

on : (s : Span) (l : Line) {t : Bool} → SFits w64 s.row → t ≡ has_row l (to_z w64 (of_z w64 s.row)) → t ≡ true → Between l.start.y l.end.y s.row
on s l fits tested h = (row-exactly l s.row).0 (ap (has_row l) (sym (to_z-of_z fits)) ∙ sym tested ∙ h)

known : (s : Span) (l : Line) {t : Bool} {e : Ends} → SFits w64 s.row → LineNear line_limit l → t ≡ has_row l (to_z w64 (of_z w64 s.row)) → t ≡ true → e ≡ ends_on l (to_z w64 (of_z w64 s.row)) → Known s l e
known s l {e} fits near tested h is =
    let b = on s l fits tested h in
    let is = is ∙ ap (ends_on l) (to_z-of_z fits) in
    let small = counts-small l s.row b near in
    record { between = b; ends = is; first_small = rw is small.0; last_small = rw is small.1 }

-- the first and the last, in their bits
column : (s : Span) (l : Line) {e : Ends} {c : ℤ} → Known s l e → LineNear line_limit l → (c ≡ column_at l e.first → Hold (of_z w64 c) (first_on l s.row) line_limit) × (c ≡ column_at l e.last → Hold (of_z w64 c) (last_on l s.row) line_limit)
column s l {e} {c} k near = (
  λ is. hold-as {r = c} (is ∙ ap (λ (e : Ends). column_at l e.first) k.ends) (at-near l s.row k.between near (first-at l s.row k.between)) tt,
  λ is. hold-as {r = c} (is ∙ ap (λ (e : Ends). column_at l e.last) k.ends) (at-near l s.row k.between near (last-at l s.row k.between)) tt,
)

pub returns-then-not-has_row : goal.returns-then-not-has_row
returns-then-not-has_row c =
    let s = c.args.span in
    let off : has_row c.args.line s.row ≡ false = cc (to_z-of_z {w = w64} {z = s.row} (search rules)) in
    sym (met-off s c.args.line off)

pub ends_on-ends-requires-clause-between : goal.ends_on-ends-requires-clause-between
ends_on-ends-requires-clause-between c = rw (to_z-of_z {w = w64} {z = c.args.span.row} (search rules)) (on c.args.span c.args.line (search rules) c.has_row.ensures c.if-not-has_row.false)

pub column_at-first-requires-clause-k_bound : goal.column_at-first-requires-clause-k_bound
column_at-first-requires-clause-k_bound c =
    let k = known c.args.span c.args.line (search rules) c.requires c.has_row.ensures c.if-not-has_row.false c.ends_on-ends.ensures in
    omega arith

pub column_at-last-requires-clause-k_bound : goal.column_at-last-requires-clause-k_bound
column_at-last-requires-clause-k_bound c =
    let k = known c.args.span c.args.line (search rules) c.requires c.has_row.ensures c.if-not-has_row.false c.ends_on-ends.ensures in
    omega arith

pub extend-requires : goal.extend-requires
extend-requires c =
    let k = known c.args.span c.args.line (search rules) c.requires c.has_row.ensures c.if-not-has_row.false c.ends_on-ends.ensures in
    let h = (column c.args.span c.args.line k c.requires).0 c.column_at-first.ensures in
    rw h.is (within_more h.small (lit≤ tt))

pub extend-requires-2 : goal.extend-requires-2
extend-requires-2 c =
    let k = known c.args.span c.args.line (search rules) c.requires c.has_row.ensures c.if-not-has_row.false c.ends_on-ends.ensures in
    let h = (column c.args.span c.args.line k c.requires).1 c.column_at-last.ensures in
    rw h.is (within_more h.small (lit≤ tt))

pub returns : goal.returns
returns c =
    let k = known c.args.span c.args.line (search rules) c.requires c.has_row.ensures c.if-not-has_row.false c.ends_on-ends.ensures in
    let first = (column c.args.span c.args.line k c.requires).0 c.column_at-first.ensures in
    let last = (column c.args.span c.args.line k c.requires).1 c.column_at-last.ensures in
    cc (met-row c.args.span c.args.line k.between, first.is, last.is)
