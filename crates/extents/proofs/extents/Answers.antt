use lib.Dec.{lit≤}
use lib.IntN.{ℤ}
use mir.Facts.{to_z-of_z}
use Rattle.std.proofs.Common.{Err, ◌≡◌, sym, rules}
use Rattle.shapes.specs.declared.Line.{Line}
use Rattle.shapes.specs.Limits.{point_limit}
use Rattle.shapes.specs.Shape.{LineNear, is_line_near}
use Rattle.shapes.specs.Strokes.{Thin, stroke_refusal}
use Rattle.shapes.proofs.Laws.{line-near-iff, line-near-more}
use Rattle.shapes.proofs.Widths.{stroke-none}
use Rattle.parallels.proofs.Room.{thin-thick}
use Rattle.shapes.proofs.Numbers.{number-some}
use Rattle.extents.proofs.Answers.{by-refusal, by-none}
use Rattle.extents.proofs.extents.Goals as goal

pub returns-in_err-check_stroke : goal.returns-in_err-check_stroke
returns-in_err-check_stroke c =
    let r = c.in_err-check_stroke.field-0.0 in
    let is : c.from_residual.result ≡ Err r = search rules in
    let number = rw (to_z-of_z c.ranges.width, c.is_line_near.ensures) at c.in_err-check_stroke.ensures in
    rw is (sym (by-refusal point_limit c.args.line c.args.width c.args.offset (sym number) (number-some r)))

-- where nothing is refused, all is within its limits
within : (l : Line) (width : ℤ) → stroke_refusal width (is_line_near point_limit l) ≡ 0 → Thin width × LineNear point_limit l
within l width e = (stroke-none width (line-near-iff point_limit l)).0 e

pub extents-requires-clause-line_near : goal.extents-requires-clause-line_near
extents-requires-clause-line_near c =
    let number = rw (to_z-of_z c.ranges.width, c.is_line_near.ensures) at c.in_ok-check_stroke.ensures in
    line-near-more (within c.args.line c.args.width (sym number)).1 (lit≤ tt)

pub extents-requires-clause-within : goal.extents-requires-clause-within
extents-requires-clause-within c =
    let number = rw (to_z-of_z c.ranges.width, c.is_line_near.ensures) at c.in_ok-check_stroke.ensures in
    rw (to_z-of_z c.ranges.width) (thin-thick (within c.args.line c.args.width (sym number)).0)

pub returns : goal.returns
returns c =
    let number = rw (to_z-of_z c.ranges.width, c.is_line_near.ensures) at c.in_ok-check_stroke.ensures in
    rw (c.extents.ensures, to_z-of_z c.ranges.width) (sym (by-none point_limit c.args.line c.args.width c.args.offset (sym number)))
