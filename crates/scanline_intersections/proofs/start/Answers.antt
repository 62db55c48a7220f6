use mir.Facts.{to_z-of_z}
use Rattle.std.proofs.lemmas.Result.{err_from_is_err_and}
use Rattle.shapes.specs.Limits.{panel}
use Rattle.scanline_intersections.proofs.Entries.{start-listed, start-rowed, start-begun}
use Rattle.scanline_intersections.proofs.start.Goals as goal

pub returns-in_err-check : goal.returns-in_err-check
returns-in_err-check c =
    let p = err_from_is_err_and c.from_residual.result c.from_residual.ensures.1 in
    rw (p.1, p.2) (start-listed panel c.args.coordinates.now c.args.width c.args.row _ (rw (to_z-of_z c.ranges.width) at c.in_err-check.ensures.number))

pub returns-in_err-span : goal.returns-in_err-span
returns-in_err-span c =
    let p = err_from_is_err_and c.from_residual-in_err-span.result c.from_residual-in_err-span.ensures.1 in
    rw (p.1, p.2)
    (start-rowed panel c.args.coordinates.now c.args.width c.args.row (rw (to_z-of_z c.ranges.width) at c.in_ok-check.ensures.number) _ (rw (to_z-of_z c.ranges.row) at c.in_err-span.ensures))

pub returns : goal.returns
returns c =
    start-begun panel c.args.coordinates.now c.args.width c.args.row (rw (to_z-of_z c.ranges.width) at c.in_ok-check.ensures.number) c.in_ok-span.span
    (rw (to_z-of_z c.ranges.row) at c.in_ok-span.ensures) (to_z-of_z c.ranges.width)
