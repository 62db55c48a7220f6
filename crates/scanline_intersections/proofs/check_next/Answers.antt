use Rattle.std.proofs.Common.{rules, refl, sym}
use mir.Syntax.{w64}
use mir.Facts.{to_z-of_z}
use lib.Dec.{lit≤}
use Rattle.std.proofs.lemmas.Result.{err_from_is_err_and}
use Rattle.shapes.specs.Limits.{panel, corner_limit}
use Rattle.shapes.proofs.Widths.{thin-back}
use Rattle.coordinates.proofs.Laws.{accepted-exactly}
use Rattle.route_joins.proofs.Near.{all_more}
use Rattle.scanline_intersections.proofs.Entries.{next-listed, bend-listed, next-far, bend-far, next-spanned, bend-spanned, taken-number, taken-bend}
use Rattle.scanline_intersections.proofs.check_next.Goals as goal

pub returns-in_err-check-clause-number : goal.returns-in_err-check-clause-number
returns-in_err-check-clause-number c =
    let p = err_from_is_err_and c.from_residual.result c.from_residual.ensures.1 in
    let held = to_z-of_z {w = w64} {z = c.args.walk.width} (search rules) in
    rw (p.1, p.2) (next-listed panel c.args.coordinates.now c.args.walk _ (rw held at c.in_err-check.ensures.number))

pub returns-in_err-check-clause-bend : goal.returns-in_err-check-clause-bend
returns-in_err-check-clause-bend c =
    let p = err_from_is_err_and c.from_residual.result c.from_residual.ensures.1 in
    let held = to_z-of_z {w = w64} {z = c.args.walk.width} (search rules) in
    rw (p.1, p.2) (bend-listed panel c.args.coordinates.now c.args.walk _ (rw held at c.in_err-check.ensures.number) c.in_err-check.ensures.bend)

pub near_joins-near-requires-clause-all_within : goal.near_joins-near-requires-clause-all_within
near_joins-near-requires-clause-all_within c =
    let held = to_z-of_z {w = w64} {z = c.args.walk.width} (search rules) in
    let accepted = (accepted-exactly panel.point _ c.args.coordinates.now c.args.walk.width).0 (sym (rw held at c.in_ok-check.ensures.number)) in
    all_more accepted.near (lit≤ tt)

pub near_joins-near-requires-clause-thin : goal.near_joins-near-requires-clause-thin
near_joins-near-requires-clause-thin c =
    let held = to_z-of_z {w = w64} {z = c.args.walk.width} (search rules) in
    let accepted = (accepted-exactly panel.point _ c.args.coordinates.now c.args.walk.width).0 (sym (rw held at c.in_ok-check.ensures.number)) in
    thin-back accepted.thin

pub returns-then-near-join_count-clause-number : goal.returns-then-near-join_count-clause-number
returns-then-near-join_count-clause-number c =
    let held = to_z-of_z {w = w64} {z = c.args.walk.width} (search rules) in
    next-far panel c.args.coordinates.now c.args.walk (rw held at c.in_ok-check.ensures.number) (rw held at c.near_joins-near.ensures) c.join_count.ensures c.if-near-join_count.true

pub returns-then-near-join_count-clause-bend : goal.returns-then-near-join_count-clause-bend
returns-then-near-join_count-clause-bend c =
    let held = to_z-of_z {w = w64} {z = c.args.walk.width} (search rules) in
    bend-far panel c.args.coordinates.now c.args.walk (rw held at c.in_ok-check.ensures.number) (rw held at c.near_joins-near.ensures) c.join_count.ensures c.if-near-join_count.true

pub returns-in_err-_taken-clause-number : goal.returns-in_err-_taken-clause-number
returns-in_err-_taken-clause-number c =
    let p = err_from_is_err_and c.from_residual-in_err-_taken.result c.from_residual-in_err-_taken.ensures.1 in
    let held = to_z-of_z {w = w64} {z = c.args.walk.width} (search rules) in
    rw (p.1, p.2)
    (next-spanned panel c.args.coordinates.now c.args.walk (rw held at c.in_ok-check.ensures.number) (rw held at c.near_joins-near.ensures) c.join_count.ensures c.if-near-join_count.false
    (taken-number corner_limit c.args.walk.span c.in_err-_taken.ensures refl))

pub returns-in_err-_taken-clause-bend : goal.returns-in_err-_taken-clause-bend
returns-in_err-_taken-clause-bend c =
    let p = err_from_is_err_and c.from_residual-in_err-_taken.result c.from_residual-in_err-_taken.ensures.1 in
    let held = to_z-of_z {w = w64} {z = c.args.walk.width} (search rules) in
    rw (p.1, p.2)
    (bend-spanned panel c.args.coordinates.now c.args.walk (rw held at c.in_ok-check.ensures.number) (rw held at c.near_joins-near.ensures) c.join_count.ensures c.if-near-join_count.false
    (taken-bend corner_limit c.args.walk.span _ (taken-number corner_limit c.args.walk.span c.in_err-_taken.ensures refl)))

pub returns-clause-number : goal.returns-clause-number
returns-clause-number c =
    let held = to_z-of_z {w = w64} {z = c.args.walk.width} (search rules) in
    next-spanned panel c.args.coordinates.now c.args.walk (rw held at c.in_ok-check.ensures.number) (rw held at c.near_joins-near.ensures) c.join_count.ensures c.if-near-join_count.false
    (taken-number corner_limit c.args.walk.span c.in_ok-_taken.ensures refl)

pub returns-clause-bend : goal.returns-clause-bend
returns-clause-bend c =
    let held = to_z-of_z {w = w64} {z = c.args.walk.width} (search rules) in
    bend-spanned panel c.args.coordinates.now c.args.walk (rw held at c.in_ok-check.ensures.number) (rw held at c.near_joins-near.ensures) c.join_count.ensures c.if-near-join_count.false refl
