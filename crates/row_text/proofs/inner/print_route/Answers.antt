use Rattle.std.proofs.Common.{sym, ap, ◌∙◌, rules, w64}
use mir.Facts.{to_z-of_z}
use Rattle.route.specs.Rows.{rows_refusal}
use Rattle.shapes.proofs.Numbers.{number-some}
use Rattle.route.proofs.Chains.{ready, refused-with, named-with, whole-stopped, whole-made, verdict-stopped, verdict-made}
use Rattle.route.proofs.Ranges.{rows-near}
use Rattle.row_text.specs.Pixels.{lit_in}
use Rattle.row_text.proofs.Laws.{pixels-refused, pixels-drawn}
use Rattle.row_text.proofs.inner.print_route.Goals as goal

pub print_refused-requires : goal.print_refused-requires
print_refused-requires c =
    let e = rw c.in-Err.is at c.prepare-answer.ensures in
    verdict-stopped _ _ _ _ (refused-with _ _ _ _ e) (number-some _) (named-with _ _ _ _ e)

pub returns-in-Err : goal.returns-in-Err
returns-in-Err c =
    let e = rw (to_z-of_z c.ranges.width, c.in-Err.is) at c.prepare-answer.ensures in
    pixels-refused c.requires c.args.closed c.args.coordinates.now c.args.width (whole-stopped _ _ _ _ (refused-with _ _ _ _ e) (number-some _)) (number-some _)

pub rows_of-rows-requires : goal.rows_of-rows-requires
rows_of-rows-requires c = (ready _ _ _ _ c.requires c.prepare-answer.ensures (rw c.in_default.is)).kept

pub check_rows-requires-clause-kept : goal.check_rows-requires-clause-kept
check_rows-requires-clause-kept c = (ready _ _ _ _ c.requires c.prepare-answer.ensures (rw c.in_default.is)).kept

pub check_rows-requires-clause-rows_near : goal.check_rows-requires-clause-rows_near
check_rows-requires-clause-rows_near c = rw c.rows_of-rows.ensures (rows-near (ready _ _ _ _ c.requires c.prepare-answer.ensures (rw c.in_default.is)).kept)

pub print_refused-requires-in-Err-check_rows : goal.print_refused-requires-in-Err-check_rows
print_refused-requires-in-Err-check_rows c =
    let e = c.in-Err-check_rows.ensures in
    rw e.bend
    (verdict-made _ _ _ _ (ready _ _ _ _ c.requires c.prepare-answer.ensures (rw c.in_default.is))
    (e.number ∙ ap (rows_refusal c.prepare-answer.result.joins) c.rows_of-rows.ensures))

pub returns-in-Err-check_rows : goal.returns-in-Err-check_rows
returns-in-Err-check_rows c =
    let free = ready _ _ _ _ c.requires (rw (to_z-of_z c.ranges.width) at c.prepare-answer.ensures) (rw c.in_default.is) in
    pixels-refused c.requires c.args.closed c.args.coordinates.now c.args.width
    (c.in-Err-check_rows.ensures.number ∙ ap (rows_refusal c.prepare-answer.result.joins) c.rows_of-rows.ensures ∙ whole-made _ _ _ _ free) (number-some _)

pub print_rows-requires-clause-kept : goal.print_rows-requires-clause-kept
print_rows-requires-clause-kept c = (ready _ _ _ _ c.requires c.prepare-answer.ensures (rw c.in_default.is)).kept

pub print_rows-requires-clause-rows_near : goal.print_rows-requires-clause-rows_near
print_rows-requires-clause-rows_near c = rw c.rows_of-rows.ensures (rows-near (ready _ _ _ _ c.requires c.prepare-answer.ensures (rw c.in_default.is)).kept)

pub returns : goal.returns
returns c =
    let free = ready _ _ _ _ c.requires (rw (to_z-of_z c.ranges.width) at c.prepare-answer.ensures) (rw c.in_default.is) in
    to_z-of_z {w = w64} {z = c.print_rows.result} (search rules) ∙ c.print_rows.ensures ∙ ap (lit_in c.prepare-answer.result.joins) c.rows_of-rows.ensures
    ∙ pixels-drawn c.requires c.args.closed c.args.coordinates.now c.args.width free
    (sym (c.in_default-check_rows.ensures.number ∙ ap (rows_refusal c.prepare-answer.result.joins) c.rows_of-rows.ensures ∙ whole-made _ _ _ _ free))
