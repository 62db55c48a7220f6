use Rattle.std.proofs.Common.{ap, ◌∙◌}
use mir.Facts.{to_z-of_z}
use Rattle.std.proofs.lemmas.Result.{err_from_is_err_and}
use Rattle.shapes.proofs.Numbers.{number-some}
use Rattle.route.specs.Rows.{rows_refusal}
use Rattle.route.proofs.Ranges.{rows-near}
use Rattle.route.proofs.Chains.{panel-roomy, ready, refused-with, named-with, verdict-stopped, verdict-made}
use Rattle.route.proofs.check.Goals as goal

pub returns-in_err-answer : goal.returns-in_err-answer
returns-in_err-answer c =
    let p = err_from_is_err_and c.from_residual.result c.from_residual.ensures.1 in
    let e = rw (c.panel.ensures, to_z-of_z c.ranges.width, c.in_err-answer.was) at c.prepare-answer.ensures in
    rw (p.1, p.2) (verdict-stopped _ _ _ _ (refused-with _ _ _ _ e) (number-some _) (named-with _ _ _ _ e))

pub rows_of-requires : goal.rows_of-requires
rows_of-requires c = (ready _ _ _ _ panel-roomy (rw c.panel.ensures at c.prepare-answer.ensures) (rw c.in_ok-answer.was)).kept

pub check_rows-requires-clause-kept : goal.check_rows-requires-clause-kept
check_rows-requires-clause-kept c = (ready _ _ _ _ panel-roomy (rw c.panel.ensures at c.prepare-answer.ensures) (rw c.in_ok-answer.was)).kept

pub check_rows-requires-clause-rows_near : goal.check_rows-requires-clause-rows_near
check_rows-requires-clause-rows_near c =
    rw c.rows_of.ensures (rows-near (ready _ _ _ _ panel-roomy (rw c.panel.ensures at c.prepare-answer.ensures) (rw c.in_ok-answer.was)).kept)

pub returns : goal.returns
returns c =
    let e = rw (c.panel.ensures, to_z-of_z c.ranges.width) at c.prepare-answer.ensures in
    rw c.check_rows.ensures.bend
    (verdict-made _ _ _ _ (ready _ _ _ _ panel-roomy e (rw c.in_ok-answer.was))
    (c.check_rows.ensures.number ∙ ap (rows_refusal c.prepare-answer.result.joins) c.rows_of.ensures))
