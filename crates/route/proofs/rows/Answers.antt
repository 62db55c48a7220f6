use Rattle.std.proofs.Common.{◌∙◌}
use mir.Facts.{to_z-of_z}
use Rattle.std.proofs.lemmas.Result.{err_from_is_err_and}
use Rattle.shapes.proofs.Numbers.{number-some}
use Rattle.route.proofs.Chains.{panel-roomy, ready, refused-with, named-with, rows-stopped, rows_made}
use Rattle.route.proofs.rows.Goals as goal

pub returns-in_err-answer : goal.returns-in_err-answer
returns-in_err-answer c =
    let p = err_from_is_err_and c.from_residual.result c.from_residual.ensures.1 in
    let e = rw (c.panel.ensures, to_z-of_z c.ranges.width, c.in_err-answer.was) at c.prepare-answer.ensures in
    rw (p.1, p.2) (rows-stopped _ _ _ _ (refused-with _ _ _ _ e) (number-some _) (named-with _ _ _ _ e))

pub rows_of-requires : goal.rows_of-requires
rows_of-requires c = (ready _ _ _ _ panel-roomy (rw c.panel.ensures at c.prepare-answer.ensures) (rw c.in_ok-answer.was)).kept

pub returns : goal.returns
returns c =
    let e = rw (c.panel.ensures, to_z-of_z c.ranges.width) at c.prepare-answer.ensures in
    c.rows_of.ensures ∙ rows_made _ _ _ _ (ready _ _ _ _ panel-roomy e (rw c.in_ok-answer.was))
