use Rattle.std.proofs.Common.{refl, ◌∙◌}
use mir.Facts.{to_z-of_z}
use Rattle.std.proofs.lemmas.Result.{err_from_is_err_and}
use Rattle.shapes.proofs.Numbers.{number-some}
use Rattle.route.proofs.Chains.{panel-roomy, ready, refused-with, named-with, row-stopped, row_made, list-made}
use Rattle.route.proofs.row.Goals as goal

pub returns-in_err-answer-clause-value : goal.returns-in_err-answer-clause-value
returns-in_err-answer-clause-value c =
    let p = err_from_is_err_and c.from_residual.result c.from_residual.ensures.1 in
    let e = rw (c.panel.ensures, to_z-of_z c.ranges.width, c.in_err-answer.was) at c.prepare-answer.ensures in
    rw (p.1, p.2) (row-stopped _ _ _ _ (refused-with _ _ _ _ e) (number-some _) (named-with _ _ _ _ e) c.args.row c.args.out.now refl).0

pub returns-in_err-answer-clause-list : goal.returns-in_err-answer-clause-list
returns-in_err-answer-clause-list c =
    let e = rw (c.panel.ensures, to_z-of_z c.ranges.width, c.in_err-answer.was) at c.prepare-answer.ensures in
    (row-stopped _ _ _ _ (refused-with _ _ _ _ e) (number-some _) (named-with _ _ _ _ e) c.args.row c.args.out.now refl).1

pub row_of-requires-clause-kept : goal.row_of-requires-clause-kept
row_of-requires-clause-kept c = (ready _ _ _ _ panel-roomy (rw c.panel.ensures at c.prepare-answer.ensures) (rw c.in_ok-answer.was)).kept

pub returns-clause-value : goal.returns-clause-value
returns-clause-value c =
    let e = rw (c.panel.ensures, to_z-of_z c.ranges.width) at c.prepare-answer.ensures in
    rw (to_z-of_z c.ranges.row) at c.row_of.ensures.value ∙ row_made _ _ _ _ (ready _ _ _ _ panel-roomy e (rw c.in_ok-answer.was)) c.args.row _

pub returns-clause-list : goal.returns-clause-list
returns-clause-list c =
    let e = rw (c.panel.ensures, to_z-of_z c.ranges.width) at c.prepare-answer.ensures in
    rw (to_z-of_z c.ranges.row) at c.row_of.ensures.list ∙ list-made _ _ _ _ (ready _ _ _ _ panel-roomy e (rw c.in_ok-answer.was)) c.args.row c.args.out.now
