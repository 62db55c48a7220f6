use Rattle.std.proofs.Common.{◌≡◌, arith, rules, sym, ap, ◌∙◌}
use Rattle.std.proofs.lemmas.Grind.{common_steps}
use mir.Facts.{to_z-of_z}
use Rattle.route_joins.specs.Steps.{step_values}
use Rattle.route_joins.proofs.Steps.{drawn-within}
use Rattle.route_joins.proofs.inner.step_at.Goals as goal

pub overflow_add-further : goal.overflow_add-further
unfolding step_values
overflow_add-further c =
    let a = c.args in
    let found : (step_values c.answer_at-step.result).found ≡ 1 = grind (arith, common_steps) in
    let told = rw (to_z-of_z c.ranges.width) at c.answer_at-step.ensures in
    let inside = drawn-within a.limits a.closed a.coordinates.now a.width a.offset a.place (sym (ap (λ v. v.found) told) ∙ found) in
    search (rules, inside)
