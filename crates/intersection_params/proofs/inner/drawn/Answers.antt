use mir.Facts.{to_z-of_z}
use mir.Syntax.{w64}
use Rattle.std.proofs.Common.{pos, ◌∙◌, rules}
use Rattle.whole.proofs.Machine.{hold, literal, eq-hold, ne-back}
use Rattle.whole.proofs.Orders.{eq_z-no}
use Rattle.intersection_params.specs.Crossing.{drawn_of}
use Rattle.intersection_params.proofs.inner.drawn.Goals as goal

pub returns-then-determinant-eq0 : goal.returns-then-determinant-eq0
unfolding drawn_of
returns-then-determinant-eq0 c = simp (eq-hold (hold c.requires.determinant_within tt) (literal 0 tt) c.if-determinant-eq0.true)

pub returns : goal.returns
unfolding drawn_of
returns c =
    let d = (hold c.requires.determinant_within tt).is in
    simp (
      eq_z-no c.args.solution.determinant (pos 0) (ne-back c.if-determinant-eq0.false),
      to_z-of_z {w = w64} {z = c.rounded.result} (search rules) ∙ c.rounded.ensures,
      to_z-of_z {w = w64} {z = c.rounded-2.result} (search rules) ∙ c.rounded-2.ensures,
      c.outer_side-side.ensures,
      d,
      (hold c.requires.x_within tt).is,
      (hold c.requires.y_within tt).is,
    )
