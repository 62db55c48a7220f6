use Rattle.linear_equation.proofs.Laws.{tame}
use Rattle.intersection_params.specs.Crossing.{solution_of}
use Rattle.intersection_params.proofs.inner.solve.Goals as goal

pub cramer-requires-clause-tame : goal.cramer-requires-clause-tame
cramer-requires-clause-tame c = rw c.from_line.ensures (tame c.requires.line_near)

pub cramer-requires-clause-tame_2 : goal.cramer-requires-clause-tame_2
cramer-requires-clause-tame_2 c = rw c.from_line-2.ensures (tame c.requires.line_near_2)

pub returns : goal.returns
unfolding solution_of
returns c = cc
