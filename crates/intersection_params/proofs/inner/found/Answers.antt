use Rattle.std.proofs.Common.{sym, ◌∙◌}
use Rattle.intersection_params.specs.Crossing.{found_of}
use Rattle.intersection_params.proofs.Room.{some-drawn}
use Rattle.intersection_params.proofs.inner.found.Goals as goal

pub returns-in_default : goal.returns-in_default
unfolding found_of
returns-in_default c = simp (sym c.drawn.ensures ∙ c.in_default.is)

pub divisions-requires-clause-determinant_nonzero : goal.divisions-requires-clause-determinant_nonzero
divisions-requires-clause-determinant_nonzero c = some-drawn c.args.solution (sym c.drawn.ensures ∙ c.in-At.is)

pub returns : goal.returns
unfolding found_of
returns c = simp (c.divisions.ensures, sym c.drawn.ensures ∙ c.in-At.is)
