use Rattle.linear_equation.proofs.Laws.{near-line, tame}
use Rattle.linear_equation.proofs.distance.Goals as goal

pub distance-requires-clause-tame : goal.distance-requires-clause-tame
distance-requires-clause-tame c = rw c.from_line.ensures (tame (near-line c.args.line c.args.point (cc)))
