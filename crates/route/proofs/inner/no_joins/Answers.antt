use Rattle.route.specs.Answers.{no_joins}
use Rattle.route.proofs.inner.no_joins.Goals as goal

pub returns : goal.returns
unfolding no_joins
returns c = rw c.no_join.ensures
