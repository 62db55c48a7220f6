use Rattle.linear_equation.proofs.Laws.{line-room}
use Rattle.linear_equation.proofs.equation.Goals as goal

pub from_line-requires : goal.from_line-requires
from_line-requires c = line-room c.args.line (cc)
