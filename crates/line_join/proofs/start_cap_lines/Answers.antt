use Rattle.line_join.proofs.Answers.{let-through}
use Rattle.line_join.proofs.start_cap_lines.Goals as goal

pub start_caps-requires : goal.start_caps-requires
start_caps-requires c = let-through c.args.join _ _ c.in_ok-check_near.ensures
