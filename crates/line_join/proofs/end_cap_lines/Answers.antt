use Rattle.line_join.proofs.Answers.{let-through}
use Rattle.line_join.proofs.end_cap_lines.Goals as goal

pub end_caps-requires : goal.end_caps-requires
end_caps-requires c = let-through c.args.join _ _ c.in_ok-check_near.ensures
