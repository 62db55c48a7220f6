use Rattle.thick_segment.proofs.Refused.{through-room}
use Rattle.thick_segment.proofs.perimeter_count.Goals as goal

pub perimeter_count-requires : goal.perimeter_count-requires
perimeter_count-requires c = through-room c.args.segment _ _ c.in_ok-check_near.ensures
