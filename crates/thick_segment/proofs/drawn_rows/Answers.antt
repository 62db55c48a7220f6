use Rattle.thick_segment.proofs.Refused.{through-room}
use Rattle.thick_segment.proofs.drawn_rows.Goals as goal

pub drawn_rows-requires : goal.drawn_rows-requires
drawn_rows-requires c = through-room c.args.segment _ _ c.in_ok-check_near.ensures
