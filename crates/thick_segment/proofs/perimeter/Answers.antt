use Rattle.thick_segment.proofs.Refused.{segment-room}
use Rattle.thick_segment.proofs.perimeter.Goals as goal

pub perimeter-requires : goal.perimeter-requires
perimeter-requires c = segment-room c.args.segment (cc)
