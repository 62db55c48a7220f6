use Rattle.line_join.proofs.Room.{edges_room}
use Rattle.shapes.proofs.Widths.{thin-held}
use Rattle.line_join.proofs.inner.from_points.Goals as goal

pub bent-requires-clause-edges_near : goal.bent-requires-clause-edges_near
bent-requires-clause-edges_near c =
    let r = c.requires in
    rw (c.extents-first.ensures, (thin-held r.thin).is) (edges_room c.args.offset r.near r.near_2 r.thin)

pub bent-requires-clause-edges_near_2 : goal.bent-requires-clause-edges_near_2
bent-requires-clause-edges_near_2 c =
    let r = c.requires in
    rw (c.extents-second.ensures, (thin-held r.thin).is) (edges_room c.args.offset r.near_2 r.near_3 r.thin)
