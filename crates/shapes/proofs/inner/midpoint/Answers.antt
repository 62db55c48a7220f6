use lib.Dec.{lit≤}
use Rattle.whole.proofs.Machine.{literal, hold-quot}
use Rattle.shapes.proofs.Laws.{x-held, y-held, near-delta, near-held}
use Rattle.shapes.proofs.inner.midpoint.Goals as goal

pub plus-requires-clause-near_2 : goal.plus-requires-clause-near_2
plus-requires-clause-near_2 c =
    let d = near-delta c.requires in
    rw c.delta-d.ensures (near-held (hold-quot (x-held d tt) (literal 2 tt) tt) (hold-quot (y-held d tt) (literal 2 tt) tt) (lit≤ tt) (lit≤ tt))
