use Rattle.route_joins.proofs.Near.{near_at}
use Rattle.route_joins.proofs.inner.closed_join.Goals as goal

pub start-requires-clause-near : goal.start-requires-clause-near
start-requires-clause-near c = near_at _ c.point_at-a.ensures c.requires.drawable.near

pub start-requires-clause-near_2 : goal.start-requires-clause-near_2
start-requires-clause-near_2 c = near_at _ c.point_at-b.ensures c.requires.drawable.near
