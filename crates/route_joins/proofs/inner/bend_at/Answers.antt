use Rattle.route_joins.proofs.Near.{near_at}
use Rattle.route_joins.proofs.inner.bend_at.Goals as goal

pub from_points-requires-clause-near : goal.from_points-requires-clause-near
from_points-requires-clause-near c = near_at _ c.point_at-a.ensures c.requires.drawable.near

pub from_points-requires-clause-near_2 : goal.from_points-requires-clause-near_2
from_points-requires-clause-near_2 c = near_at _ c.point_at-b.ensures c.requires.drawable.near

pub from_points-requires-clause-near_3 : goal.from_points-requires-clause-near_3
from_points-requires-clause-near_3 c = near_at _ c.point_at-c.ensures c.requires.drawable.near
