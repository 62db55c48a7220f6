use Rattle.route_joins.specs.Joins.{segment_count}
use Rattle.route_joins.proofs.Near.{place_inside}
use Rattle.route_joins.proofs.inner.segment_of.Goals as goal

pub end_place-next-requires : goal.end_place-next-requires
unfolding segment_count
end_place-next-requires c = rw c.point_count.ensures (place_inside c.args.closed c.requires.k_bound).0
