use Rattle.std.proofs.Common.{arith}
use Rattle.route_joins.proofs.Near.{place_inside}
use Rattle.route.proofs.Kept.{ends-in-array, segment-made}
use Rattle.route.proofs.inner.segment.Goals as goal

pub offset_bounds-route-i : goal.offset_bounds-route-i
offset_bounds-route-i c = let inside = ends-in-array c.requires.kept c.requires.i_bound in omega (arith, inside.0)

pub bounds-route-i : goal.bounds-route-i
bounds-route-i c = (ends-in-array c.requires.kept c.requires.i_bound).0

pub end_place-requires : goal.end_place-requires
end_place-requires c = (place_inside c.args.route.now.closed c.requires.i_bound).0

pub offset_bounds-route-end_place : goal.offset_bounds-route-end_place
offset_bounds-route-end_place c = let inside = ends-in-array c.requires.kept c.requires.i_bound in omega (arith, inside.1, c.end_place.ensures)

pub bounds-route-end_place : goal.bounds-route-end_place
bounds-route-end_place c = let inside = ends-in-array c.requires.kept c.requires.i_bound in omega (arith, inside.1, c.end_place.ensures)

pub returns : goal.returns
returns c = segment-made c.args.route.now c.args.i c.end_place.ensures
