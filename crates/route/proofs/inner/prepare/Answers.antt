use Rattle.std.proofs.Common.{sym}
use mir.Facts.{to_z-of_z}
use Rattle.coordinates.proofs.Laws.{accepted-exactly}
use Rattle.route_joins.proofs.Near.{all_more}
use Rattle.route.proofs.Chains.{prepared-stopped, prepared-near, prepared-far}
use Rattle.route.proofs.inner.prepare.Goals as goal

pub returns-in-Err : goal.returns-in-Err
returns-in-Err c =
    let e = c.in-Err.ensures in
    rw c.no_joins.ensures (prepared-stopped _ _ _ _ _ (rw (to_z-of_z c.ranges.width) at e.number) e.bend)

pub joins_of-joins-requires-clause-all_within : goal.joins_of-joins-requires-clause-all_within
joins_of-joins-requires-clause-all_within c = all_more ((accepted-exactly _ _ _ _).0 (sym c.in_default.ensures.number)).near c.requires.point_room

pub joins_of-joins-requires-clause-thin : goal.joins_of-joins-requires-clause-thin
joins_of-joins-requires-clause-thin c = ((accepted-exactly _ _ _ _).0 (sym c.in_default.ensures.number)).thin

pub joins_of-joins-requires-clause-coordinates_bound : goal.joins_of-joins-requires-clause-coordinates_bound
joins_of-joins-requires-clause-coordinates_bound c = ((accepted-exactly _ _ _ _).0 (sym c.in_default.ensures.number)).few

pub returns-then-joins : goal.returns-then-joins
returns-then-joins c =
    let w = to_z-of_z c.ranges.width in
    prepared-near _ _ _ _ (sym (rw w at c.in_default.ensures.number)) (rw w at c.joins_of-joins.ensures) c.if-joins.true

pub returns : goal.returns
returns c =
    let w = to_z-of_z c.ranges.width in
    prepared-far _ _ _ _ (sym (rw w at c.in_default.ensures.number)) (rw w at c.joins_of-joins.ensures) c.if-joins.false
