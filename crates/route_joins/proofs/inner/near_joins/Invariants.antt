use Rattle.std.proofs.Common.{◌≡◌, ◌-◌}
use Rattle.whole.specs.Places.{fails_from}
use Rattle.route_joins.specs.Joins.{is_near_at, near_joins}
use Rattle.route_joins.proofs.inner.near_joins.Given as goal

-- the first join that is not near is one from here on
abbrev pub invariant-loop-i : goal.invariant-loop-i
invariant-loop-i l =
    fails_from (is_near_at l.limit l.closed l.coordinates l.width) l.i (l.count - l.i) ≡ near_joins l.limit l.closed l.coordinates l.width
