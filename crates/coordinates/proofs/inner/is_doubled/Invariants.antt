use Rattle.std.proofs.Common.{◌≡◌, ◌-◌}
use Rattle.whole.specs.Places.{some_from}
use Rattle.coordinates.specs.Neighbours.{is_doubled, is_repeated}
use Rattle.coordinates.proofs.inner.is_doubled.Given as goal

-- a point is doubled where one of those from here on is
abbrev pub invariant-loop-place : goal.invariant-loop-place
invariant-loop-place l = some_from (is_repeated l.coordinates) l.place (l.place-end - l.place) ≡ is_doubled l.closed l.coordinates
