use Rattle.std.proofs.Common.{◌≡◌}
use Rattle.shapes.specs.Limits.{thick_limit}
use Rattle.parallels.specs.Parallels.{Begun, spare, parallels}
use Rattle.extents.specs.Edges.{lasts}
use Rattle.extents.proofs.inner.last_ends.Given as goal

-- the parallels from here on lead to the ends that were asked for
abbrev pub invariant-loop-state : goal.invariant-loop-state
invariant-loop-state l = record { begun : Begun thick_limit l.plan l.state; same : lasts l.ends (parallels l.plan l.state) ≡ lasts l.initial.ends (parallels l.plan l.initial.state) }

abbrev pub decreases-loop-state : goal.decreases-loop-state
decreases-loop-state l = spare l.plan l.state
