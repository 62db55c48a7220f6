use Rattle.std.proofs.Common.{◌≡◌, ◌+◌, length}
use Rattle.shapes.specs.Limits.{thick_limit}
use Rattle.parallels.specs.Parallels.{Begun, spare, parallels}
use Rattle.thick_points.specs.Listing.{told_all}
use Rattle.thick_points.proofs.inner.count.Given as goal

-- what is counted and what follows are always as many
abbrev pub invariant-loop-telling : goal.invariant-loop-telling
invariant-loop-telling l =
    record {
      begun : Begun thick_limit l.plan l.state;
      same : l.count + length (told_all l.telling l.n l.plan.parallel (parallels l.plan l.state)) ≡ length (told_all l.telling l.n l.plan.parallel (parallels l.plan l.initial.state));
    }

abbrev pub decreases-loop-telling : goal.decreases-loop-telling
decreases-loop-telling l = spare l.plan l.state
