use Rattle.std.proofs.Common.{◌≡◌, ◌+◌, ◌≤◌, length}
use lib.Seq.{sets}
use Rattle.shapes.specs.Limits.{thick_limit}
use Rattle.parallels.specs.Parallels.{Begun, spare, parallels}
use Rattle.thick_points.specs.Listing.{told_all}
use Rattle.thick_points.proofs.inner.put_all.Given as goal

-- what is still to be told, from here, makes the list that was asked for, and there is room for it
abbrev pub invariant-loop-telling : goal.invariant-loop-telling
invariant-loop-telling l =
    record {
      begun : Begun thick_limit l.plan l.state;
      room : l.at + length (told_all l.telling l.n l.plan.parallel (parallels l.plan l.state)) ≤ length l.out;
      same : sets l.out l.at (told_all l.telling l.n l.plan.parallel (parallels l.plan l.state)) ≡ sets l.initial.out 0 (told_all l.telling l.n l.plan.parallel (parallels l.plan l.initial.state));
    }

abbrev pub decreases-loop-telling : goal.decreases-loop-telling
decreases-loop-telling l = spare l.plan l.state
