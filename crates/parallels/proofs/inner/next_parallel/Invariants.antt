use Rattle.std.proofs.Common.{◌≡◌, cond}
use Rattle.parallels.specs.Parallels.{turn_of, next_parallel, Ready}
use Rattle.parallels.proofs.inner.next_parallel.Given as goal

-- the next parallel from here is the one that was asked for
abbrev pub invariant-loop-side : goal.invariant-loop-side
invariant-loop-side l = record { ready : Ready l.plan l.side l.from; same : next_parallel l.plan l.side l.from ≡ next_parallel l.plan l.side l.initial.from }

-- 1 where the point at hand is to be passed over
abbrev pub decreases-loop-side : goal.decreases-loop-side
decreases-loop-side l = cond (turn_of l.plan l.side l.from).met 0 1
