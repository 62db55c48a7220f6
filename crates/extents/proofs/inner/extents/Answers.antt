use lib.Dec.{lit≤}
use lib.IntN.{ℤ}
use Rattle.std.proofs.Common.{◌≡◌}
use Rattle.whole.specs.Number.{Within}
use Rattle.whole.proofs.Machine.{hold}
use Rattle.shapes.specs.declared.Line.{Line}
use Rattle.shapes.specs.declared.Offset.{Offset}
use Rattle.shapes.specs.Limits.{line_limit, thick_limit}
use Rattle.shapes.specs.Shape.{LineNear}
use Rattle.shapes.proofs.Laws.{near-more}
use Rattle.parallels.specs.declared.Plan.{Plan}
use Rattle.parallels.specs.Parallels.{plan_of, parallels_of, Sound}
use Rattle.parallels.proofs.Laws.{shift}
use Rattle.parallels.proofs.Plans.{sound-plan}
use Rattle.parallels.proofs.Room.{sized, near-away, begun-start}
use Rattle.extents.specs.Sides.{Ends}
use Rattle.extents.specs.Edges.{fresh_ends, lasts, extents_of}
use Rattle.extents.proofs.Laws.{EndsAway, ends-away}
use Rattle.extents.proofs.inner.extents.Goals as goal

-- the plan, where the width is taken from its bits
planned : (l : Line) (width : ℤ) (offset : Offset) {z : ℤ} {plan : Plan} → z ≡ width → plan ≡ plan_of l z offset → plan ≡ plan_of l width offset
planned l width offset is e = rw is at e

sound : (l : Line) (width : ℤ) (offset : Offset) {plan : Plan} → LineNear line_limit l → Within width thick_limit → plan ≡ plan_of l width offset → Sound thick_limit plan
sound l width offset near w e = rw e (sound-plan l width offset near w.bound)

-- the ends that its parallels lead to
away : (l : Line) (width : ℤ) (offset : Offset) {s : Ends} → LineNear line_limit l → Within width thick_limit → s ≡ lasts (fresh_ends l) (parallels_of l width offset) → EndsAway l.start (shift thick_limit) s
away l width offset near w e = rw e (ends-away line_limit thick_limit l width offset near (lit≤ tt) w.bound)

pub start-requires-clause-sound : goal.start-requires-clause-sound
start-requires-clause-sound c = sound c.args.line c.args.width c.args.offset c.requires.line_near c.requires.within (planned c.args.line c.args.width c.args.offset (hold c.requires.within tt).is c.plan_of-plan.ensures)

pub last_ends-last-requires-clause-sound : goal.last_ends-last-requires-clause-sound
last_ends-last-requires-clause-sound c = sound c.args.line c.args.width c.args.offset c.requires.line_near c.requires.within (planned c.args.line c.args.width c.args.offset (hold c.requires.within tt).is c.plan_of-plan.ensures)

pub last_ends-last-requires-clause-begun : goal.last_ends-last-requires-clause-begun
last_ends-last-requires-clause-begun c =
    rw c.start.ensures (begun-start (sound c.args.line c.args.width c.args.offset c.requires.line_near c.requires.within (planned c.args.line c.args.width c.args.offset (hold c.requires.within tt).is c.plan_of-plan.ensures)) c.requires.line_near.start_near)

pub close-requires-clause-sized : goal.close-requires-clause-sized
close-requires-clause-sized c = sized (sound c.args.line c.args.width c.args.offset c.requires.line_near c.requires.within (planned c.args.line c.args.width c.args.offset (hold c.requires.within tt).is c.plan_of-plan.ensures)).along_fair

pub close-requires-clause-near : goal.close-requires-clause-near
unfolding parallels_of
close-requires-clause-near c =
    let h = c.requires.line_near in
    let w = hold c.requires.within tt in
    let last = rw (c.fresh_ends.ensures, c.start.ensures, planned c.args.line c.args.width c.args.offset w.is c.plan_of-plan.ensures) at c.last_ends-last.ensures in
    near-more (near-away h.start_near (away c.args.line c.args.width c.args.offset h c.requires.within last).left-away) (lit≤ tt)

pub close-requires-2-clause-sized : goal.close-requires-2-clause-sized
close-requires-2-clause-sized c = sized (sound c.args.line c.args.width c.args.offset c.requires.line_near c.requires.within (planned c.args.line c.args.width c.args.offset (hold c.requires.within tt).is c.plan_of-plan.ensures)).along_fair

pub close-requires-2-clause-near : goal.close-requires-2-clause-near
unfolding parallels_of
close-requires-2-clause-near c =
    let h = c.requires.line_near in
    let w = hold c.requires.within tt in
    let last = rw (c.fresh_ends.ensures, c.start.ensures, planned c.args.line c.args.width c.args.offset w.is c.plan_of-plan.ensures) at c.last_ends-last.ensures in
    near-more (near-away h.start_near (away c.args.line c.args.width c.args.offset h c.requires.within last).right-away) (lit≤ tt)

pub returns : goal.returns
unfolding extents_of parallels_of
returns c =
    rw (c.close.ensures, c.close-2.ensures, c.last_ends-last.ensures, c.fresh_ends.ensures, c.start.ensures, planned c.args.line c.args.width c.args.offset (hold c.requires.within tt).is c.plan_of-plan.ensures)
