use lib.Dec.{lit<}
use Rattle.std.proofs.Common.{◌∙◌}
use Rattle.parallels.proofs.Steps.{passed-once, met-here, passed_over}
use Rattle.parallels.proofs.Room.{ready-turn}
use Rattle.parallels.proofs.inner.next_parallel.Goals as goal

pub returns : goal.returns
returns c =
    let met = rw c.turn-turned.ensures at c.if-turned.true in
    rw c.turn-turned.ensures (met-here c.args.plan.now c.args.side c.loop-side.from met ∙ c.loop-side.invariant.same)

pub loop-side-smaller : goal.loop-side-smaller
loop-side-smaller c =
    let unmet = rw c.turn-turned.ensures at c.if-turned.false in
    rw (c.turn-turned.ensures, passed-once c.requires.sound c.args.side c.loop-side.invariant.ready.steady unmet, unmet) (lit< tt)

pub loop-side-preserved : goal.loop-side-preserved
loop-side-preserved c =
    let i = c.loop-side.invariant in
    let unmet = rw c.turn-turned.ensures at c.if-turned.false in
    rw c.turn-turned.ensures (record { ready = ready-turn c.requires.sound i.ready unmet; same = passed_over c.requires.sound c.args.side i.ready.steady unmet ∙ i.same })
