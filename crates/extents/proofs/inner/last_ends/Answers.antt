use Rattle.std.proofs.Common.{sym, ◌∙◌}
use Rattle.parallels.proofs.Room.{begun-next, begun-less}
use Rattle.extents.proofs.Laws.{lasts-end, lasts-turn}
use Rattle.extents.proofs.inner.last_ends.Goals as goal

pub loop-state-smaller : goal.loop-state-smaller
loop-state-smaller c =
    let follows = sym c.is_done.ensures ∙ c.loop-state-test.true in
    rw c.next.ensures.after (begun-less c.requires.sound c.loop-state.invariant.begun follows)

pub loop-state-preserved : goal.loop-state-preserved
loop-state-preserved c =
    let i = c.loop-state.invariant in
    let follows = sym c.is_done.ensures ∙ c.loop-state-test.true in
    rw (c.see.ensures, c.next.ensures.parallel, c.next.ensures.after)
    (record { begun = begun-next c.requires.sound i.begun follows; same = sym (lasts-turn c.loop-state.ends c.requires.sound i.begun follows) ∙ i.same })

pub returns : goal.returns
returns c =
    sym (lasts-end c.args.plan.now c.loop-state.state c.loop-state.ends (sym c.is_done.ensures ∙ c.loop-state-test.false)) ∙ c.loop-state.invariant.same
