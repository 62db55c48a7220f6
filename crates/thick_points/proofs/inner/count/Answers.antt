use Rattle.std.proofs.Common.{sym, ap, ◌∙◌, length, arith}
use Rattle.parallels.proofs.Room.{begun-next, begun-less}
use Rattle.thick_points.proofs.Lists.{told-few, told-length, told-end}
use Rattle.thick_points.proofs.inner.count.Goals as goal

pub overflow_add-count : goal.overflow_add-count
overflow_add-count c =
    let follows = sym c.is_done.ensures ∙ c.loop-telling-test.true in
    let more = told-length c.requires.sound c.loop-telling.invariant.begun c.args.telling c.args.n follows in
    record { fits = omega (arith, told-few c.requires.sound c.requires.begun c.args.telling c.args.n c.requires.le_n.1, rw (← c.next.ensures.parallel, ← c.size-count.ensures) at more) }

pub loop-telling-smaller : goal.loop-telling-smaller
loop-telling-smaller c =
    let follows = sym c.is_done.ensures ∙ c.loop-telling-test.true in
    rw c.next.ensures.after (begun-less c.requires.sound c.loop-telling.invariant.begun follows)

pub loop-telling-preserved : goal.loop-telling-preserved
loop-telling-preserved c =
    let i = c.loop-telling.invariant in
    let follows = sym c.is_done.ensures ∙ c.loop-telling-test.true in
    let more = told-length c.requires.sound i.begun c.args.telling c.args.n follows in
    rw (c.size-count.ensures, c.next.ensures.parallel, c.next.ensures.after) (record { begun = begun-next c.requires.sound i.begun follows; same = omega (arith, i.same, more) })

pub returns : goal.returns
returns c =
    let a = c.args in
    let l = c.loop-telling in
    let none = ap length (told-end a.telling a.n a.plan.now.parallel a.plan.now l.state (sym c.is_done.ensures ∙ c.loop-telling-test.false)) in
    omega (arith, l.invariant.same, none)
