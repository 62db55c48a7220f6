use lib.Seq.{sets}
use Rattle.std.proofs.Common.{sym, ap, ◌∙◌, arith}
use Rattle.parallels.proofs.Room.{begun-next, begun-less}
use Rattle.thick_points.proofs.Lists.{told-length, told-stored, told-end, walk-yield}
use Rattle.thick_points.proofs.inner.put_all.Goals as goal

pub put-requires-clause-walk : goal.put-requires-clause-walk
put-requires-clause-walk c =
    let follows = sym c.is_done.ensures ∙ c.loop-telling-test.true in
    rw c.next-parallel.ensures.parallel (walk-yield c.args.n c.requires.sound c.loop-telling.invariant.begun follows c.requires.le_n.1)

pub put-requires-clause-extra_in_bounds : goal.put-requires-clause-extra_in_bounds
put-requires-clause-extra_in_bounds c =
    let i = c.loop-telling.invariant in
    let follows = sym c.is_done.ensures ∙ c.loop-telling-test.true in
    let more = told-length c.requires.sound i.begun c.args.telling c.args.n follows in
    rw c.next-parallel.ensures.parallel (omega (arith, i.room, more))

pub loop-telling-smaller : goal.loop-telling-smaller
loop-telling-smaller c =
    let follows = sym c.is_done.ensures ∙ c.loop-telling-test.true in
    rw c.next-parallel.ensures.after (begun-less c.requires.sound c.loop-telling.invariant.begun follows)

pub loop-telling-preserved : goal.loop-telling-preserved
loop-telling-preserved c =
    let l = c.loop-telling in
    let i = l.invariant in
    let follows = sym c.is_done.ensures ∙ c.loop-telling-test.true in
    let more = told-length c.requires.sound i.begun c.args.telling c.args.n follows in
    record {
      begun = rw c.next-parallel.ensures.after (begun-next c.requires.sound i.begun follows);
      room = rw (c.put.auto.out, c.size-at.ensures, c.next-parallel.ensures.parallel, c.next-parallel.ensures.after) (omega (arith, i.room, more));
      same =
          rw (c.put.ensures, c.size-at.ensures, c.next-parallel.ensures.parallel, c.next-parallel.ensures.after)
          (sym (told-stored c.requires.sound i.begun c.args.telling c.args.n l.out l.at follows) ∙ i.same);
    }

pub returns : goal.returns
returns c =
    let a = c.args in
    let l = c.loop-telling in
    let none = told-end a.telling a.n a.plan.now.parallel a.plan.now l.state (sym c.is_done.ensures ∙ c.loop-telling-test.false) in
    sym (ap (sets l.out l.at) none) ∙ l.invariant.same
