use Rattle.std.proofs.Common.{true, false, ◌≡◌, sym, ◌∙◌}
use Rattle.whole.proofs.Machine.{hold}
use Rattle.shapes.specs.Shape.{same_point}
use Rattle.shapes.proofs.Laws.{near-delta}
use Rattle.parallels.proofs.Room.{equal-points}
use Rattle.parallels.specs.Parallels.{plan_of, aimed}
use Rattle.parallels.proofs.inner.plan_of.Goals as goal

pub returns-then-eq : goal.returns-then-eq
unfolding plan_of aimed
returns-then-eq c =
    let same : same_point c.args.line.start c.args.line.end ≡ true = sym (equal-points c.args.line.start c.args.line.end) ∙ (sym c.eq.ensures ∙ c.if-eq.true) in
    let w = hold c.requires.within tt in
    rw (same, c.plan_along.ensures, w.is)

pub plan_along-requires-2-clause-near : goal.plan_along-requires-2-clause-near
plan_along-requires-2-clause-near c = rw c.delta.ensures (near-delta c.requires.line_near)

pub returns : goal.returns
unfolding plan_of aimed
returns c =
    let same : same_point c.args.line.start c.args.line.end ≡ false = sym (equal-points c.args.line.start c.args.line.end) ∙ (sym c.eq.ensures ∙ c.if-eq.false) in
    let w = hold c.requires.within tt in
    rw (same, c.plan_along-2.ensures, w.is, c.delta.ensures)
