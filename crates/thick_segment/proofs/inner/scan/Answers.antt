use Rattle.std.proofs.Common.{◌≡◌, length, sym, rules, arith}
use Rattle.thick_segment.proofs.Scanned.{met-more}
use Rattle.thick_segment.proofs.inner.scan.Goals as goal

pub loop-i-preserved : goal.loop-i-preserved
loop-i-preserved c =
    let six : length c.args.lines.now ≡ 6 = search rules in
    let more = met-more c.args.span c.args.lines.now c.loop-i.i (omega arith) in
    rw (c.meet-met.ensures, c.line_at.ensures, c.loop-i.invariant) (sym more)
