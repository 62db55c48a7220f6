use Rattle.std.proofs.Common.{◌≡◌, ◌∙◌, refl, sym, false, arith}
use Rattle.thick_segment.specs.Segments.{is_skeleton, cap_lines, drawn, rows_of, perimeter_of}
use Rattle.thick_segment.proofs.Drawn.{caps-most}
use Rattle.thick_segment.proofs.Placed.{placed-all}
use Rattle.thick_segment.proofs.inner.perimeter.Goals as goal

pub returns : goal.returns
unfolding perimeter_of drawn rows_of
returns c =
    let start = c.start_caps-first.result in
    let end = c.end_caps-last.result in
    let e = c.edges-e.result in
    let whole : is_skeleton c.args.segment ≡ false = sym c.is_skeleton.ensures ∙ c.if-is_skeleton.false in
    let all = placed-all 6 (cap_lines start) (cap_lines end) e.right e.left c.cap_count-after_start.ensures c.cap_count.ensures (omega (arith, caps-most start, caps-most end)) in
    rw (c.put_caps-2.ensures, c.put_caps.ensures, c.coordinates-2.ensures, c.coordinates-3.ensures)
    (all ∙ rw (c.start_caps-first.ensures, c.end_caps-last.ensures, c.edges-e.ensures, whole) refl)
