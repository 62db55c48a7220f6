use Rattle.std.proofs.Common.{rules, ◌≡◌, sym, w64, to_z, of_z}
use mathlib.Core.Logic.{inl, inr}
use mir.Facts.{to_z-of_z}
use Rattle.whole.specs.Number.{lesser, greater}
use Rattle.whole.proofs.Tests.{lt_iff}
use Rattle.scanline.specs.Spans.{new_span}
use Rattle.thick_segment.specs.Segments.{top_of, bottom_of, drawn, perimeter_of, count_of, span_on}
use Rattle.thick_segment.proofs.Scanned.{met-rows, rows-near}
use Rattle.thick_segment.proofs.Drawn.{drawn-most, drawn-near, span-beside}
use Rattle.thick_segment.proofs.Extremes.{min-lesser, max-greater}
use Rattle.thick_segment.proofs.inner.span.Goals as goal
use Rattle.thick_segment.proofs.inner.span.Goals.{then-row-first-via-then-row-first, then-row-first-via-else-row-first+then-last-row}

pub returns-then-row-first : goal.returns-then-row-first
returns-then-row-first c =
    let s = c.args.segment in
    let row = to_z-of_z c.ranges.row in
    let first : to_z w64 (of_z w64 c.min-first.result) ≡ lesser (top_of s.start) (top_of s.end) =
    cc (
      to_z-of_z {w = w64} {z = c.min-first.result} (search rules),
      to_z-of_z {w = w64} {z = c.top.result} (search rules),
      to_z-of_z {w = w64} {z = c.top-2.result} (search rules),
      c.min-first.ensures.value,
      min-lesser c.top.result c.top-2.result,
    ) in
    let last : to_z w64 (of_z w64 c.max-last.result) ≡ greater (bottom_of s.start) (bottom_of s.end) =
    cc (
      to_z-of_z {w = w64} {z = c.max-last.result} (search rules),
      to_z-of_z {w = w64} {z = c.bottom.result} (search rules),
      to_z-of_z {w = w64} {z = c.bottom-2.result} (search rules),
      c.max-last.ensures.value,
      max-greater c.bottom.result c.bottom-2.result,
    ) in
    rw row (sym (span-beside s c.args.row (elim c.then-row-first.branch [
      | then-row-first-via-then-row-first w ↦ inl ((lt_iff _ _).0 (rw (row, first) at w.if-row-first.true))
      | then-row-first-via-else-row-first+then-last-row w ↦ inr ((lt_iff _ _).0 (rw (row, last) at w.if-last-row.true))
    ])))

pub scan-requires-clause-n_bound : goal.scan-requires-clause-n_bound
unfolding count_of
scan-requires-clause-n_bound c = rw c.perimeter_count.ensures (drawn-most c.args.segment)

pub scan-requires-clause-all_near : goal.scan-requires-clause-all_near
unfolding perimeter_of
scan-requires-clause-all_near c = let s = c.args.segment in rw c.perimeter.ensures (rows-near _ 6 (drawn s) (drawn-near s c.requires))

pub returns : goal.returns
unfolding span_on perimeter_of count_of
returns c = let s = c.args.segment in cc (met-rows 6 (new_span c.args.row) (drawn s) (drawn-most s), to_z-of_z c.ranges.row)
