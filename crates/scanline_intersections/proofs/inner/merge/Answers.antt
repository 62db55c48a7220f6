use Rattle.std.proofs.Common.{◌≡◌, ◌<◌, ◌≤◌, arith, rules, refl, sym, ◌∙◌, List, ℕ, ℤ}
use mir.Syntax.{w64}
use mir.Val.{to_z, of_z}
use mir.Facts.{to_z-of_z}
use Rattle.shapes.proofs.Widths.{thin-held}
use Rattle.shapes.specs.Strokes.{Thin}
use Rattle.coordinates.specs.Points.{point_count, segments_of}
use Rattle.route_joins.specs.Joins.{segment_count, open_count}
use Rattle.scanline_intersections.specs.Merging.{next_merged}
use Rattle.scanline_intersections.proofs.Entries.{handed}
use Rattle.scanline_intersections.proofs.Spans.{segment-near, merged-end, turn-on, turn-row, turn-out}
use Rattle.scanline_intersections.proofs.inner.merge.Goals as goal

-- a width that is the walk's, in its bits
held : {v w : ℤ} → v ≡ w → Thin w → to_z w64 (of_z w64 v) ≡ w
held e h = rw e (thin-held h).is

several : {k : ℕ} (cs : List ℤ) → k < open_count cs → 2 ≤ point_count cs
unfolding segment_count segments_of
several cs h = omega arith

pub loop-place-init : goal.loop-place-init
unfolding next_merged
loop-place-init c = record { stands = refl; width = refl; row = refl; left = refl }

pub segment_of-segment-requires-clause-drawable : goal.segment_of-segment-requires-clause-drawable
segment_of-segment-requires-clause-drawable c =
    rw (held c.loop-place.invariant.width c.requires.thin)
    (record {
      near = c.requires.all_within;
      thin = c.requires.thin;
      several = several {k = c.loop-place.place} c.args.coordinates.now (omega (arith, c.segment_count-place-end.ensures));
    })

pub span-other-requires : goal.span-other-requires
span-other-requires c =
    rw (c.segment_of-segment.ensures, held c.loop-place.invariant.width c.requires.thin)
    (segment-near c.args.coordinates.now c.args.walk.now.width c.requires.width_value (omega (arith, c.segment_count-place-end.ensures)))

pub returns-then-not-try_extend : goal.returns-then-not-try_extend
returns-then-not-try_extend c =
    let a = c.args in
    let i = c.loop-place.invariant in
    let here = rw (c.segment_of-segment.ensures, held i.width c.requires.thin, i.row, to_z-of_z {w = w64} {z = a.walk.now.span.row} (search rules)) at c.span-other.ensures in
    rw (i.width, c.replace.ensures.value, c.replace.ensures.after)
    (turn-out a.coordinates.now a.walk.now.width a.walk.now.span.row c.loop-place.place c.loop-place.walk.span (omega (arith, c.segment_count-place-end.ensures)) here c.try_extend.ensures i.left
    c.if-not-try_extend.true)

pub loop-place-preserved : goal.loop-place-preserved
loop-place-preserved c =
    let a = c.args in
    let i = c.loop-place.invariant in
    let here = rw (c.segment_of-segment.ensures, held i.width c.requires.thin, i.row, to_z-of_z {w = w64} {z = a.walk.now.span.row} (search rules)) at c.span-other.ensures in
    record {
      stands = refl;
      width = i.width;
      row = turn-row a.coordinates.now a.walk.now.width a.walk.now.span.row c.loop-place.place c.loop-place.walk.span (omega (arith, c.segment_count-place-end.ensures)) here c.try_extend.ensures i.left ∙ i.row;
      left = turn-on a.coordinates.now a.walk.now.width a.walk.now.span.row c.loop-place.place c.loop-place.walk.span (omega (arith, c.segment_count-place-end.ensures)) here c.try_extend.ensures i.left
          c.if-not-try_extend.false;
    }

pub returns : goal.returns
returns c =
    let a = c.args in
    let i = c.loop-place.invariant in
    rw (i.stands, i.width)
    (handed c.try_take.result c.try_take.new.span c.loop-place.walk.span c.loop-place.place a.walk.now.width c.try_take.ensures
    ∙ sym (merged-end a.coordinates.now a.walk.now.width a.walk.now.span.row c.loop-place.place c.loop-place.walk.span (omega (arith, c.segment_count-place-end.ensures)))
    ∙ i.left)
