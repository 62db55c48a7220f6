use Rattle.std.proofs.Common.{arith, sym, ◌∙◌}
use mir.Facts.{to_z-of_z}
use Rattle.std.proofs.lemmas.Result.{err_from_is_err_and}
use Rattle.coordinates.proofs.Laws.{accepted-exactly}
use Rattle.route_joins.proofs.Near.{accepted-drawable, drawable-back}
use Rattle.route_joins.proofs.Steps.{at-refused, at_end, at-corner, at-segment}
use Rattle.route_joins.proofs.inner.answer_at.Goals as goal

pub returns-in_err-check : goal.returns-in_err-check
returns-in_err-check c =
    let a = c.args in
    let p = err_from_is_err_and c.from_residual.result c.from_residual.ensures.1 in
    rw (p.1, p.2) (at-refused a.limits a.closed a.coordinates.now a.width a.offset a.place _ (rw (to_z-of_z c.ranges.width) at c.in_err-check.ensures.number) c.in_err-check.ensures.bend)

pub returns-then-segment_count-place : goal.returns-then-segment_count-place
returns-then-segment_count-place c =
    let a = c.args in
    at_end a.limits a.closed a.coordinates.now a.width a.offset a.place (rw (to_z-of_z c.ranges.width) at c.in_ok-check.ensures.number) (omega (arith, c.segment_count.ensures))

pub segment_of-segment-requires-clause-drawable : goal.segment_of-segment-requires-clause-drawable
segment_of-segment-requires-clause-drawable c =
    let a = c.args in
    let accepted = (accepted-exactly a.limits.point a.closed a.coordinates.now a.width).0 (sym (rw (to_z-of_z c.ranges.width) at c.in_ok-check.ensures.number)) in
    drawable-back (accepted-drawable {i = a.place} c.requires.point_room accepted (omega (arith, c.segment_count.ensures)))

pub returns-then-not-is_segment_near : goal.returns-then-not-is_segment_near
returns-then-not-is_segment_near c =
    let a = c.args in
    at-corner a.limits a.closed a.coordinates.now a.width a.offset a.place (rw (to_z-of_z c.ranges.width) at c.in_ok-check.ensures.number) (omega (arith, c.segment_count.ensures))
    (rw (to_z-of_z c.ranges.width) at c.segment_of-segment.ensures) c.far_bend.ensures (sym c.is_segment_near.ensures ∙ c.if-not-is_segment_near.true)

pub returns : goal.returns
returns c =
    let a = c.args in
    at-segment a.limits a.closed a.coordinates.now a.width a.offset a.place (rw (to_z-of_z c.ranges.width) at c.in_ok-check.ensures.number) (omega (arith, c.segment_count.ensures))
    (rw (to_z-of_z c.ranges.width) at c.segment_of-segment.ensures) (sym c.is_segment_near.ensures ∙ c.if-not-is_segment_near.false)
