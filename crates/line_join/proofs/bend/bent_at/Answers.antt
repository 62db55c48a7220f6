use Rattle.std.proofs.Common.{sym, ◌∙◌}
use Rattle.line_join.specs.Join.{bent_at}
use Rattle.line_join.proofs.Room.{outer-near}
use Rattle.shapes.proofs.Widths.{thin-held}
use Rattle.line_join.proofs.bend.bent_at.Goals as goal

pub is_short-requires-clause-near_2 : goal.is_short-requires-clause-near_2
is_short-requires-clause-near_2 c = rw c.outer_corner-tip.ensures (outer-near c.args.side c.requires.corners_near)

pub returns-then-is_short : goal.returns-then-is_short
unfolding bent_at
returns-then-is_short c =
    let width = (thin-held c.requires.thin).is in
    let short = sym (rw (width, c.outer_corner-tip.ensures) at c.is_short.ensures) ∙ c.if-is_short.true in
    simp (c.same_corners.ensures, sym c.overlap.ensures ∙ c.if-overlap.false, short)

pub returns : goal.returns
unfolding bent_at
returns c =
    let width = (thin-held c.requires.thin).is in
    let short = sym (rw (width, c.outer_corner-tip.ensures) at c.is_short.ensures) ∙ c.if-is_short.false in
    simp (c.bevel.ensures, sym c.overlap.ensures ∙ c.if-overlap.false, short)
