use Rattle.std.proofs.Common.{◌≡◌, refl, true, false, sym, ◌∙◌}
use mir.Facts.{to_z-of_z}
use Rattle.whole.specs.Number.{is_within}
use Rattle.shapes.specs.Limits.{corner_limit}
use Rattle.thick_segment.specs.Answers.{segment_refusal, span_answer}
use Rattle.thick_segment.proofs.Refused.{let-through, through-near, through-room}
use Rattle.thick_segment.proofs.Named.{near-bend}
use Rattle.thick_segment.proofs.span.Goals as goal

pub returns-then-not-within : goal.returns-then-not-within
unfolding span_answer segment_refusal
returns-then-not-within c =
    let s = c.args.segment in
    let e = c.in_ok-check_near.ensures in
    let row = to_z-of_z c.ranges.row in
    let beyond : is_within corner_limit c.args.row ≡ false = rw row at (sym c.within.ensures ∙ c.if-not-within.true) in
    rw (let-through s _ _ e, beyond, near-bend corner_limit s (through-near s _ _ e)) refl

pub span-requires : goal.span-requires
span-requires c = through-room c.args.segment _ _ c.in_ok-check_near.ensures

pub returns : goal.returns
unfolding span_answer segment_refusal
returns c =
    let s = c.args.segment in
    let row = to_z-of_z c.ranges.row in
    let inside : is_within corner_limit c.args.row ≡ true = rw row at (sym c.within.ensures ∙ c.if-not-within.false) in
    rw (let-through s _ _ c.in_ok-check_near.ensures, inside, c.span.ensures, row) refl
