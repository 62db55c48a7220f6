-- The last column of a span that is not empty lies between its start and its end, so that the machine holds it.
use mathlib.Core.Path.{◌≡◌, sym, ap, ◌∙◌}
use mathlib.Core.Bool.{true, false}
use borrow.Author.Rules.{rules}
use lib.IntN.{pos, ◌-ℤ◌}
use mir.Syntax.{w64}
use mir.Val.{SFits}
use mir.Facts.{to_z-of_z}
use Rattle.whole.specs.Number.{is_within}
use Rattle.whole.proofs.Linear.{diff}
use Rattle.whole.proofs.Orders.{ordered}
use Rattle.whole.proofs.Spans.{fits-between}
use Rattle.shapes.specs.declared.Span.{Span}
use Rattle.shapes.specs.Spans.{is_empty, is_span_sound}
use Rattle.shapes.proofs.spans.is_sound.Goals as goal

last_fits : (s : Span) → SFits w64 s.start → SFits w64 s.end → is_empty s ≡ false → SFits w64 (s.end -ℤ pos 1)
unfolding is_empty
last_fits s f g some = let d = diff s.end (pos 1) in fits-between {x = s.start} {y = s.end} (omega ordered) (omega ordered) f g

pub overflow_sub-span : goal.overflow_sub-span
overflow_sub-span c =
    rw (to_z-of_z {w = w64} {z = c.args.span.end} (search rules)) (last_fits c.args.span (search rules) (search rules) (sym c.is_empty.ensures ∙ c.if-is_empty.false))

pub returns-then-within : goal.returns-then-within
unfolding is_span_sound
returns-then-within c =
    let some = sym c.is_empty.ensures ∙ c.if-is_empty.false in
    let s = c.args.span in
    let first : is_within c.args.limit s.start ≡ true = ap (is_within c.args.limit) (sym (to_z-of_z {w = w64} {z = s.start} (search rules))) ∙ sym c.within.ensures ∙ c.if-within.true in
    let end = to_z-of_z {w = w64} {z = s.end} (search rules) in
    simp (some, first, end, to_z-of_z (last_fits s (search rules) (search rules) some), c.within-then-within.ensures)
