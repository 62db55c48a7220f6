-- The Rust's `next` with W6: spans are gathered by `try_extend`; where that says no, what is gathered is handed out, and the other
-- span is gathered from then on; at the end `try_take` decides.
use Rattle.std.specs.Prelude.{Bool, true, false, cond, List, [], ◌∷◌, ℕ, ◌+◌, ℤ, pos, Option, Some, None, Result, Ok, Err}
use Rattle.shapes.specs.declared.Span.{Span}
use Rattle.shapes.specs.Spans.{is_empty}
use Rattle.shapes.specs.declared.refusals.Refusal.{Refusal}
use Rattle.shapes.specs.Refusals.{number_of, bend_of}
use Rattle.scanline.specs.Spans.{new_span, try_extended, try_taken}
use Rattle.scanline_intersections.specs.declared.Intersections.{Intersections}
use Rattle.scanline_intersections.specs.Segments.{spans_from}

-- whether there is one more merged span, that span (else 0, 0 to 0), and the walk after it; or the refusal, with the position that comes
-- with 5
pub record Merged : Type 0 where
  pub refusal : ℕ
  pub bend : ℕ
  pub found : Bool
  pub span : Span
  pub walk : Intersections

-- of an answer and the walk after it
abbrev pub merged_values : Result (Option Span) Refusal → Intersections → Merged
merged_values (Ok (Some s)) walk = record { refusal = 0; bend = 0; found = true; span = s; walk = walk }
merged_values (Ok None) walk = record { refusal = 0; bend = 0; found = false; span = new_span (pos 0); walk = walk }
merged_values (Err r) walk = record { refusal = number_of r; bend = bend_of r; found = false; span = new_span (pos 0); walk = walk }

abbrev pub walk_of : ℕ → ℤ → Span → Intersections
walk_of place w s = record { place = place; width = w; span = s }

-- s is gathered, and the spans from the place on are left
unfoldable pub merged_next : ℕ → ℤ → Span → List Span → Merged
merged_next k w s [] = record { refusal = 0; bend = 0; found = (try_taken s).taken; span = (try_taken s).span; walk = walk_of k w (try_taken s).rest }
merged_next k w s (o ∷ os) =
    cond (try_extended s o).joined (merged_next (k + 1) w (try_extended s o).span os)
    (record { refusal = 0; bend = 0; found = true; span = s; walk = walk_of (k + 1) w o })

unfoldable pub next_merged : List ℤ → Intersections → Merged
next_merged cs walk = merged_next walk.place walk.width walk.span (spans_from cs walk.width walk.span.row walk.place)

-- all that is handed out, one after another
unfoldable pub merged_all : Span → List Span → List Span
merged_all s [] = cond (is_empty s) [] (s ∷ [])
merged_all s (o ∷ os) = cond (try_extended s o).joined (merged_all (try_extended s o).span os) (s ∷ merged_all o os)
