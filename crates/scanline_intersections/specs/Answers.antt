-- The entries' answers, for any limits. A refusal has 0 in every other field, but with 5 comes a position, and the walk handed in comes back
-- as it was.
use Rattle.std.specs.Prelude.{false, cond, List, ℕ, eqb, ℤ, pos, Result, Ok, Err}
use Rattle.whole.specs.Number.{is_within}
use Rattle.shapes.specs.declared.limits.Limits.{Limits}
use Rattle.shapes.specs.declared.Offset.TheVariants.{None}
use Rattle.shapes.specs.declared.refusals.Refusal.{Refusal}
use Rattle.shapes.specs.Refusals.{corner_refused, row_refused, or_else, number_of}
use Rattle.scanline.specs.Spans.{new_span}
use Rattle.scanline.specs.Answers.{span_refusal}
use Rattle.coordinates.specs.Refusal.{route_refusal}
use Rattle.route_joins.specs.Joins.{are_joins_near, route_bend}
use Rattle.route_joins.specs.Steps.{StepValues, route_step, place_from}
use Rattle.scanline_intersections.specs.declared.Intersections.{Intersections}
use Rattle.scanline_intersections.specs.Merging.{Merged, walk_of, next_merged}

-- ---- start: what the list and the width are refused with, then 6, a row outside

unfoldable pub start_refusal : Limits → List ℤ → ℤ → ℤ → ℕ
start_refusal limits cs w row = or_else (route_refusal limits.point false cs w) (cond (is_within limits.corner row) 0 row_refused)

-- a walk at its first segment, or a refusal with zeros
pub record Started : Type 0 where
  pub refusal : ℕ
  pub walk : Intersections

abbrev pub start_values : Result Intersections Refusal → Started
start_values (Ok walk) = record { refusal = 0; walk = walk }
start_values (Err r) = record { refusal = number_of r; walk = walk_of 0 (pos 0) (new_span (pos 0)) }

unfoldable pub polyline_start : Limits → List ℤ → ℤ → ℤ → Started
polyline_start limits cs w row =
    let n = start_refusal limits cs w row in
    cond (eqb n 0) (record { refusal = 0; walk = walk_of 0 w (new_span row) }) (record { refusal = n; walk = walk_of 0 (pos 0) (new_span (pos 0)) })

-- ---- next_segment: then 5, on the two joins of the segment

unfoldable pub polyline_step : Limits → List ℤ → Intersections → StepValues
polyline_step limits cs walk = route_step limits false cs walk.width None walk.place

-- one place further where a segment was answered, else as it was
unfoldable pub after_polyline : Limits → List ℤ → Intersections → Intersections
after_polyline limits cs walk = walk_of (place_from (polyline_step limits cs walk) walk.place) walk.width walk.span

-- ---- next: then 5, on all joins of the route; then 6 and 7, of the walk's span

unfoldable pub next_refusal : Limits → List ℤ → Intersections → ℕ
next_refusal limits cs walk =
    or_else (route_refusal limits.point false cs walk.width)
    (cond (are_joins_near limits.corner false cs walk.width) (span_refusal limits.corner walk.span) corner_refused)

-- with the position that comes with 5
unfoldable pub next_answer : Limits → List ℤ → Intersections → Merged
next_answer limits cs walk =
    let n = next_refusal limits cs walk in
    cond (eqb n 0) (next_merged cs walk) (record { refusal = n; bend = route_bend limits false cs walk.width; found = false; span = new_span (pos 0); walk = walk })
