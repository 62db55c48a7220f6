-- 01, thick_segment_iter.rs: n points, n - 1 segments, offset None always.
use Rattle.std.specs.Prelude.{false, cond, List, ℕ, eqb, ℤ, pos, Result, Ok, Err}
use Rattle.shapes.specs.declared.refusals.Refusal.{Refusal}
use Rattle.shapes.specs.Refusals.{number_of}
use Rattle.shapes.specs.declared.limits.Limits.{Limits}
use Rattle.shapes.specs.declared.Offset.TheVariants.{None}
use Rattle.coordinates.specs.Refusal.{route_refusal}
use Rattle.route_joins.specs.Steps.{StepValues, route_step, place_from}
use Rattle.thick_segment_iter.specs.declared.Walk.{Walk}

-- ---- a start, by its number: a walk at its first segment, or a refusal with zeros

pub record Started : Type 0 where
  pub refusal : ℕ
  pub walk : Walk

abbrev pub start_values : Result Walk Refusal → Started
start_values (Ok walk) = record { refusal = 0; walk = walk }
start_values (Err r) = record { refusal = number_of r; walk = record { place = 0; width = pos 0 } }

-- the list's and the width's refusal, k being the points' limit, with 0 for the rest; else a walk at the first segment
unfoldable pub open_start : ℕ → List ℤ → ℤ → Started
open_start k cs w =
    let n = route_refusal k false cs w in
    cond (eqb n 0) (record { refusal = 0; walk = record { place = 0; width = w } }) (record { refusal = n; walk = record { place = 0; width = pos 0 } })

unfoldable pub open_step : Limits → List ℤ → Walk → StepValues
open_step limits cs walk = route_step limits false cs walk.width None walk.place

unfoldable pub after_open : Limits → List ℤ → Walk → Walk
after_open limits cs walk = record { place = place_from (open_step limits cs walk) walk.place; width = walk.width }
