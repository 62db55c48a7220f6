-- The closed walk, segment by segment. Refusals are those of the list and the width, and then 5. Assumes nothing.
use mathlib.Core.Path.{◌≡◌, refl, ap}
use mathlib.Core.Logic.{◌↔◌, ◌≢◌}
use mathlib.Core.Bool.{true}
use mathlib.Core.List.{List}
use Prim.Native.Nat.{ℕ, ◌<◌}
use native.Mathlib.Omega.{arith}
use borrow.Author.Tests.{eq-eqb, ne_eqb}
use lib.Dec.{eqb}
use lib.IntN.{ℤ, pos}
use Rattle.std.specs.Prelude.{Ok, Err}
use Rattle.whole.proofs.Tests.{Chosen, chosen, eqb-iff}
use Rattle.shapes.specs.declared.refusals.Refusal.{Refusal}
use Rattle.shapes.specs.Refusals.{number_of}
use Rattle.shapes.proofs.Numbers.{number-above}
use Rattle.shapes.specs.declared.limits.Limits.{Limits}
use Rattle.shapes.specs.declared.Offset.{Offset}
use Rattle.shapes.specs.declared.Offset.TheVariants.{None}
use Rattle.line_join.specs.Words.{BendTold}
use Rattle.thick_segment.specs.Segments.{SegmentNear}
use Rattle.thick_segment.specs.Words.{joins_in}
use Rattle.coordinates.specs.Points.{point_count, place_after}
use Rattle.coordinates.specs.Refusal.{route_refusal, Accepted}
use Rattle.coordinates.proofs.Laws.{accepted-exactly}
use Rattle.route_joins.specs.Joins.{end_place, closed_segment, closed_count}
use Rattle.route_joins.specs.Steps.{StepTold, SegmentBySegment}
use Rattle.route_joins.proofs.Walks.{place_kept, route-told, route-in-turn, route-five, route-other, route-step-bend, route-step-positions, route-refused-none, refusal-told}
use Rattle.closed_thick_segment_iter.specs.declared.Walk.{Walk}
use Rattle.closed_thick_segment_iter.specs.Walks.{Started, start_values, closed_start, closed_step, after_closed}

module _ (limits : Limits) (cs : List ℤ) (w : ℤ) (o : Offset) (accepted : Accepted limits.point true cs w) where
  abbrev at : ℕ → Walk
  at p = record { place = p; width = w; offset = o }

  begun : (closed_start limits.point cs w o).walk ≡ at 0
  unfolding closed_start
  begun = rw (eq-eqb (route_refusal limits.point true cs w) 0 ((accepted-exactly limits.point true cs w).1 accepted))

  pub segment-by-segment : SegmentBySegment limits.corner (closed_step limits cs) (after_closed limits cs) (closed_start limits.point cs w o).walk (closed_count cs) (closed_segment cs w o)
  unfolding closed_step after_closed
  segment-by-segment = route-in-turn limits true cs w o at accepted (λ p. refl) (λ p. refl) begun

-- ---- refusals of a step: 5 exactly when the list and the width are not refused, and a join of the segment at its place has a corner beyond
-- the limit; any other number exactly when they are refused with it

module _ (limits : Limits) (cs : List ℤ) (walk : Walk) where
  pub step-five : ((closed_step limits cs walk).refusal ≡ 5)
      ↔ ((route_refusal limits.point true cs walk.width ≡ 0) × ((walk.place < closed_count cs) × (SegmentNear limits.corner (closed_segment cs walk.width walk.offset walk.place) → ⊥)))
  unfolding closed_step
  step-five = route-five limits true cs walk.width walk.offset walk.place

  pub step_other : {n : ℕ} → 0 < n → (n ≡ 5 → ⊥) → ((closed_step limits cs walk).refusal ≡ n) ↔ (route_refusal limits.point true cs walk.width ≡ n)
  unfolding closed_step
  step_other = route-other limits true cs walk.width walk.offset walk.place

  -- with 5 comes the position of the first join of the segment that has such a corner
  pub step-bend : let v = closed_step limits cs walk in
      BendTold ((route_refusal limits.point true cs walk.width ≡ 0) × (walk.place < closed_count cs)) limits.corner (joins_in (closed_segment cs walk.width walk.offset walk.place)) 2 v.refusal v.bend
  unfolding closed_step
  step-bend = route-step-bend limits true cs walk.width walk.offset walk.place

  -- the joins that a step hands out have the segment's place and the next one for their positions; of the closing segment that is 0
  pub step-positions : let v = closed_step limits cs walk in v.found ≡ 1 → (v.start.position ≡ walk.place) × (v.end.position ≡ place_after (point_count cs) walk.place)
  unfolding closed_step end_place
  step-positions = route-step-positions limits true cs walk.width walk.offset walk.place

  -- what a step answers, wherever the walk stands and whatever list is handed to it
  pub step-told : StepTold limits.corner (route_refusal limits.point true cs walk.width) (closed_count cs) (closed_segment cs walk.width walk.offset) walk.place (closed_step limits cs walk)
  unfolding closed_step
  step-told = route-told limits true cs walk.width walk.offset walk.place

  -- where no segment is answered, refused or at the end, the walk is as it was
  pub step_kept : (closed_step limits cs walk).found ≢ 1 → after_closed limits cs walk ≡ walk
  unfolding after_closed
  step_kept other = rw (place_kept (closed_step limits cs walk) walk.place other)

  -- so a refused step, asked again, answers the same: with 5 the same bend
  none-drawn : (closed_step limits cs walk).refusal ≢ 0 → (closed_step limits cs walk).found ≢ 1
  unfolding closed_step
  none-drawn = route-refused-none limits true cs walk.width walk.offset walk.place

  pub step-again : (closed_step limits cs walk).refusal ≢ 0 → closed_step limits cs (after_closed limits cs walk) ≡ closed_step limits cs walk
  step-again some = ap (closed_step limits cs) (step_kept (none-drawn some))

-- ---- a start is refused as the list and the width are; refused, its walk is all 0

module _ (k : ℕ) (cs : List ℤ) (w : ℤ) (o : Offset) where
  pub start-refusal : (closed_start k cs w o).refusal ≡ route_refusal k true cs w
  unfolding closed_start
  start-refusal = refusal-told {A = Started} (λ s. s.refusal) (route_refusal k true cs w) refl refl

  pub start-chosen : Chosen (route_refusal k true cs w ≡ 0) (closed_start k cs w o)
      (record { refusal = 0; walk = record { place = 0; width = w; offset = o } })
      (record { refusal = route_refusal k true cs w; walk = record { place = 0; width = pos 0; offset = None } })
  unfolding closed_start
  start-chosen = chosen (eqb (route_refusal k true cs w) 0) _ _ (eqb-iff (route_refusal k true cs w) 0)

-- ---- a start as the code comes to it

module _ (k : ℕ) (cs : List ℤ) (w : ℤ) (o : Offset) where
  pub start-refused : (r : Refusal) → number_of r ≡ route_refusal k true cs w → start_values (Err r) ≡ closed_start k cs w o
  unfolding closed_start
  start-refused r n = rw (← n, ne_eqb (number_of r) 0 (λ e. omega (arith, number-above r, e)))

  pub start-begun : {v : ℤ} → v ≡ w → 0 ≡ route_refusal k true cs w → start_values (Ok (record { place = 0; width = v; offset = o })) ≡ closed_start k cs w o
  unfolding closed_start
  start-begun e n = rw (← n, e)

pub ruleset begins = (start-refused, start-begun)
