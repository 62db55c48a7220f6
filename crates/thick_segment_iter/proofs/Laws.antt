-- The open walk, segment by segment. Refusals are those of the list and the width, and then 5. Assumes nothing.
use mathlib.Core.Path.{◌≡◌, refl, ap}
use mathlib.Core.Logic.{◌↔◌, ◌≢◌}
use mathlib.Core.Bool.{false}
use mathlib.Core.List.{List}
use Prim.Native.Nat.{ℕ, ◌+◌, ◌<◌}
use native.Mathlib.Omega.{arith}
use borrow.Author.Tests.{eq-eqb, ne_eqb}
use lib.Dec.{eqb}
use lib.IntN.{ℤ, pos}
use Rattle.std.specs.Prelude.{Ok, Err}
use Rattle.whole.proofs.Tests.{Chosen, chosen, eqb-iff}
use Rattle.shapes.specs.declared.refusals.Refusal.{Refusal}
use Rattle.shapes.specs.Refusals.{number_of}
use Rattle.shapes.proofs.Numbers.{number-above}
use Rattle.shapes.specs.declared.limits.Limits.{Limits}
use Rattle.shapes.specs.declared.Offset.TheVariants.{None}
use Rattle.line_join.specs.Words.{BendTold}
use Rattle.thick_segment.specs.Segments.{SegmentNear}
use Rattle.thick_segment.specs.Words.{joins_in}
use Rattle.coordinates.specs.Refusal.{route_refusal, Accepted}
use Rattle.coordinates.proofs.Laws.{accepted-exactly}
use Rattle.route_joins.specs.Joins.{end_place, open_segment, open_count}
use Rattle.route_joins.specs.Steps.{StepTold, SegmentBySegment}
use Rattle.route_joins.proofs.Walks.{place_kept, route-told, route-in-turn, route-five, route-other, route-step-bend, route-step-positions, route-refused-none, refusal-told}
use Rattle.thick_segment_iter.specs.declared.Walk.{Walk}
use Rattle.thick_segment_iter.specs.Walks.{Started, start_values, open_start, open_step, after_open}

module _ (limits : Limits) (cs : List ℤ) (w : ℤ) (accepted : Accepted limits.point false cs w) where
  abbrev at : ℕ → Walk
  at p = record { place = p; width = w }

  begun : (open_start limits.point cs w).walk ≡ at 0
  unfolding open_start
  begun = rw (eq-eqb (route_refusal limits.point false cs w) 0 ((accepted-exactly limits.point false cs w).1 accepted))

  pub segment-by-segment : SegmentBySegment limits.corner (open_step limits cs) (after_open limits cs) (open_start limits.point cs w).walk (open_count cs) (open_segment cs w)
  unfolding open_step after_open
  segment-by-segment = route-in-turn limits false cs w None at accepted (λ p. refl) (λ p. refl) begun

-- ---- refusals of a step: 5 exactly when the list and the width are not refused, and a join of the segment at its place has a corner beyond
-- the limit; any other number exactly when they are refused with it

module _ (limits : Limits) (cs : List ℤ) (walk : Walk) where
  pub step-five : ((open_step limits cs walk).refusal ≡ 5)
      ↔ ((route_refusal limits.point false cs walk.width ≡ 0) × ((walk.place < open_count cs) × (SegmentNear limits.corner (open_segment cs walk.width walk.place) → ⊥)))
  unfolding open_step
  step-five = route-five limits false cs walk.width None walk.place

  pub step_other : {n : ℕ} → 0 < n → (n ≡ 5 → ⊥) → ((open_step limits cs walk).refusal ≡ n) ↔ (route_refusal limits.point false cs walk.width ≡ n)
  unfolding open_step
  step_other = route-other limits false cs walk.width None walk.place

  -- with 5 comes the position of the first join of the segment that has such a corner
  pub step-bend : let v = open_step limits cs walk in
      BendTold ((route_refusal limits.point false cs walk.width ≡ 0) × (walk.place < open_count cs)) limits.corner (joins_in (open_segment cs walk.width walk.place)) 2 v.refusal v.bend
  unfolding open_step
  step-bend = route-step-bend limits false cs walk.width None walk.place

  -- the joins that a step hands out have the segment's place and the next one for their positions
  pub step-positions : let v = open_step limits cs walk in v.found ≡ 1 → (v.start.position ≡ walk.place) × (v.end.position ≡ walk.place + 1)
  unfolding open_step end_place
  step-positions = route-step-positions limits false cs walk.width None walk.place

  -- what a step answers, wherever the walk stands and whatever list is handed to it
  pub step-told : StepTold limits.corner (route_refusal limits.point false cs walk.width) (open_count cs) (open_segment cs walk.width) walk.place (open_step limits cs walk)
  unfolding open_step
  step-told = route-told limits false cs walk.width None walk.place

  -- where no segment is answered, refused or at the end, the walk is as it was
  pub step_kept : (open_step limits cs walk).found ≢ 1 → after_open limits cs walk ≡ walk
  unfolding after_open
  step_kept other = rw (place_kept (open_step limits cs walk) walk.place other)

  -- so a refused step, asked again, answers the same: with 5 the same bend
  none-drawn : (open_step limits cs walk).refusal ≢ 0 → (open_step limits cs walk).found ≢ 1
  unfolding open_step
  none-drawn = route-refused-none limits false cs walk.width None walk.place

  pub step-again : (open_step limits cs walk).refusal ≢ 0 → open_step limits cs (after_open limits cs walk) ≡ open_step limits cs walk
  step-again some = ap (open_step limits cs) (step_kept (none-drawn some))

-- ---- a start is refused as the list and the width are; refused, its walk is all 0

module _ (k : ℕ) (cs : List ℤ) (w : ℤ) where
  pub start-refusal : (open_start k cs w).refusal ≡ route_refusal k false cs w
  unfolding open_start
  start-refusal = refusal-told {A = Started} (λ s. s.refusal) (route_refusal k false cs w) refl refl

  pub start-chosen : Chosen (route_refusal k false cs w ≡ 0) (open_start k cs w)
      (record { refusal = 0; walk = record { place = 0; width = w } })
      (record { refusal = route_refusal k false cs w; walk = record { place = 0; width = pos 0 } })
  unfolding open_start
  start-chosen = chosen (eqb (route_refusal k false cs w) 0) _ _ (eqb-iff (route_refusal k false cs w) 0)

-- ---- a start as the code comes to it

module _ (k : ℕ) (cs : List ℤ) (w : ℤ) where
  pub start-refused : (r : Refusal) → number_of r ≡ route_refusal k false cs w → start_values (Err r) ≡ open_start k cs w
  unfolding open_start
  start-refused r n = rw (← n, ne_eqb (number_of r) 0 (λ e. omega (arith, number-above r, e)))

  pub start-begun : {v : ℤ} → v ≡ w → 0 ≡ route_refusal k false cs w → start_values (Ok (record { place = 0; width = v })) ≡ open_start k cs w
  unfolding open_start
  start-begun e n = rw (← n, e)

pub ruleset begins = (start-refused, start-begun)
