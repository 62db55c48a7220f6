-- `next_segment` from a start: the segments that the Rust's gives, in turn. Refusals are those of the list and the width, and then 5.
-- Assumes nothing.
use mathlib.Core.Path.{◌≡◌, refl, sym, ap, ◌∙◌}
use mathlib.Core.Logic.{◌↔◌, ◌≢◌}
use mathlib.Core.Bool.{false}
use mathlib.Core.List.{List}
use Prim.Native.Nat.{ℕ, ◌+◌, ◌<◌}
use lib.IntN.{ℤ}
use lib.ListN.{get_or}
use Rattle.whole.specs.Number.{Within}
use Rattle.whole.proofs.Tests.{replaced}
use Rattle.shapes.specs.declared.limits.Limits.{Limits}
use Rattle.shapes.specs.declared.Offset.TheVariants.{None}
use Rattle.scanline.specs.Spans.{new_span}
use Rattle.thick_segment.specs.declared.Segment.{Segment}
use Rattle.line_join.specs.Words.{BendTold}
use Rattle.thick_segment.specs.Segments.{SegmentNear}
use Rattle.thick_segment.specs.Words.{joins_in}
use Rattle.coordinates.specs.Points.{points_of}
use Rattle.coordinates.specs.Refusal.{route_refusal, Accepted}
use Rattle.coordinates.proofs.Laws.{accepted-exactly}
use Rattle.std.specs.Prelude.{Some, Ok}
use Rattle.route_joins.specs.Joins.{end_place, standing, open_segment, open_count}
use Rattle.route_joins.specs.Steps.{step_values, after_steps, StepTold, SegmentBySegment}
use Rattle.route_joins.proofs.Walks.{place_kept, route-told, route-in-turn, route-five, route-other, route-step-bend, route-step-positions, route-refused-none}
use Rattle.route_joins.proofs.Open.{segment-stands}
use Rattle.thick_segment_iter.specs.Walks.{open_step, after_open}
use Rattle.scanline_intersections.specs.declared.Intersections.{Intersections}
use Rattle.scanline_intersections.specs.Merging.{walk_of}
use Rattle.scanline_intersections.specs.Polyline.{polyline_segments}
use Rattle.scanline_intersections.specs.Answers.{polyline_start, polyline_step, after_polyline}
use Rattle.scanline_intersections.proofs.Polyline.{polyline-at}
use Rattle.scanline_intersections.proofs.Refused.{start-sound, start-chosen}

-- ---- many steps, from a start that is not refused

module _ (limits : Limits) (cs : List ℤ) (w row : ℤ) (accepted : Accepted limits.point false cs w) (on : Within row limits.corner) where
  begun : (polyline_start limits cs w row).walk ≡ walk_of 0 w (new_span row)
  begun = ap (λ s. s.walk) ((start-chosen limits cs w row).holds ((start-sound limits cs w row).1 (accepted, on)))

  pub segment-by-segment : SegmentBySegment limits.corner (polyline_step limits cs) (after_polyline limits cs) (polyline_start limits cs w row).walk (open_count cs) (open_segment cs w)
  unfolding polyline_step after_polyline
  segment-by-segment = route-in-turn limits false cs w None (λ p. walk_of p w (new_span row)) accepted (λ p. refl) (λ p. refl) begun

  -- the k-th step answers the k-th segment that the Rust's `next_segment` gives, with the positions k and k + 1
  pub steps-drawn : (d : Segment) (k : ℕ) → k < open_count cs → ((j : ℕ) → j < k + 1 → SegmentNear limits.corner (open_segment cs w j))
      → polyline_step limits cs (after_steps (after_polyline limits cs) (polyline_start limits cs w row).walk k) ≡ step_values (Ok (Some (standing k (k + 1) (get_or (polyline_segments w (points_of cs)) k d))))
  steps-drawn d k h f = segment-by-segment.drawn k h f ∙ ap (λ s. step_values (Ok (Some s))) (sym (segment-stands cs w k) ∙ ap (standing k (k + 1)) (sym (polyline-at cs w d k h)))

module _ (limits : Limits) (cs : List ℤ) (walk : Intersections) where
  -- ---- the open walk at the same place with the same width answers the same, whatever the list, and goes to the same place

  pub steps-equal : polyline_step limits cs walk ≡ open_step limits cs (record { place = walk.place; width = walk.width })
  unfolding polyline_step open_step
  steps-equal = refl

  pub places-equal : (after_polyline limits cs walk).place ≡ (after_open limits cs (record { place = walk.place; width = walk.width })).place
  unfolding after_polyline after_open
  places-equal = rw steps-equal

  -- what a step answers, wherever the walk stands and whatever list is handed to it
  pub step-told : StepTold limits.corner (route_refusal limits.point false cs walk.width) (open_count cs) (open_segment cs walk.width) walk.place (polyline_step limits cs walk)
  unfolding polyline_step
  step-told = route-told limits false cs walk.width None walk.place

  -- where no segment is answered, refused or at the end, the walk is as it was
  pub step_kept : (polyline_step limits cs walk).found ≢ 1 → after_polyline limits cs walk ≡ walk
  unfolding after_polyline
  step_kept other = rw (place_kept (polyline_step limits cs walk) walk.place other)

  -- so a refused step, asked again, answers the same: with 5 the same bend
  none-drawn : (polyline_step limits cs walk).refusal ≢ 0 → (polyline_step limits cs walk).found ≢ 1
  unfolding polyline_step
  none-drawn = route-refused-none limits false cs walk.width None walk.place

  pub step-again : (polyline_step limits cs walk).refusal ≢ 0 → polyline_step limits cs (after_polyline limits cs walk) ≡ polyline_step limits cs walk
  step-again some = ap (polyline_step limits cs) (step_kept (none-drawn some))

  -- ---- the refusals of a step: any number but 5 as of the list and the width

  pub step-list : {m : ℕ} → 0 < m → m ≢ 5 → ((polyline_step limits cs walk).refusal ≡ m) ↔ (route_refusal limits.point false cs walk.width ≡ m)
  unfolding polyline_step
  step-list = route-other limits false cs walk.width None walk.place

  -- then 5: a join of the segment at the place has a corner outside
  pub step-5 : ((polyline_step limits cs walk).refusal ≡ 5)
      ↔ (Accepted limits.point false cs walk.width × ((walk.place < open_count cs) × (SegmentNear limits.corner (open_segment cs walk.width walk.place) → ⊥)))
  unfolding polyline_step
  step-5 = replaced (accepted-exactly limits.point false cs walk.width) (route-five limits false cs walk.width None walk.place)

  -- with 5 comes the position of the first join of the segment that has such a corner
  pub step-bend : let v = polyline_step limits cs walk in
      BendTold ((route_refusal limits.point false cs walk.width ≡ 0) × (walk.place < open_count cs)) limits.corner (joins_in (open_segment cs walk.width walk.place)) 2 v.refusal v.bend
  unfolding polyline_step
  step-bend = route-step-bend limits false cs walk.width None walk.place

  -- the joins that a step hands out have the segment's place and the next one for their positions
  pub step-positions : let v = polyline_step limits cs walk in v.found ≡ 1 → (v.start.position ≡ walk.place) × (v.end.position ≡ walk.place + 1)
  unfolding polyline_step end_place
  step-positions = route-step-positions limits false cs walk.width None walk.place
