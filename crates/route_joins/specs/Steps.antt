-- What a step of a walk answers, and where it leaves the walk. A walk is its segments by their place, and how many there are.
use Rattle.std.specs.Prelude.{◌≡◌, Bool, cond, List, ℕ, zero, suc, ◌+◌, ◌≤◌, ◌<◌, eqb, ltb, ℤ, Option, Some, None, Result, Ok, Err}
use Rattle.shapes.specs.declared.refusals.Refusal.{Refusal}
use Rattle.shapes.specs.Refusals.{corner_refused, number_of, bend_of}
use Rattle.shapes.specs.declared.limits.Limits.{Limits}
use Rattle.shapes.specs.declared.Offset.{Offset}
use Rattle.line_join.specs.Answers.{JoinValues, join_values, no_join_values}
use Rattle.thick_segment.specs.declared.Segment.{Segment}
use Rattle.thick_segment.specs.Segments.{SegmentNear, is_segment_near, far_bend}
use Rattle.coordinates.specs.Refusal.{route_refusal}
use Rattle.route_joins.specs.Joins.{segment_count, segment_of}

-- ---- the cases of an answer

-- the refusal or 0, and the position that comes with 5; 1 for a segment, 2 for the end, 0 for a refusal; the segment's two joins, and where
-- there is none what stands for no join
pub record StepValues : Type 0 where
  pub refusal : ℕ
  pub bend : ℕ
  pub found : ℕ
  pub start : JoinValues
  pub end : JoinValues

-- of a refusal's number and bend
unfoldable pub refused_values : ℕ → ℕ → StepValues
refused_values n b = record { refusal = n; bend = b; found = 0; start = no_join_values; end = no_join_values }

-- a segment, or none past the last one; or a refusal
abbrev pub Step : Type 0
Step = Result (Option Segment) Refusal

unfoldable pub step_values : Step → StepValues
step_values (Ok (Some s)) = record { refusal = 0; bend = 0; found = 1; start = join_values (Ok s.start); end = join_values (Ok s.end) }
step_values (Ok None) = record { refusal = 0; bend = 0; found = 2; start = no_join_values; end = no_join_values }
step_values (Err r) = refused_values (number_of r) (bend_of r)

-- ---- one step, k being the corners' limit

-- 5 where a join of the segment has a corner beyond it, with the position of the first that has
unfoldable pub checked : ℕ → Segment → StepValues
checked k s = cond (is_segment_near k s) (step_values (Ok (Some s))) (refused_values corner_refused (far_bend k s))

-- `refusal` is that of the list and the width, or 0
unfoldable pub step_at : ℕ → ℕ → ℕ → (ℕ → Segment) → ℕ → StepValues
step_at k refusal count segment place =
    cond (eqb refusal 0) (cond (ltb place count) (checked k (segment place)) (step_values (Ok None))) (refused_values refusal 0)

-- of a route, open or closed: the offset is a closed walk's, an open one has None always
unfoldable pub route_step : Limits → Bool → List ℤ → ℤ → Offset → ℕ → StepValues
route_step limits closed cs w o place =
    step_at limits.corner (route_refusal limits.point closed cs w) (segment_count closed cs) (segment_of closed cs w o) place

-- what a step answers at any place, v being the answer. One of the four holds, and no two do: so v is settled
pub record StepTold (k refusal count : ℕ) (segment : ℕ → Segment) (place : ℕ) (v : StepValues) : Type 0 where
  -- the list or the width is refused
  pub refused : 0 < refusal → v ≡ refused_values refusal 0
  -- a place past the last segment is the end
  pub past : refusal ≡ 0 → count ≤ place → v ≡ step_values (Ok None)
  -- the segment at the place
  pub drawn : refusal ≡ 0 → place < count → SegmentNear k (segment place) → v ≡ step_values (Ok (Some (segment place)))
  -- or 5 and the position of the first join with a corner beyond the limit
  pub far : refusal ≡ 0 → place < count → (SegmentNear k (segment place) → ⊥) → v ≡ refused_values corner_refused (far_bend k (segment place))

-- the walk moves on where a segment was answered, and nowhere else
unfoldable pub place_from : StepValues → ℕ → ℕ
place_from v place = cond (eqb v.found 1) (place + 1) place

-- ---- many steps

-- the walk after n steps
unfoldable pub after_steps : {W : Type 0} → (W → W) → W → ℕ → W
after_steps after walk zero = walk
after_steps after walk (suc n) = after (after_steps after walk n)

-- a walk, segment by segment: what the steps from its first one on answer, where `answer` and `after` say what a step does
pub record SegmentBySegment {W : Type 0} (k : ℕ) (answer : W → StepValues) (after : W → W) (begun : W) (count : ℕ) (segment : ℕ → Segment) : Type 0 where
  -- the i-th step answers the segment at place i
  pub drawn : (i : ℕ) → i < count → ((j : ℕ) → j < i + 1 → SegmentNear k (segment j)) → answer (after_steps after begun i) ≡ step_values (Ok (Some (segment i)))
  -- after the last segment comes the end, for ever
  pub ends : ((j : ℕ) → j < count → SegmentNear k (segment j)) → (m : ℕ) → answer (after_steps after begun (count + m)) ≡ step_values (Ok None)
  -- refused with 5 at a segment, it is refused with 5 for ever, and names the same bend
  pub refuses : (i : ℕ) → i < count → ((j : ℕ) → j < i → SegmentNear k (segment j)) → (SegmentNear k (segment i) → ⊥)
      → (m : ℕ) → answer (after_steps after begun (i + m)) ≡ refused_values corner_refused (far_bend k (segment i))
