-- A walk, whatever its segments are: what its steps answer, and where they leave it. Assumes nothing.
use mathlib.Core.Path.{◌≡◌, refl, sym, ap, subst, ◌∙◌}
use mathlib.Core.Logic.{◌↔◌, ◌≢◌}
use mathlib.Core.Bool.{Bool, true, false, cond}
use mathlib.Core.List.{List}
use Prim.Native.Nat.{ℕ, zero, suc, ◌+◌, ◌≤◌, ◌<◌}
use native.Mathlib.Nat.{add-zero}
use native.Mathlib.Numerals.{add-one}
use native.Mathlib.Omega.{arith}
use borrow.Author.Tests.{lt-ltb, le-ltb, eq-eqb, ne_eqb}
use lib.Dec.{eqb, ltb}
use lib.IntN.{ℤ, pos}
use Rattle.std.specs.Prelude.{Some, None, Ok, Err}
use Rattle.whole.proofs.Tests.{else-false, ltb_iff, eqb-iff, never, good-first, good-later}
use Rattle.shapes.specs.declared.Point.{Point}
use Rattle.shapes.specs.declared.refusals.Refusal.{Refusal}
use Rattle.shapes.specs.Refusals.{corner_refused, number_of, bend_of}
use Rattle.thick_segment.specs.declared.Segment.{Segment}
use Rattle.coordinates.specs.Points.{point_count}
use Rattle.coordinates.specs.Refusal.{route_refusal, Accepted}
use Rattle.shapes.proofs.Numbers.{refusals-tell}
use Rattle.coordinates.proofs.Laws.{accepted-exactly, refused-most}
use Rattle.shapes.specs.declared.limits.Limits.{Limits}
use Rattle.shapes.specs.declared.Offset.{Offset}
use Rattle.route_joins.specs.Joins.{end_place, segment_count, segment_of}
use Rattle.route_joins.proofs.Bends.{join-position}
use Rattle.thick_segment.specs.Segments.{SegmentNear, is_segment_near, far_bend}
use Rattle.thick_segment.specs.Words.{joins_in}
use Rattle.thick_segment.proofs.Refused.{segment-near-iff}
use Rattle.thick_segment.proofs.Named.{segment-named, named-far}
use Rattle.line_join.specs.declared.Join.{Join}
use Rattle.line_join.specs.Origins.{no_crossings}
use Rattle.line_join.specs.Answers.{JoinValues, join_values}
use Rattle.line_join.specs.Words.{Named, BendTold}
use Rattle.line_join.proofs.Answers.{join-values-tell}
use Rattle.line_join.proofs.Named.{bend-told}
use Rattle.route_joins.specs.Steps.{StepValues, refused_values, Step, step_values, checked, step_at, route_step, place_from, after_steps, StepTold, SegmentBySegment}

-- ---- one step: `refusal` is that of the list and the width

module _ (k refusal count : ℕ) (segment : ℕ → Segment) (place : ℕ) where
  pub step-refused : 0 < refusal → step_at k refusal count segment place ≡ refused_values refusal 0
  unfolding step_at
  step-refused h = rw (ne_eqb refusal 0 (λ e. omega (arith, e)))

  module _ (none : refusal ≡ 0) where
    pub step_end : count ≤ place → step_at k refusal count segment place ≡ step_values (Ok None)
    unfolding step_at
    step_end h = rw (eq-eqb refusal 0 none, le-ltb place count h)

    module _ (more : place < count) where
      pub step-drawn : is_segment_near k (segment place) ≡ true → step_at k refusal count segment place ≡ step_values (Ok (Some (segment place)))
      unfolding step_at checked
      step-drawn e = rw (eq-eqb refusal 0 none, lt-ltb place count more, e)

      pub step-corner : is_segment_near k (segment place) ≡ false → step_at k refusal count segment place ≡ refused_values corner_refused (far_bend k (segment place))
      unfolding step_at checked
      step-corner e = rw (eq-eqb refusal 0 none, lt-ltb place count more, e)

  step-told : StepTold k refusal count segment place (step_at k refusal count segment place)
  step-told =
      record {
        refused = step-refused;
        past = step_end;
        drawn = λ none more near. step-drawn none more ((segment-near-iff k (segment place)).1 near);
        far = λ none more far. step-corner none more (else-false (is_segment_near k (segment place)) (λ e. far ((segment-near-iff k (segment place)).0 e)));
      }

-- refused, every other number is 0: of both joins the kind, the position and the eight coordinates too; and no corner is a crossing
abbrev at_zero : Point
at_zero = record { x = pos 0; y = pos 0 }

abbrev zeros : JoinValues
zeros = record { refusal = 0; bend = 0; kind = 0; ending = record { left = at_zero; right = at_zero }; starting = record { left = at_zero; right = at_zero }; origins = no_crossings; position = 0 }

pub refused-zeros : (n b : ℕ) → refused_values n b ≡ record { refusal = n; bend = b; found = 0; start = zeros; end = zeros }
unfolding refused_values
refused-zeros n b = refl

-- as a step answers it
pub refused-step-zeros : (r : Refusal) → step_values (Err r) ≡ record { refusal = number_of r; bend = bend_of r; found = 0; start = zeros; end = zeros }
unfolding step_values
refused-step-zeros r = refused-zeros (number_of r) (bend_of r)

-- where an answer leaves the walk: where no segment is answered, it stays
pub place_kept : (v : StepValues) (place : ℕ) → v.found ≢ 1 → place_from v place ≡ place
unfolding place_from
place_kept v place other = rw (ne_eqb v.found 1 other)

moved_on : {v : StepValues} (s : Segment) → v ≡ step_values (Ok (Some s)) → (place : ℕ) → place_from v place ≡ place + 1
unfolding place_from step_values refused_values
moved_on s e place = rw e

stayed : {v : StepValues} (n b : ℕ) → v ≡ refused_values n b → (place : ℕ) → place_from v place ≡ place
unfolding place_from step_values refused_values
stayed n b e place = rw e

ended : {v : StepValues} → v ≡ step_values (Ok None) → (place : ℕ) → place_from v place ≡ place
unfolding place_from step_values refused_values
ended e place = rw e

-- ---- many steps of a walk that its list and width do not refuse: `at p` is the walk at place p

module _ {W : Type 0} (k : ℕ) (answer : W → StepValues) (after : W → W) (at : ℕ → W) (count : ℕ) (segment : ℕ → Segment)
    (answers : (p : ℕ) → answer (at p) ≡ step_at k 0 count segment p)
    (moves : (p : ℕ) → after (at p) ≡ at (place_from (step_at k 0 count segment p) p)) where
  abbrev walk : ℕ → W
  walk = after_steps after (at 0)

  abbrev near : ℕ → Type 0
  near j = SegmentNear k (segment j)

  here : {j : ℕ} → j < count → near j → step_at k 0 count segment j ≡ step_values (Ok (Some (segment j)))
  here {j} h n = step-drawn k 0 count segment j refl h ((segment-near-iff k (segment j)).1 n)

  -- as long as the segments are near, the place after n steps is n
  walked : (n : ℕ) → n ≤ count → ((j : ℕ) → j < n → near j) → walk n ≡ at n
  unfolding after_steps
  walked zero h f = refl
  walked (suc n) h f =
      rw (walked n (omega arith) (λ j l. f j (omega arith)))
      (moves n ∙ ap at (moved_on (segment n) (here (omega arith) (f n (omega arith))) n ∙ add-one n))

  -- a walk that has come to a place where a step does not move stays there for ever
  stays : (p : ℕ) → after (at p) ≡ at p → (m n : ℕ) → walk n ≡ at p → walk (n + m) ≡ at p
  unfolding after_steps
  stays p e zero n h = rw (add-zero n) h
  stays p e (suc m) n h =
      let on : n + suc m ≡ suc (n + m) = omega arith in
      rw (on, stays p e m n h) e

  -- what a step answers at a place that the walk has come to
  answered : {p : ℕ} {v : StepValues} (n : ℕ) → walk n ≡ at p → step_at k 0 count segment p ≡ v → answer (walk n) ≡ v
  answered {p} n h e = ap answer h ∙ answers p ∙ e

  pub segments-in-turn : {begun : W} → begun ≡ at 0 → SegmentBySegment k answer after begun count segment
  segments-in-turn e =
      rw e record {
        drawn = λ i h f. answered i (walked i (omega arith) (λ j l. f j (omega arith))) (here h (f i (omega arith)));
        ends = λ f m.
            let over = step_end k 0 count segment count refl (omega arith) in
            answered (count + m) (stays count (moves count ∙ ap at (ended over count)) m count (walked count (omega arith) f)) over;
        refuses = λ i h f far m.
            let over = step-corner k 0 count segment i refl h (else-false (is_segment_near k (segment i)) (λ e. far ((segment-near-iff k (segment i)).0 e))) in
            answered (i + m) (stays i (moves i ∙ ap at (stayed 5 (far_bend k (segment i)) over i)) m i (walked i (omega arith) f)) over;
      }

-- ---- refusals: those of the list and the width, and then 5

module _ (k refusal count : ℕ) (segment : ℕ → Segment) (place : ℕ) where
  chain : (step_at k refusal count segment place).refusal ≡ cond (eqb refusal 0) (cond (ltb place count) (cond (is_segment_near k (segment place)) 0 5) 0) refusal
  unfolding step_at checked step_values refused_values
  chain = by (eqb refusal 0) (ltb place count) (is_segment_near k (segment place))
    where
      by : (t u v : Bool)
          → (cond t (cond u (cond v (step_values (Ok (Some (segment place)))) (refused_values 5 (far_bend k (segment place)))) (step_values (Ok None))) (refused_values refusal 0)).refusal ≡ cond t (cond u (cond v 0 5) 0) refusal
      by true true true = refl
      by true true false = refl
      by true false v = refl
      by false u v = refl

  -- 5 exactly when nothing was refused before, and a join of the segment at the place has a corner beyond the limit
  pub five-exactly : (refusal ≡ 5 → ⊥) → ((step_at k refusal count segment place).refusal ≡ 5) ↔ ((refusal ≡ 0) × ((place < count) × (SegmentNear k (segment place) → ⊥)))
  five-exactly other =
      rw chain
      (good-later (eqb refusal 0) (eqb-iff refusal 0) other
      (good-later (ltb place count) (ltb_iff place count) (λ e. omega arith)
      (good-first (is_segment_near k (segment place)) (segment-near-iff k (segment place)) (λ e. omega arith))))

  -- any other number exactly when the list or the width is refused with it
  pub others-exactly : {n : ℕ} → 0 < n → (n ≡ 5 → ⊥) → ((step_at k refusal count segment place).refusal ≡ n) ↔ (refusal ≡ n)
  others-exactly {n} some other = rw chain (by (eqb refusal 0) refl)
    where
      by : (t : Bool) → eqb refusal 0 ≡ t → (cond t (cond (ltb place count) (cond (is_segment_near k (segment place)) 0 5) 0) refusal ≡ n) ↔ (refusal ≡ n)
      by true e = (
        λ h. absurd (never (ltb place count) (never (is_segment_near k (segment place)) (λ z. omega (arith, z)) (λ z. other (sym z))) (λ z. omega (arith, z)) h),
        λ h. let none = (eqb-iff refusal 0).0 e in absurd (omega (arith, none, h)),
      )
      by false e = (λ h. h, λ h. h)

  -- ---- with 5 comes the first join of the segment that has such a corner

  abbrev values : Bool → Bool → Bool → StepValues
  values t u v = cond t (cond u (cond v (step_values (Ok (Some (segment place)))) (refused_values 5 (far_bend k (segment place)))) (step_values (Ok None))) (refused_values refusal 0)

  bend-five : (t u v : Bool) → refusal ≢ 5 → (values t u v).refusal ≡ 5 → (values t u v).bend ≡ far_bend k (segment place)
  unfolding step_values refused_values
  bend-five true true true other e = absurd (omega arith)
  bend-five true true false other e = refl
  bend-five true false v other e = absurd (omega arith)
  bend-five false u v other e = absurd (other e)

  bend-else : (t u v : Bool) → (values t u v).refusal ≢ 5 → (values t u v).bend ≡ 0
  unfolding step_values refused_values
  bend-else true true true other = refl
  bend-else true true false other = absurd (other refl)
  bend-else true false v other = refl
  bend-else false u v other = refl

  pub step-named : refusal ≢ 5 → let v = step_at k refusal count segment place in BendTold ((refusal ≡ 0) × (place < count)) k (joins_in (segment place)) 2 v.refusal v.bend
  unfolding step_at checked
  step-named other =
      let five = five-exactly other in
      let t = eqb refusal 0 in
      let u = ltb place count in
      let v = is_segment_near k (segment place) in
      bend-told k (joins_in (segment place)) 2 (λ e. let h = five.0 e in ((h.0, h.1.0), h.1.1), λ h. five.1 (h.0.0, (h.0.1, h.1))) (named-far k (segment place))
      (λ e. subst (Named k (joins_in (segment place)) 2) (sym (bend-five t u v other e)) (segment-named k (segment place) (five.0 e).1.1)) (bend-else t u v)

  -- the joins that are answered have the positions of the segment's
  joins-drawn : (t u v : Bool) → (values t u v).found ≡ 1 → ((values t u v).start.position ≡ (segment place).start.position) × ((values t u v).end.position ≡ (segment place).end.position)
  unfolding step_values refused_values join_values
  joins-drawn true true true e = (refl, refl)
  joins-drawn true true false e = absurd (omega arith)
  joins-drawn true false v e = absurd (omega arith)
  joins-drawn false u v e = absurd (omega arith)

  pub step-positions : let v = step_at k refusal count segment place in v.found ≡ 1 → (v.start.position ≡ (segment place).start.position) × (v.end.position ≡ (segment place).end.position)
  unfolding step_at checked
  step-positions = joins-drawn (eqb refusal 0) (ltb place count) (is_segment_near k (segment place))

  -- where a step is refused no segment is answered
  none-drawn : (t u v : Bool) → (values t u v).refusal ≢ 0 → (values t u v).found ≢ 1
  unfolding step_values refused_values
  none-drawn true true true some e = some refl
  none-drawn true true false some e = omega arith
  none-drawn true false v some e = omega arith
  none-drawn false u v some e = omega arith

  pub refused_none : (step_at k refusal count segment place).refusal ≢ 0 → (step_at k refusal count segment place).found ≢ 1
  unfolding step_at checked
  refused_none = none-drawn (eqb refusal 0) (ltb place count) (is_segment_near k (segment place))

-- ---- a walk along a route, open or closed

module _ (limits : Limits) (closed : Bool) (cs : List ℤ) (w : ℤ) (o : Offset) where
  abbrev far : ℕ → Type 0
  far place = SegmentNear limits.corner (segment_of closed cs w o place) → ⊥

  -- 5 exactly when the list and the width are not refused, and a join of the segment at the place has a corner beyond the limit; any other
  -- number exactly when they are refused with it
  pub route-five : (place : ℕ) → ((route_step limits closed cs w o place).refusal ≡ 5) ↔ ((route_refusal limits.point closed cs w ≡ 0) × ((place < segment_count closed cs) × far place))
  unfolding route_step
  route-five place = five-exactly limits.corner _ _ _ place (refused-most limits.point closed cs w (omega arith) (λ e. omega arith))

  pub route-other : (place : ℕ) {n : ℕ} → 0 < n → (n ≡ 5 → ⊥) → ((route_step limits closed cs w o place).refusal ≡ n) ↔ (route_refusal limits.point closed cs w ≡ n)
  unfolding route_step
  route-other place = others-exactly limits.corner _ _ _ place

  -- with 5 comes the position of the first join of the segment that has such a corner
  pub route-step-bend : (place : ℕ) → let v = route_step limits closed cs w o place in
      BendTold ((route_refusal limits.point closed cs w ≡ 0) × (place < segment_count closed cs)) limits.corner (joins_in (segment_of closed cs w o place)) 2 v.refusal v.bend
  unfolding route_step
  route-step-bend place = step-named limits.corner _ _ _ place (refused-most limits.point closed cs w (omega arith) (λ e. omega arith))

  -- the joins of a segment that is answered have its place and the place where it ends for their positions
  pub route-step-positions : (place : ℕ) → let v = route_step limits closed cs w o place in
      v.found ≡ 1 → (v.start.position ≡ place) × (v.end.position ≡ end_place closed (point_count cs) place)
  unfolding route_step segment_of
  route-step-positions place e =
      let h = step-positions limits.corner _ _ _ place e in
      (h.0 ∙ join-position closed cs w o place, h.1 ∙ join-position closed cs w o (end_place closed (point_count cs) place))

  pub route-refused-none : (place : ℕ) → (route_step limits closed cs w o place).refusal ≢ 0 → (route_step limits closed cs w o place).found ≢ 1
  unfolding route_step
  route-refused-none place = refused_none limits.corner _ _ _ place

  -- what a step answers at a place, whatever the place is
  pub route-told : (place : ℕ) → StepTold limits.corner (route_refusal limits.point closed cs w) (segment_count closed cs) (segment_of closed cs w o) place (route_step limits closed cs w o place)
  unfolding route_step
  route-told place = step-told limits.corner _ _ _ place

  -- segment by segment, where `at p` is the walk at place p
  pub route-in-turn : {W : Type 0} {answer : W → StepValues} {after : W → W} {begun : W} (at : ℕ → W) → Accepted limits.point closed cs w
      → ((p : ℕ) → answer (at p) ≡ route_step limits closed cs w o p) → ((p : ℕ) → after (at p) ≡ at (place_from (route_step limits closed cs w o p) p)) → begun ≡ at 0
      → SegmentBySegment limits.corner answer after begun (segment_count closed cs) (segment_of closed cs w o)
  unfolding route_step
  route-in-turn at accepted answers moves =
      let none = (accepted-exactly limits.point closed cs w).1 accepted in
      segments-in-turn limits.corner _ _ at (segment_count closed cs) (segment_of closed cs w o) (λ p. rw none at (answers p)) (λ p. rw none at (moves p))

-- an answer that is chosen by a refusal tells that refusal
pub refusal-told : {A : Type 0} (told : A → ℕ) (n : ℕ) {answer refused : A} → told answer ≡ 0 → told refused ≡ n → told (cond (eqb n 0) answer refused) ≡ n
refusal-told {A} told n {answer} {refused} none some = by (eqb n 0) refl
  where
    by : (t : Bool) → eqb n 0 ≡ t → told (cond t answer refused) ≡ n
    by true e = none ∙ sym ((eqb-iff n 0).0 e)
    by false e = some

-- the values tell answers apart
same-join : (a b : Join) → join_values (Ok a) ≡ join_values (Ok b) → a ≡ b
same-join a b e = cc (join-values-tell (Ok a) (Ok b) e)

same-segment : (s t : Segment) → s.start ≡ t.start → s.end ≡ t.end → s ≡ t
same-segment s t p q = rw (← p, ← q) refl

pub values-tell : (s t : Step) → step_values s ≡ step_values t → s ≡ t
unfolding step_values refused_values
values-tell (Ok (Some s)) (Ok (Some t)) e =
    ap (λ d. Ok (Some d)) (same-segment s t (same-join s.start t.start (ap (λ v. v.start) e)) (same-join s.end t.end (ap (λ v. v.end) e)))
values-tell (Ok (Some s)) (Ok None) e = absurd (omega (arith, ap (λ v. v.found) e))
values-tell (Ok (Some s)) (Err r) e = absurd (omega (arith, ap (λ v. v.found) e))
values-tell (Ok None) (Ok (Some t)) e = absurd (omega (arith, ap (λ v. v.found) e))
values-tell (Ok None) (Ok None) e = refl
values-tell (Ok None) (Err r) e = absurd (omega (arith, ap (λ v. v.found) e))
values-tell (Err q) (Ok (Some t)) e = absurd (omega (arith, ap (λ v. v.found) e))
values-tell (Err q) (Ok None) e = absurd (omega (arith, ap (λ v. v.found) e))
values-tell (Err q) (Err r) e = ap Err (refusals-tell q r (ap (λ v. v.refusal) e) (ap (λ v. v.bend) e))
