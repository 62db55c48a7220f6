-- The step of a walk, as the code comes to it. Assumes nothing.
use mathlib.Core.Path.{◌≡◌, refl, sym}
use mathlib.Core.Bool.{Bool, true, false, cond}
use mathlib.Core.List.{List}
use Prim.Native.Nat.{ℕ, ◌+◌, ◌*◌, ◌≤◌, ◌<◌}
use native.Mathlib.Omega.{arith}
use lib.Dec.{eqb, ltb}
use lib.IntN.{ℤ}
use lib.ListN.{length}
use Rattle.std.specs.Prelude.{Some, None, Ok, Err}
use Rattle.whole.proofs.Tests.{ltb_iff}
use Rattle.shapes.specs.declared.refusals.Refusal.{Refusal}
use Rattle.shapes.specs.declared.refusals.Refusal.TheVariants.{Corner}
use Rattle.shapes.specs.Refusals.{number_of, bend_of}
use Rattle.shapes.specs.declared.limits.Limits.{Limits}
use Rattle.shapes.specs.declared.Offset.{Offset}
use Rattle.thick_segment.specs.declared.Segment.{Segment}
use Rattle.thick_segment.specs.Segments.{is_segment_near, far_bend}
use Rattle.coordinates.specs.Refusal.{route_refusal}
use Rattle.coordinates.proofs.Lists.{point-inside}
use Rattle.shapes.proofs.Numbers.{number-above}
use Rattle.route_joins.specs.Joins.{segment_count, segment_of}
use Rattle.route_joins.specs.Steps.{refused_values, step_values, checked, step_at, route_step}
use Rattle.route_joins.proofs.Near.{place_inside}
use Rattle.route_joins.proofs.Walks.{step-refused, step_end, step-drawn, step-corner}

module _ (limits : Limits) (closed : Bool) (cs : List ℤ) (w : ℤ) (o : Offset) (place : ℕ) where
  abbrev refused : ℕ
  refused = route_refusal limits.point closed cs w

  abbrev count : ℕ
  count = segment_count closed cs

  abbrev segment : ℕ → Segment
  segment k = segment_of closed cs w o k

  pub at-refused : (r : Refusal) → number_of r ≡ refused → bend_of r ≡ 0 → step_values (Err r) ≡ route_step limits closed cs w o place
  unfolding route_step step_values
  at-refused r n b = rw (b, n) (sym (step-refused limits.corner refused count segment place (omega (arith, n, number-above r))))

  module _ (none : 0 ≡ refused) where
    pub at_end : count ≤ place → step_values (Ok None) ≡ route_step limits closed cs w o place
    unfolding route_step
    at_end h = sym (step_end limits.corner refused count segment place (sym none) h)

    module _ (more : place < count) {s : Segment} (here : s ≡ segment place) where
      pub at-corner : {b : ℕ} → b ≡ far_bend limits.corner s → is_segment_near limits.corner s ≡ false → step_values (Err (Corner b)) ≡ route_step limits closed cs w o place
      unfolding route_step step_values
      at-corner b far = rw (b, here) (sym (step-corner limits.corner refused count segment place (sym none) more (rw here at far)))

      pub at-segment : is_segment_near limits.corner s ≡ true → step_values (Ok (Some s)) ≡ route_step limits closed cs w o place
      unfolding route_step
      at-segment near = rw here (sym (step-drawn limits.corner refused count segment place (sym none) more (rw here at near)))

  -- a segment is answered only where there is one
  drawn_by : (t u v : Bool) → (cond t (cond u (cond v (step_values (Ok (Some (segment place)))) (refused_values 5 (far_bend limits.corner (segment place)))) (step_values (Ok None))) (refused_values refused 0)).found ≡ 1 → u ≡ true
  unfolding step_values refused_values
  drawn_by true true v e = refl
  drawn_by true false v e = absurd (omega arith)
  drawn_by false u v e = absurd (omega arith)

  pub drawn-inside : (route_step limits closed cs w o place).found ≡ 1 → place < count
  unfolding route_step step_at checked
  drawn-inside e = (ltb_iff place count).0 (drawn_by (eqb refused 0) (ltb place count) (is_segment_near limits.corner (segment place)) e)

  -- and a list holds twice as many numbers, or more
  pub drawn-within : (route_step limits closed cs w o place).found ≡ 1 → 2 * place + 1 < length cs
  unfolding segment_count
  drawn-within e = point-inside cs (place_inside closed (drawn-inside e)).0
