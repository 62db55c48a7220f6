-- What holds of each state leaves room: nothing that the code works out of it wraps. Assumes nothing.
use mathlib.Core.Path.{◌≡◌}
use mathlib.Core.Bool.{false, ◌&&◌}
use borrow.Author.Rules.{rules}
use Rattle.std.proofs.Common.{int_eq}
use mathlib.Core.List.{◌∷◌}
use Prim.Native.Nat.{ℕ, suc, ◌+◌, ◌^◌, ◌≤◌, ◌<◌}
use native.Mathlib.Omega.{arith}
use lib.Dec.{lit≤}
use lib.IntN.{ℤ, pos, nat_abs, ◌-ℤ◌}
use Rattle.whole.specs.Number.{Within}
use Rattle.whole.proofs.Bounds.{within_more}
use Rattle.whole.proofs.Linear.{linear, sum, diff, opp, times, abs-le}
use Rattle.whole.proofs.Steps.{far-near, quotient-most}
use Rattle.shapes.specs.declared.Point.{Point}
use Rattle.shapes.specs.declared.Side.{Side}
use Rattle.shapes.specs.Limits.{line_limit, thick_limit}
use Rattle.shapes.specs.Shape.{Near, same_point}
use Rattle.shapes.specs.Strokes.{Thin}
use Rattle.shapes.proofs.Widths.{thin-within}
use Rattle.bresenham.specs.declared.Parameters.{Parameters}
use Rattle.bresenham.specs.Walk.{Sized, Placed, Fair}
use Rattle.bresenham.proofs.Laws.{fair-sized}
use Rattle.parallels.specs.declared.Plan.{Plan}
use Rattle.parallels.specs.declared.Flank.{Flank}
use Rattle.parallels.specs.declared.Parallels.{Parallels}
use Rattle.parallels.specs.Parallels.{delta_limit, larger, flank_at, turn_of, parallels_start, is_done, yield_of, spare, parallels, Sound, Bounded, Ready, Begun, Paid, Going}
use Rattle.parallels.proofs.Steps.{Away, turned, reach-more}
use Rattle.parallels.proofs.Laws.{larger-small, going_next, spare-next, parallels-turn}
use Rattle.parallels.proofs.Plans.{going_start}

pub sized : {p : Parameters} → Fair delta_limit p → Sized p
sized f = fair-sized f (lit≤ tt)

pub thin-thick : {w : ℤ} → Thin w → Within w thick_limit
thin-thick h = within_more (thin-within h) (lit≤ tt)

-- a point that is at most n from one that is near
pub near-away : {k n : ℕ} {o q : Point} → Near k o → Away o n q → Near (k + n) q
near-away {o} {q} h a =
    record {
      x_near = record { bound = omega (arith, far-near q.x o.x, h.x_near.bound, a.x-away) };
      y_near = record { bound = omega (arith, far-near q.y o.y, h.y_near.bound, a.y-away) };
    }

pub error_small : {k : ℕ} {p : Parameters} {e : ℤ} → Fair k p → Bounded p e → Within e k
error_small {p} {e} f b = record { bound = abs-le e (omega (linear, opp p.threshold)) (omega (linear, opp p.threshold)) }

-- ---- one side

pub placed : {w : ℕ} {plan : Plan} {side : Side} {f : Flank} → Sound w plan → Ready plan side f → Placed f.at
placed {plan} {f} s r =
    let p = plan.perpendicular in
    let fair = s.across_fair in
    let ranged = r.steady.ranged in
    let top = sum p.threshold p.gain in
    let low = diff (pos 1) p.threshold in
    let lower = diff (pos 1 -ℤ p.threshold) p.gain in
    let twice = times 2 p.threshold in
    let o = r.origin in
    let near = r.origin_near in
    let reach = r.reach in
    let q = f.at.point in
    record {
      point_near = record {
        x_near = record { bound = omega (arith, far-near q.x o.x, near.x_near.bound, reach.x_reach) };
        y_near = record { bound = omega (arith, far-near q.y o.y, near.y_near.bound, reach.y_reach) };
      };
      error_small = record { bound = abs-le f.at.error (omega linear) (omega linear) };
    }

pub ready-turn : {w : ℕ} {plan : Plan} {side : Side} {f : Flank} → Sound w plan → Ready plan side f → (turn_of plan side f).met ≡ false → Ready plan side (turn_of plan side f).taken.flank
ready-turn {side} s r e =
    let t = turned s side r.steady in
    record { steady = t.took.steady; origin = r.origin; origin_near = r.origin_near; reach = reach-more (rw (t.passed e).0 at (t.took.reach r.reach)) (lit≤ tt) }

-- ---- a state

pub accumulator-small : {plan : Plan} {o : Point} {s : Parallels} → Sound thick_limit plan → Going thick_limit plan o s → Within s.accumulator (2 ^ 28)
accumulator-small h g = record { bound = omega (arith, g.most, larger-small h) }

far-small : {plan : Plan} {o : Point} {s : Parallels} {side : Side} {f : Flank} → Sound thick_limit plan → Going thick_limit plan o s → (p : Paid o plan s.accumulator side f) → p.far ≤ 2 ^ 24
far-small {plan} {s} h g p = omega (arith, quotient-most (larger plan) p.far (suc thick_limit) (nat_abs s.accumulator) (larger-small h).0 p.paid (omega (arith, g.most)))

pub ready-going : {plan : Plan} {s : Parallels} (side : Side) → Sound thick_limit plan → Begun thick_limit plan s → Ready plan side (flank_at side s)
ready-going {plan} {s} side h b =
    let p = b.going.paid side in
    record { steady = p.steady; origin = b.origin; origin_near = b.origin_near; reach = reach-more p.reach (far-small h b.going p) }

-- ---- a state and the one after it, as the steps ask

pub begun-next : {plan : Plan} {s : Parallels} → Sound thick_limit plan → Begun thick_limit plan s → is_done plan s ≡ false → Begun thick_limit plan (yield_of plan s).state
begun-next {plan} {s} h b e = record { origin = b.origin; origin_near = b.origin_near; going = going_next thick_limit plan h b.origin s b.going e }

pub begun-less : {plan : Plan} {s : Parallels} → Sound thick_limit plan → Begun thick_limit plan s → is_done plan s ≡ false → spare plan (yield_of plan s).state < spare plan s
begun-less {plan} {s} h b e = spare-next thick_limit plan h b.origin s b.going e

pub begun-turn : {plan : Plan} {s : Parallels} → Sound thick_limit plan → Begun thick_limit plan s → is_done plan s ≡ false → parallels plan s ≡ (yield_of plan s).parallel ∷ parallels plan (yield_of plan s).state
begun-turn {plan} {s} h b e = parallels-turn thick_limit plan h b.origin s b.going e

pub begun-start : {plan : Plan} {p : Point} → Sound thick_limit plan → Near line_limit p → Begun thick_limit plan (parallels_start plan p)
begun-start {plan} {p} h near = record { origin = p; origin_near = near; going = going_start thick_limit plan h p }

-- ---- two points are equal as `==` tells it

pub equal-points : (a b : Point) → (int_eq a.x b.x && int_eq a.y b.y) ≡ same_point a b
unfolding same_point
equal-points a b = search rules
