use Rattle.std.proofs.Common.{rules, arith, ◌≡◌, ◌≤◌, ◌*◌, ℕ, ℤ, Bool, false, cond, List, length, sym, ◌∙◌}
use Rattle.std.proofs.lemmas.Grind.{common_steps}
use mir.Facts.{to_z-of_z}
use Rattle.std.proofs.lemmas.Result.{err_from_is_err_and}
use Rattle.shapes.specs.Refusals.{or_else}
use Rattle.shapes.specs.Strokes.{stroke_refusal}
use Rattle.coordinates.specs.Points.{point_count}
use Rattle.coordinates.specs.Neighbours.{is_doubled}
use Rattle.coordinates.specs.Refusal.{are_within, is_miscounted, route_refusal}
use Rattle.coordinates.proofs.Lists.{count-within, odd-true, odd-false}
use Rattle.shapes.proofs.Numbers.{or-number, unbent}
use Rattle.coordinates.proofs.Refused.{stroke-below}
use Rattle.coordinates.proofs.inner.check.Goals as goal

-- past the test of the list's length
module _ (k : ℕ) (closed : Bool) (cs : List ℤ) (w : ℤ) {n : ℕ} (points : n ≡ point_count cs) (even : length cs ≤ 2 * n) where
  past-odd : {t : Bool} → is_miscounted closed n ≡ t → route_refusal k closed cs w ≡ cond t 2 (or_else (stroke_refusal w (are_within k cs)) (cond (is_doubled closed cs) 12 0))
  unfolding route_refusal
  past-odd e = rw (odd-false cs points even, ← points, e)

  -- and past the number of points
  module _ (counted : is_miscounted closed n ≡ false) where
    past-stroke : {s : ℕ} → s ≡ stroke_refusal w (are_within k cs) → ((d : ℕ) → or_else s d ≡ s) → route_refusal k closed cs w ≡ s
    past-stroke e refused = past-odd counted ∙ rw (← e) (refused _)

    past-all : {t : Bool} → 0 ≡ stroke_refusal w (are_within k cs) → is_doubled closed cs ≡ t → route_refusal k closed cs w ≡ cond t 12 0
    past-all e d = past-odd counted ∙ rw (← e, d)

-- what the test of the stroke says
stroked : {s : ℕ} (w : ℤ) (k : ℕ) (cs : List ℤ) {v : ℤ} {t : Bool} → v ≡ w → t ≡ are_within k cs → s ≡ stroke_refusal v t → s ≡ stroke_refusal w (are_within k cs)
stroked w k cs e d h = rw (← e, ← d) h

pub overflow_mul-count : goal.overflow_mul-count
overflow_mul-count c = search (rules, c.point_count-count.ensures, count-within c.args.coordinates.now)

pub returns-then-count-coordinates-clause-number : goal.returns-then-count-coordinates-clause-number
unfolding route_refusal
returns-then-count-coordinates-clause-number c = rw (odd-true c.args.coordinates.now c.point_count-count.ensures c.if-count-coordinates.true)

pub returns-then-is_miscounted-clause-number : goal.returns-then-is_miscounted-clause-number
returns-then-is_miscounted-clause-number c =
    sym (past-odd c.args.limit c.args.closed c.args.coordinates.now c.args.width c.point_count-count.ensures c.if-count-coordinates.false (sym c.is_miscounted.ensures ∙ c.if-is_miscounted.true))

pub returns-in_err-check_stroke-clause-number : goal.returns-in_err-check_stroke-clause-number
returns-in_err-check_stroke-clause-number c =
    let a = c.args in
    let p = err_from_is_err_and c.from_residual.result c.from_residual.ensures.1 in
    rw (p.1, p.2)
    (sym
    (past-stroke a.limit a.closed a.coordinates.now a.width c.point_count-count.ensures c.if-count-coordinates.false (sym c.is_miscounted.ensures ∙ c.if-is_miscounted.false)
    (stroked a.width a.limit a.coordinates.now (to_z-of_z c.ranges.width) c.are_within.ensures c.in_err-check_stroke.ensures) (or-number _)))

pub returns-in_err-check_stroke-clause-bend : goal.returns-in_err-check_stroke-clause-bend
returns-in_err-check_stroke-clause-bend c = grind (arith, common_steps, unbent, stroke-below)

pub returns-then-is_doubled-clause-number : goal.returns-then-is_doubled-clause-number
returns-then-is_doubled-clause-number c =
    let a = c.args in
    sym
    (past-all a.limit a.closed a.coordinates.now a.width c.point_count-count.ensures c.if-count-coordinates.false (sym c.is_miscounted.ensures ∙ c.if-is_miscounted.false)
    (stroked a.width a.limit a.coordinates.now (to_z-of_z c.ranges.width) c.are_within.ensures c.in_ok-check_stroke.ensures) (sym c.is_doubled.ensures ∙ c.if-is_doubled.true))

pub returns-clause-number : goal.returns-clause-number
returns-clause-number c =
    let a = c.args in
    sym
    (past-all a.limit a.closed a.coordinates.now a.width c.point_count-count.ensures c.if-count-coordinates.false (sym c.is_miscounted.ensures ∙ c.if-is_miscounted.false)
    (stroked a.width a.limit a.coordinates.now (to_z-of_z c.ranges.width) c.are_within.ensures c.in_ok-check_stroke.ensures) (sym c.is_doubled.ensures ∙ c.if-is_doubled.false))
