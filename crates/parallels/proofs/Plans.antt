-- The plan of a line and the state before its first parallel, without the code: they are as the steps ask. Assumes nothing.
use mathlib.Core.Path.{◌≡◌, refl, ap, ◌∙◌}
use mathlib.Core.Logic.{⊎_elim}
use mathlib.Core.Bool.{Bool, true, false, cond}
use Prim.Native.Nat.{ℕ, ◌+◌, ◌*◌, ◌≤◌, ◌<◌}
use native.Mathlib.Omega.{arith}
use lib.Dec.{lit≤}
use lib.ListN.{length}
use lib.IntN.{ℤ, pos, nat_abs, neg_ℤ, ◌+ℤ◌, ◌-ℤ◌, ◌*ℤ◌}
use lib.Signed.{quot_z, ◌≤ℤ◌}
use Rattle.whole.specs.Number.{eq_z}
use Rattle.whole.proofs.Linear.{linear, sum, diff, opp, times, abs-parts, le-or-lt, there-and-off}
use Rattle.whole.proofs.Bounds.{abs_neg, abs-mul}
use Rattle.whole.proofs.Orders.{eq_z-refl, ordered}
use Rattle.whole.proofs.Steps.{parts, square-is, far_none, half-natural, squares-most}
use Rattle.shapes.specs.declared.Point.{Point}
use Rattle.shapes.specs.declared.Line.{Line}
use Rattle.shapes.specs.declared.Side.{Side}
use Rattle.shapes.specs.declared.Side.TheVariants.{Left, Right}
use Rattle.shapes.specs.declared.Offset.{Offset}
use Rattle.shapes.specs.Limits.{line_limit}
use Rattle.shapes.specs.Shape.{point_of, line_of, Near, LineNear, plus, minus, delta, perpendicular, squared_length, dot_product, same_point}
use Rattle.shapes.proofs.Laws.{near-delta}
use Rattle.bresenham.specs.Walk.{place_of, parameters_along}
use Rattle.bresenham.specs.Walk as Walk
use Rattle.bresenham.proofs.Laws.{is_steep, longer, shorter, parameters-are, Larger, larger as larger-of}
use Rattle.parallels.specs.declared.Plan.{Plan}
use Rattle.parallels.specs.declared.Flank.{Flank}
use Rattle.parallels.specs.Parallels.{due, owed, swapped, first_side, fresh_flank, next_parallel, parallels_start, aimed, turned_back, thickness, plan_along, plan_of, parallels_of, delta_limit, larger, Sound, Steady, Reach, Ready, Paid, Going}
use Rattle.parallels.proofs.Laws.{sided-paid, parallels-most}
use Rattle.parallels.proofs.Steps.{took, reach-more}

-- ---- the state before the first parallel

module _ (w : ℕ) (plan : Plan) (h : Sound w plan) (p : Point) where
  fresh-steady : Steady plan (fresh_flank p)
  fresh-steady =
      let q = plan.perpendicular in
      let fair = h.across_fair in
      let along = h.along_fair in
      let top = sum q.threshold q.gain in
      let low = diff (pos 1) q.threshold in
      let lower = diff (pos 1 -ℤ q.threshold) q.gain in
      let back = opp plan.parallel.threshold in
      record { ranged = record { above = omega linear; below = omega linear }; bounded = record { above = omega linear; below = omega linear } }

  -- no Extra step is due at the start
  pub fresh-due : (side : Side) → due plan.perpendicular side (pos 0) ≡ false
  fresh-due Left = omega (ordered, h.across_fair)
  fresh-due Right = omega (ordered, h.across_fair, opp plan.perpendicular.threshold)

  fresh-reach : (side : Side) → Reach p 0 plan.perpendicular side (place_of p (pos 0))
  fresh-reach side =
      let none : owed plan.perpendicular side (pos 0) ≡ 0 = rw (fresh-due side) refl in
      record { x_reach = omega (arith, far_none p.x); y_reach = omega (arith, far_none p.y) }

  abbrev begin : ℤ
  begin = quot_z (plan.parallel.loss +ℤ plan.parallel.gain) (pos 2)

  record Half (z : ℤ) : Type 0 where
    some : pos 1 ≤ℤ z
    least : larger plan ≤ nat_abs z
    most : nat_abs z ≤ 2 * larger plan

  half : Half begin
  half =
      let q = plan.parallel in
      let fair = h.along_fair in
      let same = h.level in
      let total = sum q.loss q.gain in
      let twice = times 2 q.threshold in
      let a = parts {z = q.threshold} (omega linear) in
      let b = parts {z = plan.perpendicular.threshold} (omega linear) in
      let all = parts {z = q.loss +ℤ q.gain} (omega linear) in
      let is = half-natural {z = q.loss +ℤ q.gain} (omega linear) in
      rw is (record { some = omega linear; least = omega linear; most = omega linear })

  side-paid : (side : Side) (f : Flank) (n : ℕ) → Steady plan f → Reach p n plan.perpendicular side f.at → n ≤ 2 → Paid p plan begin side f
  side-paid side f n s r le = record { steady = s; far = 2; reach = reach-more r le; paid = omega (arith, half.least) }

  extra-most : (t : Bool) → 0 + cond t 0 2 ≤ 2
  extra-most true = omega arith
  extra-most false = omega arith

  fresh-paid : (side : Side) → Paid p plan begin side (fresh_flank p)
  fresh-paid side = side-paid side (fresh_flank p) 0 fresh-steady (fresh-reach side) (omega arith)

  skipped-paid : (side : Side) → Paid p plan begin side (next_parallel plan side (fresh_flank p)).flank
  skipped-paid side =
      let t = took h side fresh-steady in
      side-paid side (next_parallel plan side (fresh_flank p)).flank _ t.steady (t.reach (fresh-reach side)) (extra-most (next_parallel plan side (fresh_flank p)).extra)

  pub going_start : Going w plan p (parallels_start plan p)
  unfolding parallels_start
  going_start =
      let first = first_side plan.offset in
      record { some = half.some; most = omega (arith, half.most); paid = sided-paid first first (fresh-paid first) (skipped-paid (swapped first)) }

-- ---- the plan of a delta that is not (0,0)

thickness-is : (width : ℤ) (d : Point) → thickness width d ≡ pos (nat_abs (pos 2 *ℤ width) * nat_abs (pos 2 *ℤ width) * (nat_abs d.x * nat_abs d.x + nat_abs d.y * nat_abs d.y))
unfolding thickness squared_length dot_product
thickness-is width d = rw (square-is (pos 2 *ℤ width), square-is d.x, square-is d.y) refl

-- the same by the larger and the smaller delta, in which order they may be
squares-by : (t : Bool) (m n : ℕ) → m * m + n * n ≡ cond t n m * cond t n m + cond t m n * cond t m n
squares-by true m n = omega arith
squares-by false m n = refl

pub thickness-of : (w : ℕ) (d : Point) → thickness (pos w) d ≡ pos (2 * w * (2 * w) * (longer d * longer d + shorter d * shorter d))
thickness-of w d = thickness-is (pos w) d ∙ ap (λ n. pos (2 * w * (2 * w) * n)) (squares-by (is_steep d) (nat_abs d.x) (nat_abs d.y))

-- what the accumulator begins with
pub begins-with : (d : Point) → quot_z ((parameters_along d).loss +ℤ (parameters_along d).gain) (pos 2) ≡ pos (longer d + shorter d)
unfolding Walk.along
begins-with d = rw (parameters-are d) (ap pos (omega arith))

back-near : {k : ℕ} {d : Point} → Near k d → Near k (turned_back d)
back-near {k} {d} h = record { x_near = h.y_near; y_near = record { bound = rw (abs_neg d.x) h.x_near.bound } }

module _ (w : ℕ) (d : Point) (near : Near delta_limit d) (some : 1 ≤ nat_abs d.x + nat_abs d.y) where
  along : Larger delta_limit d (parameters_along d)
  along = larger-of d near some

  across : Larger delta_limit (turned_back d) (parameters_along (turned_back d))
  across = larger-of (turned_back d) (back-near near) (omega (arith, abs_neg d.x))

  level : (parameters_along d).threshold ≡ (parameters_along (turned_back d)).threshold
  level =
      let m = (parameters_along d).threshold in
      let n = (parameters_along (turned_back d)).threshold in
      let up = along.least (nat_abs n) (omega (arith, across.y-less, abs_neg d.x)) across.x-less in
      let back = across.least (nat_abs m) along.y-less (omega (arith, along.x-less, abs_neg d.x)) in
      let fair = along.fair in
      let other = across.fair in
      omega (linear, parts {z = m} (omega linear), parts {z = n} (omega linear))

  pub sound-along : (width : ℤ) (offset : Offset) → nat_abs width ≤ w → Sound w (plan_along d width offset)
  unfolding plan_along
  sound-along width offset small =
      let twice : nat_abs (pos 2 *ℤ width) ≤ 2 * w = omega (arith, abs-mul (pos 2) width) in
      let x : nat_abs d.x ≤ nat_abs (parameters_along (turned_back d)).threshold = omega (arith, across.y-less, abs_neg d.x) in
      record {
        along_fair = along.fair;
        across_fair = across.fair;
        level = level;
        not_negative = rw (thickness-is width d) (omega linear);
        threshold_most = rw (thickness-is width d) (squares-most w (nat_abs (parameters_along (turned_back d)).threshold) _ _ _ twice x across.x-less);
      }

-- ---- the plan of a line

-- W1's perpendicular, which the Rust takes, has the delta that the plan takes
pub perpendicular-delta : (l : Line) → delta (perpendicular l) ≡ turned_back (delta l)
unfolding perpendicular plus delta minus
perpendicular-delta l = simp (there-and-off l.start.x (l.end.y -ℤ l.start.y), there-and-off l.start.y (neg_ℤ (l.end.x -ℤ l.start.x)))

apart_by : (a b : ℤ) → nat_abs (b -ℤ a) ≤ 0 → eq_z a b ≡ true
apart_by a b h =
    let same : b ≡ a = omega (linear, diff b a, abs-parts (b -ℤ a)) in
    rw same (eq_z-refl a)

some-delta : (l : Line) → same_point l.start l.end ≡ false → 1 ≤ nat_abs (delta l).x + nat_abs (delta l).y
unfolding same_point delta minus
some-delta l e =
    let far = nat_abs (l.end.x -ℤ l.start.x) + nat_abs (l.end.y -ℤ l.start.y) in
    ⊎_elim
    (λ some. some)
    (λ (none : far < 1).
    let same = simp (apart_by l.start.x l.end.x (omega arith), apart_by l.start.y l.end.y (omega arith)) at e in
    let z : ◌≡◌ {A = ℕ} 0 1 = cc in
    absurd (omega arith))
    (le-or-lt 1 far)

aimed-by : (l : Line) (t : Bool) → same_point l.start l.end ≡ t → LineNear line_limit l → Near delta_limit (aimed l) × (1 ≤ nat_abs (aimed l).x + nat_abs (aimed l).y)
unfolding aimed
aimed-by l true e h = rw e (record { x_near = record { bound = lit≤ tt }; y_near = record { bound = lit≤ tt } }, lit≤ tt)
aimed-by l false e h = rw e (near-delta h, some-delta l e)

pub sound-plan : {w : ℕ} (l : Line) (width : ℤ) (offset : Offset) → LineNear line_limit l → nat_abs width ≤ w → Sound w (plan_of l width offset)
unfolding plan_of
sound-plan {w} l width offset h small =
    let a = aimed-by l (same_point l.start l.end) refl h in
    sound-along w (aimed l) a.0 a.1 width offset small

-- ---- what the first step across a side asks

pub ready-fresh : {w : ℕ} {plan : Plan} {p : Point} (side : Side) → Sound w plan → Near line_limit p → Ready plan side (fresh_flank p)
ready-fresh {w} {plan} {p} side h near =
    record { steady = fresh-steady w plan h p; origin = p; origin_near = near; reach = reach-more (fresh-reach w plan h p side) (lit≤ tt) }

-- ---- the parallels of a line end: there are at most 4w + 4

pub parallels-few : {w : ℕ} (l : Line) (width : ℤ) (offset : Offset) → LineNear line_limit l → nat_abs width ≤ w → length (parallels_of l width offset) ≤ 4 * w + 4
unfolding parallels_of
parallels-few {w} l width offset h small =
    let plan = plan_of l width offset in
    let sound = sound-plan l width offset h small in
    parallels-most w plan sound l.start (parallels_start plan l.start) (going_start w plan sound l.start)

-- a line from a point to itself takes its direction from (0,0)-(1,0)
pub aimed-still : (a : Point) → aimed (line_of a a) ≡ point_of (pos 1) (pos 0)
unfolding aimed same_point
aimed-still a = simp (eq_z-refl a.x, eq_z-refl a.y)
