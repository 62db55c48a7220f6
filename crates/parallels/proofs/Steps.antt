-- One side of a thick line, without the code: what a step across it keeps, that at most one point is passed over, and how far a
-- side gets. Assumes nothing.
use mathlib.Core.Path.{◌≡◌, refl, sym}
use mathlib.Core.Bool.{Bool, true, false, cond, false≢true}
use Prim.Native.Nat.{ℕ, ◌+◌, ◌≤◌}
use native.Mathlib.Nat.{le_refl}
use native.Mathlib.Omega.{arith}
use lib.IntN.{ℤ, pos, nat_abs, neg_ℤ, ◌+ℤ◌, ◌-ℤ◌}
use lib.Signed.{lt_z, le_z, ◌≤ℤ◌}
use Rattle.whole.proofs.Linear.{sum, diff, opp, times}
use Rattle.whole.proofs.Orders.{ordered}
use Rattle.whole.proofs.Steps.{far-step, far-back}
use Rattle.whole.proofs.Tests.{clash}
use Rattle.shapes.specs.declared.Point.{Point}
use Rattle.shapes.specs.declared.Side.{Side}
use Rattle.shapes.specs.declared.Side.TheVariants.{Left, Right}
use Rattle.shapes.specs.Shape.{Near, plus, minus}
use Rattle.bresenham.specs.declared.Parameters.{Parameters}
use Rattle.bresenham.specs.declared.Bresenham.{Bresenham}
use Rattle.bresenham.specs.declared.Met.{Met}
use Rattle.bresenham.specs.Walk.{place_of, Fair, next_all, previous_all, increased, decreased}
use Rattle.parallels.specs.declared.Plan.{Plan}
use Rattle.parallels.specs.declared.Flank.{Flank}
use Rattle.parallels.specs.declared.Turn.{Turn}
use Rattle.parallels.specs.declared.Taken.{Taken}
use Rattle.parallels.specs.Parallels.{across, due, owed, falls, bent, turn_at, turn_of, next_parallel, Sound, Ranged, Bounded, Steady, Reach}

-- ---- a step moves a coordinate by at most one

record Moved (o p q : Point) : Type 0 where
  x-moved : nat_abs (q.x -ℤ o.x) ≤ nat_abs (p.x -ℤ o.x) + 1
  y-moved : nat_abs (q.y -ℤ o.y) ≤ nat_abs (p.y -ℤ o.y) + 1

-- forward on the left, back on the right
abbrev went : Side → Point → Point → Point
went Left p m = plus p m
went Right p m = minus p m

moved : {m : Point} (side : Side) (p : Point) → Near 1 m → (o : Point) → Moved o p (went side p m)
unfolding plus minus
moved {m} Left p h o = record { x-moved = far-step p.x m.x o.x h.x_near.bound; y-moved = far-step p.y m.y o.y h.y_near.bound }
moved {m} Right p h o = record { x-moved = far-back p.x m.x o.x h.x_near.bound; y-moved = far-back p.y m.y o.y h.y_near.bound }

-- ---- one step across a side

-- an Extra step leaves none due, and there is one only where the major error step is not 0
record Settled (p : Parameters) (side : Side) (e : ℤ) : Type 0 where
  ranged : Ranged p e
  settled : due p side e ≡ false
  grows : pos 1 ≤ℤ p.gain

-- what a step from b has met, and where it leads
data Crossed (p : Parameters) (side : Side) (b : Bresenham) : Met → Type 0 where
  extra : {q : Point} {e : ℤ} → due p side b.error ≡ true → Settled p side e → ((o : Point) → Moved o b.point q) → Crossed p side b (record { point = b.point; extra = true; state = place_of q e })
  normal : {q : Point} {e : ℤ} → due p side b.error ≡ false → Ranged p e → ((o : Point) → Moved o b.point q) → Crossed p side b (record { point = b.point; extra = false; state = place_of q e })

module _ {k : ℕ} {p : Parameters} (f : Fair k p) (b : Bresenham) (r : Ranged p b.error) where
  abbrev a : ℤ
  a = p.threshold

  abbrev g : ℤ
  g = p.gain

  abbrev e : ℤ
  e = b.error

  crossed-by : (side : Side) (t : Bool) → due p side e ≡ t → Crossed p side b (across p side b)
  unfolding next_all previous_all
  crossed-by Left true h =
      rw h (extra {e = e -ℤ p.loss} h (omega (ordered, sum a g, diff (pos 1) a, diff (pos 1 -ℤ a) g, times 2 a, diff e p.loss)) (moved Left b.point f.minor_unit))
  crossed-by Left false h =
      rw h (normal {e = e +ℤ g} h (omega (ordered, sum a g, diff (pos 1) a, diff (pos 1 -ℤ a) g, sum e g)) (moved Left b.point f.major_unit))
  crossed-by Right true h =
      rw h (extra {e = e +ℤ p.loss} h (omega (ordered, sum a g, diff (pos 1) a, diff (pos 1 -ℤ a) g, times 2 a, opp a, sum e p.loss)) (moved Right b.point f.minor_unit))
  crossed-by Right false h =
      rw h (normal {e = e -ℤ g} h (omega (ordered, sum a g, diff (pos 1) a, diff (pos 1 -ℤ a) g, opp a, diff e g)) (moved Right b.point f.major_unit))

  crossed : (side : Side) → Crossed p side b (across p side b)
  crossed side = crossed-by side (due p side e) refl

-- ---- how far a side is from a point o

pub owed-least : (t : Bool) → cond t 1 0 ≤ 1
owed-least true = le_refl 1
owed-least false = omega arith

module _ {p : Parameters} (side : Side) (b : Bresenham) where
  reach_step : {o : Point} {n : ℕ} {m : Met} → Crossed p side b m → Reach o n p side b → Reach o (n + cond m.extra 0 2) p side m.state
  reach_step {o} (extra {e} h s v) r =
      let one : owed p side b.error ≡ 1 = rw h refl in
      let none : owed p side e ≡ 0 = rw s.settled refl in
      omega (arith, v o)
  reach_step {o} (normal {e} h s v) r = omega (arith, v o, owed-least (due p side e))

  -- an Extra step pays what is owed, a Normal one may owe one
  spent-step : {m : Met} → Crossed p side b m → owed p side m.state.error + 1 ≤ owed p side b.error + cond m.extra 0 2
  spent-step (extra {e} h s v) =
      let one : owed p side b.error ≡ 1 = rw h refl in
      let none : owed p side e ≡ 0 = rw s.settled refl in
      omega arith
  spent-step (normal {e} h s v) = omega (arith, owed-least (due p side e))

pub reach-more : {o : Point} {n m : ℕ} {p : Parameters} {side : Side} {b : Bresenham} → Reach o n p side b → n ≤ m → Reach o m p side b
reach-more r h = omega arith

-- ---- the error of a parallel's first point

module _ {k : ℕ} {p : Parameters} (f : Fair k p) (e : ℤ) (r : Bounded p e) where
  risen : (t : Bool) → lt_z p.threshold (e +ℤ p.gain) ≡ t → Bounded p (increased p e).error
  unfolding increased
  risen true h = rw h (omega (ordered, opp p.threshold, times 2 p.threshold, sum e p.gain, diff (e +ℤ p.gain) p.loss))
  risen false h = rw h (omega (ordered, opp p.threshold, sum e p.gain))

  fallen : (t : Bool) → le_z (e -ℤ p.gain) (neg_ℤ p.threshold) ≡ t → Bounded p (decreased p e).error
  unfolding decreased
  fallen true h = rw h (omega (ordered, opp p.threshold, times 2 p.threshold, diff e p.gain, sum (e -ℤ p.gain) p.loss))
  fallen false h = rw h (omega (ordered, opp p.threshold, diff e p.gain))

  bent-bounded : (falling : Bool) → Bounded p (bent p falling e).first × Bounded p (bent p falling e).error
  unfolding bent
  bent-bounded true = (r, fallen _ refl)
  bent-bounded false = let up = risen _ refl in (up, up)

-- ---- the next parallel of a side, and one turn of it

-- a point is at most n from o in each axis
pub record Away (o : Point) (n : ℕ) (q : Point) : Type 0 where
  pub x-away : nat_abs (q.x -ℤ o.x) ≤ n
  pub y-away : nat_abs (q.y -ℤ o.y) ≤ n

pub away-more : {o q : Point} {m n : ℕ} → Away o m q → m ≤ n → Away o n q
away-more a h = omega arith

away-at : {o : Point} {n : ℕ} {p : Parameters} {side : Side} {b : Bresenham} → Reach o n p side b → Away o n b.point
away-at r = omega arith

pub record Took (plan : Plan) (side : Side) (f : Flank) (t : Taken) : Type 0 where
  pub steady : Steady plan t.flank
  pub first-bounded : Bounded plan.parallel t.start.error
  pub away : {o : Point} {n : ℕ} → Reach o n plan.perpendicular side f.at → Away o n t.start.point
  pub reach : {o : Point} {n : ℕ} → Reach o n plan.perpendicular side f.at → Reach o (n + cond t.extra 0 2) plan.perpendicular side t.flank.at
  pub grows : t.extra ≡ true → pos 1 ≤ℤ plan.perpendicular.gain
  pub spent : owed plan.perpendicular side t.flank.at.error + 1 ≤ owed plan.perpendicular side f.at.error + cond t.extra 0 2

-- a point that is passed over is an Extra one, and the next is not
pub record Turned (plan : Plan) (side : Side) (f : Flank) (t : Turn) : Type 0 where
  pub took : Took plan side f t.taken
  pub passed : t.met ≡ false → (t.taken.extra ≡ true) × (due plan.perpendicular side t.taken.flank.at.error ≡ false)
  pub normal : due plan.perpendicular side f.at.error ≡ false → t.met ≡ true

module _ {w : ℕ} {plan : Plan} (s : Sound w plan) (side : Side) {f : Flank} (h : Steady plan f) where
  turned_by : {m : Met} → Crossed plan.perpendicular side f.at m → Turned plan side f (turn_at plan side f.error m)
  turned_by (extra e c v) =
      let b = bent-bounded s.along_fair f.error h.bounded (falls plan.flip side) in
      record {
        took = record {
          steady = record { ranged = c.ranged; bounded = b.1 };
          first-bounded = b.0;
          away = λ r. away-at r;
          reach = λ r. reach_step side f.at (extra e c v) r;
          grows = λ _. c.grows;
          spent = spent-step side f.at (extra e c v);
        };
        passed = λ _. (refl, c.settled);
        normal = λ none. absurd (clash e none);
      }
  turned_by (normal e c v) =
      record {
        took = record {
          steady = record { ranged = c; bounded = h.bounded };
          first-bounded = h.bounded;
          away = λ r. away-at r;
          reach = λ r. reach_step side f.at (normal e c v) r;
          grows = λ x. absurd (false≢true x);
          spent = spent-step side f.at (normal e c v);
        };
        passed = λ x. absurd (false≢true (sym x));
        normal = λ _. refl;
      }

  pub turned : Turned plan side f (turn_of plan side f)
  unfolding turn_of
  turned = turned_by (crossed s.across_fair f.at h.ranged side)

module _ {w : ℕ} {plan : Plan} (s : Sound w plan) (side : Side) {f : Flank} (h : Steady plan f) where
  -- 01, thick_points: at most one point is passed over
  pub passed-once : (turn_of plan side f).met ≡ false → (turn_of plan side (turn_of plan side f).taken.flank).met ≡ true
  passed-once e = let t = turned s side h in (turned s side t.took.steady).normal (t.passed e).1

  took_by : (x : Bool) → (turn_of plan side f).met ≡ x → Took plan side f (next_parallel plan side f)
  unfolding next_parallel
  took_by true e = rw e (turned s side h).took
  took_by false e =
      let one = turned s side h in
      let two = (turned s side one.took.steady).took in
      let is-extra = (one.passed e).0 in
      let once = rw is-extra at one.took.spent in
      let kept : (o : Point) (n : ℕ) → Reach o n plan.perpendicular side f.at → Reach o n plan.perpendicular side (turn_of plan side f).taken.flank.at = λ o n r. reach-more (rw is-extra at (one.took.reach r)) (omega arith) in
      rw e (record { steady = two.steady; first-bounded = two.first-bounded; away = λ r. two.away (kept _ _ r); reach = λ r. two.reach (kept _ _ r); grows = two.grows; spent = omega (arith, two.spent, once) })

  pub took : Took plan side f (next_parallel plan side f)
  took = took_by (turn_of plan side f).met refl

  pub passed_over : (turn_of plan side f).met ≡ false → next_parallel plan side (turn_of plan side f).taken.flank ≡ next_parallel plan side f
  unfolding next_parallel
  passed_over e = rw (passed-once e, e) refl

pub met-here : (plan : Plan) (side : Side) (f : Flank) → (turn_of plan side f).met ≡ true → (turn_of plan side f).taken ≡ next_parallel plan side f
unfolding next_parallel
met-here plan side f e = rw e refl
