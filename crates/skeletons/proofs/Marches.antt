-- The edges of a line and their counts: the last parallels of both sides are those that the counts end with. Assumes nothing.
use mathlib.Core.Path.{◌≡◌, refl, ap, ◌∙◌, subst}
use mathlib.Core.Bool.{Bool, true, false, cond}
use Prim.Native.Nat.{ℕ, zero, suc, ◌+◌, ◌*◌, ◌-◌, ◌≤◌}
use native.Mathlib.Omega.{arith}
use borrow.Author.Tests.{le-ltb}
use lib.Dec.{ltb}
use lib.IntN.{ℤ, pos, ◌-ℤ◌}
use Rattle.whole.proofs.Linear.{linear, sum, diff}
use Rattle.whole.proofs.Ring.{con, ◌⊕◌, ◌⊖◌, ◌⊗◌, ◌≈◌, ring}
use Rattle.shapes.specs.declared.Point.{Point}
use Rattle.shapes.specs.declared.Line.{Line}
use Rattle.shapes.specs.declared.Side.{Side}
use Rattle.shapes.specs.declared.Side.TheVariants.{Left, Right}
use Rattle.shapes.specs.declared.Offset.TheVariants.{None}
use Rattle.shapes.specs.Limits.{line_limit, thick_limit}
use Rattle.shapes.specs.Shape.{LineNear, minus, dot_product}
use Rattle.bresenham.proofs.Laws.{longer, shorter}
use Rattle.parallels.specs.declared.Plan.{Plan}
use Rattle.parallels.specs.declared.Parallels.{Parallels}
use Rattle.parallels.specs.declared.Taken.{Taken}
use Rattle.parallels.specs.Parallels.{swapped, followed, flank_at, sided, falls, next_parallel, is_done, grown, yield_of, parallels_from, fresh_flank, parallels_start, aimed, plan_along, plan_of, parallels_of, spare, parallels, Sound, Steady, Going}
use Rattle.parallels.proofs.Laws.{this-flank, other-flank, going_next}
use Rattle.parallels.proofs.Plans.{thickness-of, begins-with, going_start, sound-plan, ready-fresh}
use Rattle.extents.specs.declared.Edge.{Edge}
use Rattle.extents.specs.Sides.{Ends}
use Rattle.extents.specs.Edges.{placed, seen, lasts, fresh_ends}
use Rattle.skeletons.specs.Treads.{Mark, March, Arrived, tread_of, trod, trod_by, stepped, arrived_at, march, set_out, most_of, marched}
use Rattle.skeletons.proofs.Legs.{measured}
use Rattle.skeletons.proofs.Outward.{none-outward}
use Rattle.skeletons.proofs.Strides.{Measured, upward, Strode, Stands, trodden}

abbrev pub edge_at : Side → Ends → Edge
edge_at Left s = s.left
edge_at Right s = s.right

-- an edge starts where the counts say
pub record Marked (plan : Plan) (o : Point) (side : Side) (e : Edge) (m : Mark) : Type 0 where
  pub extra : e.extra ≡ m.extra
  pub strode : Strode plan o side e.point m.n m.e

-- both edges do
pub record Ended (plan : Plan) (o : Point) (ends : Ends) (r : Arrived) : Type 0 where
  pub left : Marked plan o Left ends.left r.left
  pub right : Marked plan o Right ends.right r.right

-- both sides stand as the counts say, and so do the edges so far
record Marches (plan : Plan) (a b : ℕ) (o : Point) (side : Side) (s : Parallels) (ends : Ends) (r : March) : Type 0 where
  this : Stands plan a b o side (flank_at side s) r.this
  other : Stands plan a b o (swapped side) (flank_at (swapped side) s) r.other
  here : Marked plan o side (edge_at side ends) r.here
  there : Marked plan o (swapped side) (edge_at (swapped side) ends) r.there
  sum_is : s.accumulator ≡ pos r.sum

-- ---- one parallel more

this-edge : (side : Side) (e : Edge) (s : Ends) → edge_at side (placed side e s) ≡ e
this-edge Left e s = refl
this-edge Right e s = refl

other_edge : (side : Side) (e : Edge) (s : Ends) → edge_at (swapped side) (placed side e s) ≡ edge_at (swapped side) s
other_edge Left e s = refl
other_edge Right e s = refl

-- what holds of a side holds of it turned twice
twice : (P : Side → Type 0) (side : Side) → P side → P (swapped (swapped side))
twice P Left h = h
twice P Right h = h

-- what is added to the accumulator
grown-is : {plan : Plan} {a b : ℕ} (m : Measured plan a b) {acc : ℤ} {n : ℕ} (x : Bool) → acc ≡ pos n → grown plan acc x ≡ pos (n + cond x (2 * b) (2 * a))
unfolding grown
grown-is {plan} m {acc} true e = omega (linear, m.across-is, sum acc plan.perpendicular.gain)
grown-is {plan} m {acc} false e = omega (linear, m.across-is, sum acc plan.perpendicular.loss)

module _ {plan : Plan} {a b : ℕ} (m : Measured plan a b) (both : plan.offset ≡ None) {w : ℕ} (sound : Sound w plan) (o : Point) where
  -- the next parallel on a side, and the state and the edges after it
  abbrev taken : Side → Parallels → Taken
  taken side s = next_parallel plan side (flank_at side s)

  abbrev after : Side → Parallels → Parallels
  after side s = sided side (taken side s).flank (flank_at (swapped side) s) (grown plan s.accumulator (taken side s).extra) (swapped side)

  abbrev edged : Side → Parallels → Edge
  edged side s = record { point = (taken side s).start.point; extra = (taken side s).extra }

  module _ {side : Side} (s : Parallels) (is : s.side ≡ side) where
    after_is : (yield_of plan s).state ≡ after side s
    unfolding yield_of
    after_is = ap (λ offset. sided s.side (taken s.side s).flank (flank_at (swapped s.side) s) (grown plan s.accumulator (taken s.side s).extra) (followed offset s.side)) both ∙ ap (λ x. after x s) is

    seen-is : (ends : Ends) → seen ends (yield_of plan s).parallel ≡ placed side (edged side s) ends
    unfolding seen yield_of
    seen-is ends = ap (λ x. placed x (edged x s) ends) is

  module _ (side : Side) {s : Parallels} {ends : Ends} {r : March} (h : Marches plan a b o side s ends r) (steady : Steady plan (flank_at side s)) where
    step-marches : Marches plan a b o (swapped side) (after side s) (placed side (edged side s) ends) (stepped a b plan.flip side r)
    unfolding stepped
    step-marches =
        let t = trodden m side sound steady h.this in
        let counts = trod a b side (falls plan.flip side) r.this in
        record {
          this = rw (other-flank side _ _ _ _) h.other;
          other = twice (λ x. Stands plan a b o x (flank_at x (after side s)) counts.after) side (rw (this-flank side _ _ _ _) t.stands);
          here = rw (other_edge side _ ends) h.there;
          there = twice (λ x. Marked plan o x (edge_at x (placed side (edged side s) ends)) counts.mark) side (rw (this-edge side _ ends) (record { extra = t.extra; strode = t.strode }));
          sum_is = grown-is m (taken side s).extra h.sum_is ∙ ap (λ x. pos (r.sum + cond x (2 * b) (2 * a))) t.extra;
        }

  -- after all of them the edges are where the counts end
  arrived : (side : Side) {s : Parallels} {ends : Ends} {r : March} → Marches plan a b o side s ends r → Ended plan o ends (arrived_at side r)
  arrived Left h = record { left = h.here; right = h.there }
  arrived Right h = record { left = h.there; right = h.here }

  module _ {most : ℕ} (limit : plan.threshold ≡ pos most) where
    done-is : {side : Side} {s : Parallels} {ends : Ends} {r : March} → Marches plan a b o side s ends r → is_done plan s ≡ ltb most (r.sum * r.sum)
    unfolding is_done
    done-is h = rw (limit, h.sum_is)

    marched-by : (n : ℕ) (t : Bool) {side : Side} {s : Parallels} {ends : Ends} {r : March} → ltb most (r.sum * r.sum) ≡ t → s.side ≡ side → Going w plan o s → Marches plan a b o side s ends r
        → Ended plan o (lasts ends (parallels_from n plan s)) (march n a b plan.flip most side r)
    unfolding lasts parallels_from march
    marched-by zero t {side} e is g h = arrived side h
    marched-by (suc n) true {side} e is g h = rw (done-is h ∙ e, e) (arrived side h)
    marched-by (suc n) false {side} {s} {ends} {r} e is g h =
        let more = done-is h ∙ e in
        let s₁ = (yield_of plan s).state in
        let r₁ = stepped a b plan.flip side r in
        rw (more, e)
        (marched-by n (ltb most (r₁.sum * r₁.sum)) {side = swapped side} {s = s₁} {ends = seen ends (yield_of plan s).parallel} {r = r₁} refl (ap (λ x. x.side) (after_is s is)) (going_next w plan sound o s g more) (rw (after_is s is, seen-is s is ends) (step-marches side h (g.paid side).steady)))

-- ---- from the line itself on

pub still : (u o : Point) → dot_product u (minus o o) ≡ pos 0
unfolding dot_product minus
still u o = ring 4 (λ x y v w. x ⊗ (v ⊖ v) ⊕ y ⊗ (w ⊖ w) ≈ con (pos 0)) refl u.x u.y o.x o.y

none-upward : (falling : Bool) → upward falling (pos 0) ≡ pos 0
none-upward true = refl
none-upward false = refl

module _ {plan : Plan} (o : Point) where
  strode-none : (side : Side) → Strode plan o side o 0 0
  strode-none side = record { major = none-outward side _ (still plan.perpendicular.major o); minor = none-outward side _ (still plan.perpendicular.minor o) }

  stands-fresh : (a b : ℕ) (side : Side) → Stands plan a b o side (fresh_flank o) (tread_of 0 0 0)
  stands-fresh a b side =
      let nothing : (m n : ℕ) → pos 0 ≡ pos (2 * m * 0) -ℤ pos (2 * n * 0) = λ m n. omega (linear, diff (pos (2 * m * 0)) (pos (2 * n * 0))) in
      record { strode = strode-none side; error = none-outward side (pos 0) refl ∙ nothing b a; kept = none-upward (falls plan.flip side) ∙ nothing b a }

-- the left side skips the line itself
skipped-is : (a b : ℕ) (falling : Bool) → (trod a b Left falling (tread_of 0 0 0)).after ≡ tread_of 1 0 0
unfolding trod trod_by
skipped-is a b falling = let test : ltb (2 * a * 0 + a) (2 * b * 0) ≡ false = le-ltb (2 * a * 0 + a) (2 * b * 0) (omega arith) in rw test

-- the deltas of a line, in the order of their size
abbrev pub larger : Line → ℕ
larger l = longer (aimed l)

abbrev pub smaller : Line → ℕ
smaller l = shorter (aimed l)

module _ (l : Line) (w : ℕ) (near : LineNear line_limit l) (small : w ≤ thick_limit) where
  abbrev plan : Plan
  plan = plan_of l (pos w) None

  abbrev a : ℕ
  a = larger l

  abbrev b : ℕ
  b = smaller l

  sound : Sound thick_limit plan
  sound = sound-plan l (pos w) None near small

  set-out : Marches plan a b l.start Right (parallels_start plan l.start) (fresh_ends l) (set_out a b)
  unfolding parallels_start plan_of plan_along
  set-out =
      let m = measured (aimed l) (pos w) None in
      let fresh = stands-fresh {plan = plan} l.start a b in
      record {
        this = fresh Right;
        other = rw (skipped-is a b (falls plan.flip Left)) at (trodden m Left sound (ready-fresh Left sound near.start_near).steady (fresh Left)).stands;
        here = record { extra = refl; strode = strode-none l.start Right };
        there = record { extra = refl; strode = strode-none l.start Left };
        sum_is = begins-with (aimed l);
      }

  limit : plan.threshold ≡ pos (most_of a b w)
  unfolding plan_of plan_along
  limit = thickness-of w (aimed l)

  enough : spare plan (parallels_start plan l.start) ≡ suc (most_of a b w) - (a + b)
  unfolding spare
  enough = rw (set-out.sum_is, limit)

  -- both edges start where the counts end
  pub edges-marched : Ended plan l.start (lasts (fresh_ends l) (parallels_of l (pos w) None)) (marched a b plan.flip w)
  unfolding parallels_of parallels marched plan_of plan_along parallels_start
  edges-marched =
      let s = parallels_start plan l.start in
      subst (λ n. Ended plan l.start (lasts (fresh_ends l) (parallels_of l (pos w) None)) (march n a b plan.flip (most_of a b w) Right (set_out a b))) enough
      (marched-by (measured (aimed l) (pos w) None) refl sound l.start limit (spare plan s) (ltb (most_of a b w) ((a + b) * (a + b))) refl refl (going_start thick_limit plan sound l.start) set-out)
