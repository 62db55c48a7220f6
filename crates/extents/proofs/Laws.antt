-- The edges of a thick line, without the code: how far they are from the line, and that a stroke of width 0 is the line
-- itself. Assumes nothing.
use mathlib.Core.Path.{◌≡◌, refl}
use mathlib.Core.Bool.{Bool, true, false}
use mathlib.Core.List.{[]}
use Prim.Native.Nat.{ℕ, zero, suc, ◌+◌, ◌*◌, ◌≤◌}
use native.Mathlib.Nat.{le_refl}
use native.Mathlib.Omega.{arith}
use lib.IntN.{ℤ, pos, nat_abs}
use Rattle.whole.proofs.Steps.{far_none, there_and_back, end_near, short-near}
use Rattle.shapes.specs.declared.Point.{Point}
use Rattle.shapes.specs.declared.Line.{Line}
use Rattle.shapes.specs.declared.Side.{Side}
use Rattle.shapes.specs.declared.Side.TheVariants.{Left, Right}
use Rattle.shapes.specs.declared.Offset.{Offset}
use Rattle.shapes.specs.Limits.{width_limit, line_limit, thick_limit}
use Rattle.shapes.specs.Shape.{Near, LineNear, plus, minus, delta}
use Rattle.shapes.specs.Strokes.{Thin}
use Rattle.shapes.proofs.Laws.{near-more, line-near-more}
use Rattle.shapes.proofs.Widths.{thin-within}
use Rattle.bresenham.specs.declared.Parameters.{Parameters}
use Rattle.bresenham.specs.Walk.{Fair}
use Rattle.parallels.specs.declared.Plan.{Plan}
use Rattle.parallels.specs.declared.Parallels.{Parallels}
use Rattle.parallels.specs.declared.Parallel.{Parallel}
use Rattle.parallels.specs.Parallels.{is_done, yield_of, parallels_from, spare, parallels, parallels_of, plan_of, parallels_start, Sound, Begun, Going}
use Rattle.parallels.proofs.Steps.{Away}
use Rattle.parallels.proofs.Laws.{shift, yield-away, going_next, parallels-end, done-at-zero}
use Rattle.parallels.proofs.Plans.{going_start, sound-plan}
use Rattle.parallels.proofs.Room.{near-away, begun-turn}
use Rattle.extents.specs.declared.Edge.{Edge}
use Rattle.extents.specs.Sides.{Ends}
use Rattle.extents.specs.Sides.{Edges}
use Rattle.extents.specs.Edges.{placed, seen, lasts, fresh_edge, fresh_ends, closed, extents_of, EdgesNear}

-- ---- the edges begin at most 4w + 1 from the line's start, in each axis

pub record EndsAway (o : Point) (n : ℕ) (s : Ends) : Type 0 where
  pub left-away : Away o n s.left.point
  pub right-away : Away o n s.right.point

placed-away : {o : Point} {n : ℕ} (side : Side) (e : Edge) (s : Ends) → EndsAway o n s → Away o n e.point → EndsAway o n (placed side e s)
placed-away Left e s h a = record { left-away = a; right-away = h.right-away }
placed-away Right e s h a = record { left-away = h.left-away; right-away = a }

seen-away : {o : Point} {n : ℕ} (s : Ends) (p : Parallel) → EndsAway o n s → Away o n p.start.point → EndsAway o n (seen s p)
unfolding seen
seen-away s p h a = placed-away p.side (record { point = p.start.point; extra = p.extra }) s h a

module _ (w : ℕ) (plan : Plan) (h : Sound w plan) (o : Point) where
  lasts-by : (n : ℕ) (s : Parallels) (ends : Ends) (t : Bool) → is_done plan s ≡ t → Going w plan o s → EndsAway o (shift w) ends → EndsAway o (shift w) (lasts ends (parallels_from n plan s))
  unfolding lasts parallels_from
  lasts-by zero s ends t e g a = a
  lasts-by (suc n) s ends true e g a = rw e a
  lasts-by (suc n) s ends false e g a =
      let p = (yield_of plan s).parallel in
      let s₁ = (yield_of plan s).state in
      rw e (lasts-by n s₁ (seen ends p) (is_done plan s₁) refl (going_next w plan h o s g e) (seen-away ends p a (yield-away w plan h o s g e)))

  pub lasts-away : (s : Parallels) (ends : Ends) → Going w plan o s → EndsAway o (shift w) ends → EndsAway o (shift w) (lasts ends (parallels plan s))
  unfolding parallels
  lasts-away s ends g a = lasts-by (spare plan s) s ends (is_done plan s) refl g a

-- ---- the last parallels, one turn of them

pub lasts-end : (plan : Plan) (s : Parallels) (ends : Ends) → is_done plan s ≡ true → lasts ends (parallels plan s) ≡ ends
unfolding lasts
lasts-end plan s ends e = rw (parallels-end plan s e)

pub lasts-turn : {plan : Plan} {s : Parallels} (ends : Ends) → Sound thick_limit plan → Begun thick_limit plan s → is_done plan s ≡ false → lasts ends (parallels plan s) ≡ lasts (seen ends (yield_of plan s).parallel) (parallels plan (yield_of plan s).state)
unfolding lasts
lasts-turn ends h b e = rw (begun-turn h b e)

-- ---- the edges stay near

whole-near : {k m : ℕ} {l : Line} {q : Point} → LineNear k l → Away l.start m q → Near (k + m) (plus q (delta l))
unfolding plus delta minus
whole-near {k} {m} {l} {q} h a =
    record {
      x_near = record { bound = end_near q.x l.start.x l.end.x k m a.x-away h.end_near.x_near.bound };
      y_near = record { bound = end_near q.y l.start.y l.end.y k m a.y-away h.end_near.y_near.bound };
    }

cut-near : {m : ℕ} {q a b : Point} → Near m q → Near 1 a → Near 1 b → Near (m + 2) (minus q (plus a b))
unfolding plus minus
cut-near {m} {q} {a} {b} h p r =
    record {
      x_near = record { bound = short-near q.x a.x b.x m h.x_near.bound p.x_near.bound r.x_near.bound };
      y_near = record { bound = short-near q.y a.y b.y m h.y_near.bound p.y_near.bound r.y_near.bound };
    }

closed-by : {j k m : ℕ} {along : Parameters} {l : Line} (e : Edge) (t : Bool) → e.extra ≡ t → Fair j along → LineNear k l → Away l.start m e.point → LineNear (k + m + 2) (closed l along e)
unfolding closed
closed-by e true x f h a =
    rw x (record { start_near = near-more (near-away h.start_near a) (omega arith); end_near = cut-near (whole-near h a) f.major_unit f.minor_unit })
closed-by e false x f h a =
    rw x (record { start_near = near-more (near-away h.start_near a) (omega arith); end_near = near-more (whole-near h a) (omega arith) })

fresh-away : (w : ℕ) (o : Point) → Away o (shift w) o
fresh-away w o = record { x-away = omega (arith, far_none o.x); y-away = omega (arith, far_none o.y) }

module _ (k w : ℕ) (l : Line) (width : ℤ) (offset : Offset) (h : LineNear k l) (fits : k ≤ line_limit) (small : nat_abs width ≤ w) where
  abbrev plan : Plan
  plan = plan_of l width offset

  sound : Sound w plan
  sound = sound-plan l width offset (line-near-more h fits) small

  pub ends-away : EndsAway l.start (shift w) (lasts (fresh_ends l) (parallels_of l width offset))
  unfolding parallels_of
  ends-away =
      lasts-away w plan sound l.start (parallels_start plan l.start) (fresh_ends l) (going_start w plan sound l.start)
      (record { left-away = fresh-away w l.start; right-away = fresh-away w l.start })

  -- over the limits: the edges of a line within k, for a width up to w, are within k + 4w + 3
  pub edges-near : EdgesNear (k + (4 * w + 3)) (extents_of l width offset)
  unfolding extents_of
  edges-near =
      let e = lasts (fresh_ends l) (parallels_of l width offset) in
      let n : k + shift w + 2 ≤ k + (4 * w + 3) = omega arith in
      record {
        left_near = line-near-more (closed-by e.left e.left.extra refl sound.along_fair h ends-away.left-away) n;
        right_near = line-near-more (closed-by e.right e.right.extra refl sound.along_fair h ends-away.right-away) n;
      }

pub edges_more : {j k : ℕ} {e : Edges} → EdgesNear j e → j ≤ k → EdgesNear k e
edges_more h le = record { left_near = line-near-more h.left_near le; right_near = line-near-more h.right_near le }

-- 01: edges of an accepted route stay within 1,023. Over the limits: a line within k has edges within j for every width from 0 to 64,
-- where j leaves room for them; 511 and 1,023 do, and 2,047 and 2,559
pub edges-within : {j k : ℕ} (l : Line) {width : ℤ} (offset : Offset) → LineNear k l → Thin width → k ≤ line_limit → k + (4 * width_limit + 3) ≤ j → EdgesNear j (extents_of l width offset)
edges-within {k} l {width} offset near thin fits room = edges_more (edges-near k width_limit l width offset near fits (thin-within thin).bound) room

-- ---- width 0

pub closed-fresh : (l : Line) (along : Parameters) → closed l along (fresh_edge l) ≡ l
unfolding closed plus delta minus
closed-fresh l along = simp (there_and_back l.start.x l.end.x, there_and_back l.start.y l.end.y)

none_at_zero : (l : Line) (offset : Offset) → LineNear line_limit l → parallels_of l (pos 0) offset ≡ []
unfolding parallels_of
none_at_zero l offset h =
    let plan = plan_of l (pos 0) offset in
    let sound = sound-plan {w = 0} l (pos 0) offset h (le_refl 0) in
    let going = going_start 0 plan sound l.start in
    let s = parallels_start plan l.start in
    parallels-end plan s (done-at-zero s sound going)

-- both edges lie on the line itself
pub edges-at-zero : (l : Line) (offset : Offset) → LineNear line_limit l → extents_of l (pos 0) offset ≡ record { left = l; right = l }
unfolding extents_of lasts
edges-at-zero l offset h = rw (none_at_zero l offset h, closed-fresh l (plan_of l (pos 0) offset).parallel)
