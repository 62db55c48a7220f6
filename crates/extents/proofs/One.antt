-- A stroke of width 1 is the line itself: of its parallels the first is the line, and no second follows. Assumes nothing.
use mathlib.Core.Path.{◌≡◌, refl, sym, ap, ◌∙◌}
use mathlib.Core.Bool.{true, false}
use Prim.Native.Nat.{ℕ, ◌+◌, ◌*◌, ◌≤◌, ◌<◌}
use native.Mathlib.Nat.{mul-le-mul}
use native.Mathlib.Omega.{arith}
use borrow.Author.Tests.{le-ltb, lt-ltb}
use lib.Dec.{lit≤}
use lib.IntN.{pos, ◌+ℤ◌, ◌*ℤ◌}
use Rattle.whole.proofs.Linear.{linear}
use Rattle.whole.proofs.Squares.{two-squares}
use Rattle.shapes.specs.declared.Point.{Point}
use Rattle.shapes.specs.declared.Line.{Line}
use Rattle.shapes.specs.declared.Side.{Side}
use Rattle.shapes.specs.declared.Side.TheVariants.{Left, Right}
use Rattle.shapes.specs.declared.Offset.{Offset}
use Rattle.shapes.specs.Limits.{line_limit, thick_limit}
use Rattle.shapes.specs.Shape.{LineNear}
use Rattle.bresenham.specs.Walk.{along, next_all, previous_all}
use Rattle.bresenham.proofs.Laws.{longer, shorter, sides, parameters-are}
use Rattle.parallels.specs.declared.Plan.{Plan}
use Rattle.parallels.specs.declared.Parallels.{Parallels}
use Rattle.parallels.specs.declared.Parallel.{Parallel}
use Rattle.parallels.specs.declared.Taken.{Taken}
use Rattle.parallels.specs.Parallels.{due, first_side, flank_at, fresh_flank, turn_of, next_parallel, aimed, plan_along, plan_of, parallels_start, is_done, grown, Yielded, yield_of, parallels_of, Sound, Begun}
use Rattle.parallels.proofs.Laws.{this-flank}
use Rattle.parallels.proofs.Plans.{fresh-due, thickness-of, begins-with, sound-plan}
use Rattle.parallels.proofs.Room.{begun-start}
use Rattle.extents.specs.Edges.{placed, seen, lasts, fresh_edge, fresh_ends, extents_of}
use Rattle.extents.proofs.Laws.{closed-fresh, lasts-end, lasts-turn}

-- ---- what the first two tests compare, a and b being the larger and the smaller delta

module _ (a b : ℕ) (less : b ≤ a) where
  one_follows : (a + b) * (a + b) ≤ 4 * (a * a + b * b)
  one_follows = omega (arith, two-squares a b)

  none-follows : 1 ≤ a → 4 * (a * a + b * b) < (a + b + 2 * a) * (a + b + 2 * a)
  none-follows some = omega (arith, mul-le-mul {n₁ = b} {m₁ = b} {n₂ = a} {m₂ = b} less (omega arith), mul-le-mul {n₁ = 1} {m₁ = 1} {n₂ = a} {m₂ = a} some some)

-- ---- the first parallel is the line itself

-- a step from the start, where none is due
record Fresh (p : Point) (t : Taken) : Type 0 where
  at-start : t.start.point ≡ p
  normal : t.extra ≡ false

fresh-taken : (plan : Plan) (p : Point) (side : Side) → due plan.perpendicular side (pos 0) ≡ false → Fresh p (next_parallel plan side (fresh_flank p))
unfolding next_parallel turn_of next_all previous_all
fresh-taken plan p Left e = rw e (record { at-start = refl; normal = refl })
fresh-taken plan p Right e = rw e (record { at-start = refl; normal = refl })

module _ (plan : Plan) (p : Point) (none : (side : Side) → due plan.perpendicular side (pos 0) ≡ false) where
  abbrev start : Parallels
  start = parallels_start plan p

  first-is : flank_at start.side start ≡ fresh_flank p
  unfolding parallels_start
  first-is = this-flank (first_side plan.offset) _ (fresh_flank p) _ _

  first_taken : Fresh p (next_parallel plan start.side (flank_at start.side start))
  first_taken = rw first-is (fresh-taken plan p start.side (none start.side))

  first-grown : (yield_of plan start).state.accumulator ≡ start.accumulator +ℤ plan.perpendicular.loss
  unfolding yield_of grown
  first-grown = rw first_taken.normal

-- ---- so both edges lie on the line

seen-fresh : (l : Line) (q : Parallel) → q.start.point ≡ l.start → q.extra ≡ false → seen (fresh_ends l) q ≡ fresh_ends l
unfolding seen
seen-fresh l q e f = rw (e, f) (by q.side)
  where
    by : (side : Side) → placed side (fresh_edge l) (fresh_ends l) ≡ fresh_ends l
    by Left = refl
    by Right = refl

module _ (l : Line) (offset : Offset) (near : LineNear line_limit l) where
  abbrev plan : Plan
  plan = plan_of l (pos 1) offset

  abbrev d : Point
  d = aimed l

  sound : Sound thick_limit plan
  sound = sound-plan l (pos 1) offset near (lit≤ tt)

  begun : Begun thick_limit plan (parallels_start plan l.start)
  begun = begun-start sound near.start_near

  none-due : (side : Side) → due plan.perpendicular side (pos 0) ≡ false
  none-due = fresh-due thick_limit plan sound l.start

  -- the larger delta is at least 1, and the accumulator grows by twice of it
  some : 1 ≤ longer d
  unfolding plan_of plan_along along
  some = let h = rw (parameters-are d) at sound.along_fair.some in omega (linear, h)

  grows-by : plan.perpendicular.loss ≡ pos (2 * longer d)
  unfolding plan_of plan_along along
  grows-by = sound.across_fair.loss_is ∙ ap (λ a. pos 2 *ℤ a) (sym sound.level ∙ ap (λ p. p.threshold) (parameters-are d))

  begins : (parallels_start plan l.start).accumulator ≡ pos (longer d + shorter d)
  unfolding parallels_start plan_of plan_along
  begins = begins-with d

  thick : plan.threshold ≡ pos (4 * (longer d * longer d + shorter d * shorter d))
  unfolding plan_of plan_along
  thick = thickness-of 1 d

  first-follows : is_done plan (parallels_start plan l.start) ≡ false
  unfolding is_done
  first-follows = rw (begins, thick) (le-ltb _ _ (one_follows (longer d) (shorter d) (sides d).less))

  abbrev first : Yielded
  first = yield_of plan (parallels_start plan l.start)

  second-not : is_done plan first.state ≡ true
  unfolding is_done
  second-not = rw (first-grown plan l.start none-due, begins, grows-by, thick) (lt-ltb _ _ (none-follows (longer d) (shorter d) (sides d).less some))

  lasts-fresh : lasts (fresh_ends l) (parallels_of l (pos 1) offset) ≡ fresh_ends l
  unfolding parallels_of yield_of
  lasts-fresh =
      let taken = first_taken plan l.start none-due in
      lasts-turn (fresh_ends l) sound begun first-follows ∙ lasts-end plan first.state (seen (fresh_ends l) first.parallel) second-not
      ∙ seen-fresh l first.parallel taken.at-start taken.normal

  pub edges-at-one : extents_of l (pos 1) offset ≡ record { left = l; right = l }
  unfolding extents_of
  edges-at-one = rw (lasts-fresh, closed-fresh l plan.parallel)
