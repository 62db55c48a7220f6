-- Parallels and points as numbers in a list, and the walk along a parallel, without the code. Assumes nothing.
use mathlib.Core.Path.{◌≡◌, refl, ap, ◌∙◌}
use mathlib.Core.Bool.{Bool, true, false}
use mathlib.Core.List.{List, [], ◌∷◌, ◌++◌}
use Prim.Native.Nat.{ℕ, zero, suc, ◌+◌, ◌*◌, ◌-◌, ◌^◌, ◌≤◌, ◌<◌}
use native.Mathlib.Nat.{zero-add, mul-le-mul}
use native.Mathlib.Numerals.{sub-one}
use native.Mathlib.Omega.{arith}
use lib.IntN.{ℤ, ◌+ℤ◌, ◌-ℤ◌}
use lib.ListN.{length, drop, set, length-append}
use lib.Seq.{sets, sets-eq}
use lib.Signed.{lt_z}
use Rattle.whole.proofs.Linear.{linear, sum, diff, opp, times, abs-le}
use Rattle.whole.proofs.Bounds.{abs-add}
use Rattle.shapes.specs.declared.Point.{Point}
use Rattle.shapes.specs.declared.Line.{Line}
use Rattle.shapes.specs.declared.Offset.{Offset}
use Rattle.shapes.specs.declared.Offset.TheVariants as offset
use Rattle.shapes.specs.Limits.{line_limit, thick_limit}
use Rattle.shapes.specs.Shape.{LineNear, plus, delta}
use Rattle.shapes.proofs.Laws.{near-delta}
use Rattle.bresenham.specs.declared.Parameters.{Parameters}
use Rattle.bresenham.specs.declared.Bresenham.{Bresenham}
use Rattle.bresenham.specs.Points.{points_from, major_length}
use Rattle.bresenham.specs.Walk.{Fair, Placed, turned, handed, next_of, parameters_of}
use Rattle.bresenham.proofs.Laws.{threshold-natural}
use Rattle.parallels.specs.declared.Plan.{Plan}
use Rattle.parallels.specs.declared.Parallels.{Parallels}
use Rattle.parallels.specs.declared.Parallel.{Parallel}
use Rattle.parallels.specs.Parallels.{delta_limit, Bounded, Sound, Begun, plan_of, is_done, yield_of, parallels, parallels_of}
use Rattle.parallels.proofs.Laws.{yield-away, yield-took, parallels-most, parallels-end}
use Rattle.parallels.proofs.Room.{near-away, begun-turn}
use Rattle.thick_points.specs.declared.inner.Telling.{Telling}
use Rattle.thick_points.specs.declared.inner.Telling.TheVariants.{Start, Points}
use Rattle.thick_points.specs.Listing.{length_on, thick_from, thick_points_of, parallel_numbers, point_numbers, listed, size_of, told_of, told_all, told_numbers, Walk}

-- ---- stores, one after the other

sets-append : (l : List ℤ) (i : ℕ) (xs ys : List ℤ) → sets l i (xs ++ ys) ≡ sets (sets l i xs) (i + length xs) ys
sets-append l i [] ys = ap (λ k. sets l k ys) (omega arith)
sets-append l i (a ∷ xs) ys = sets-append (set l i a) (suc i) xs ys ∙ ap (λ k. sets (sets (set l i a) (suc i) xs) k ys) (omega arith)

pub sets-listed : (out ns : List ℤ) → length ns ≤ length out → sets out 0 ns ≡ listed out ns
unfolding listed
sets-listed out ns h = sets-eq ns out 0 (omega arith) ∙ ap (λ k. ns ++ drop k out) (zero-add (length ns))

pub numbers-length : (ps : List Parallel) → length (parallel_numbers ps) ≡ 4 * length ps
unfolding parallel_numbers
numbers-length [] = refl
numbers-length (p ∷ ps) = omega (arith, numbers-length ps)

pub points-length : (qs : List Point) → length (point_numbers qs) ≡ 2 * length qs
unfolding point_numbers
points-length [] = refl
points-length (q ∷ qs) = omega (arith, points-length qs)

points-append : (xs ys : List Point) → point_numbers (xs ++ ys) ≡ point_numbers xs ++ point_numbers ys
unfolding point_numbers
points-append [] ys = refl
points-append (a ∷ xs) ys = rw (points-append xs ys)

-- ---- the points of a walk

from-length : (n : ℕ) (along : Parameters) (b : Bresenham) → length (points_from n along b) ≡ n
unfolding points_from
from-length zero along b = refl
from-length (suc n) along b = ap suc (from-length n along (next_of along b).state)

-- a line has at least one point, and not many
pub length-few : {l : Line} → LineNear line_limit l → (1 ≤ major_length l) × (major_length l ≤ 65536)
unfolding major_length parameters_of
length-few {l} h = (omega arith, omega (arith, (threshold-natural (delta l) (near-delta h)).1))

pub point-end : (out : List ℤ) (at n : ℕ) (along : Parameters) (b : Bresenham) → n ≤ 0 → sets out at (point_numbers (points_from n along b)) ≡ out
unfolding point_numbers points_from
point-end out at zero along b h = refl
point-end out at (suc n) along b h = absurd (omega arith)

pub point-turn : (out : List ℤ) (at n : ℕ) (along : Parameters) (b : Bresenham) → 0 < n
    → sets out at (point_numbers (points_from n along b)) ≡ sets (sets out at ((next_of along b).point.x ∷ (next_of along b).point.y ∷ [])) (at + 2) (point_numbers (points_from (n - 1) along (next_of along b).state))
unfolding point_numbers points_from
point-turn out at zero along b h = absurd (omega arith)
point-turn out at (suc n) along b h =
    let q = (next_of along b).point in
    rw sub-one (sets-append out at (q.x ∷ q.y ∷ []) (point_numbers (points_from n along (next_of along b).state)))

-- ---- what is told of each parallel

told-size : (telling : Telling) (n : ℕ) (along : Parameters) (p : Parallel) → length (told_of telling n along p) ≡ size_of telling n p.extra
told-size Start n along p = refl
told-size Points n along p = points-length (points_from (length_on n p.extra) along p.start) ∙ ap (λ k. 2 * k) (from-length (length_on n p.extra) along p.start)

told-starts : (n : ℕ) (along : Parameters) (ps : List Parallel) → told_all Start n along ps ≡ parallel_numbers ps
unfolding told_all parallel_numbers
told-starts n along [] = refl
told-starts n along (p ∷ ps) = rw (told-starts n along ps)

told-points : (n : ℕ) (along : Parameters) (ps : List Parallel) → told_all Points n along ps ≡ point_numbers (thick_from n along ps)
unfolding told_all thick_from point_numbers
told-points n along [] = refl
told-points n along (p ∷ ps) = rw (points-append (points_from (length_on n p.extra) along p.start) (thick_from n along ps), told-points n along ps)

-- of a line
pub line-starts : (l : Line) (width : ℤ) (offset : Offset) → told_numbers Start l width offset ≡ parallel_numbers (parallels_of l width offset)
unfolding told_numbers
line-starts l width offset = told-starts (major_length l) (plan_of l width offset).parallel (parallels_of l width offset)

pub line-points : (l : Line) (width : ℤ) → told_numbers Points l width offset.None ≡ point_numbers (thick_points_of l width)
unfolding told_numbers thick_points_of
line-points l width = told-points (major_length l) (plan_of l width offset.None).parallel (parallels_of l width offset.None)

-- at most so many numbers
pub size-most : (telling : Telling) (n : ℕ) (t : Bool) → size_of telling n t ≤ 2 * n + 4
size-most Start n t = omega arith
size-most Points n true = omega arith
size-most Points n false = omega arith

told-most : (telling : Telling) (n : ℕ) (along : Parameters) (ps : List Parallel) → length (told_all telling n along ps) ≤ (2 * n + 4) * length ps
unfolding told_all
told-most telling n along [] = omega arith
told-most telling n along (p ∷ ps) =
    omega (arith, length-append (told_of telling n along p) (told_all telling n along ps), told-size telling n along p, size-most telling n p.extra, told-most telling n along ps)

pub told-end : (telling : Telling) (n : ℕ) (along : Parameters) (plan : Plan) (s : Parallels) → is_done plan s ≡ true → told_all telling n along (parallels plan s) ≡ []
unfolding told_all
told-end telling n along plan s e = rw (parallels-end plan s e)

module _ {plan : Plan} {s : Parallels} (h : Sound thick_limit plan) (b : Begun thick_limit plan s) (telling : Telling) (n : ℕ) where
  abbrev along : Parameters
  along = plan.parallel

  abbrev told : Parallels → List ℤ
  told s = told_all telling n along (parallels plan s)

  abbrev first : Parallel
  first = (yield_of plan s).parallel

  abbrev after : Parallels
  after = (yield_of plan s).state

  pub told-few : n ≤ 65536 → length (told s) ≤ 2 ^ 30
  told-few few =
      omega (arith, told-most telling n along (parallels plan s), mul-le-mul {n₁ = 2 * n + 4} {n₂ = 131076} (omega arith) (parallels-most thick_limit plan h b.origin s b.going))

  told-turn : is_done plan s ≡ false → told s ≡ told_of telling n along first ++ told after
  unfolding told_all
  told-turn e = ap (told_all telling n along) (begun-turn h b e)

  pub told-length : is_done plan s ≡ false → length (told s) ≡ size_of telling n first.extra + length (told after)
  told-length e = ap length (told-turn e) ∙ (length-append (told_of telling n along first) (told after) ∙ rw (told-size telling n along first))

  pub told-stored : (out : List ℤ) (at : ℕ) → is_done plan s ≡ false → sets out at (told s) ≡ sets (sets out at (told_of telling n along first)) (at + size_of telling n first.extra) (told after)
  told-stored out at e = ap (sets out at) (told-turn e) ∙ (sets-append out at (told_of telling n along first) (told after) ∙ rw (told-size telling n along first))

-- ---- a walk along a parallel has room

module _ (along : Parameters) (f : Fair delta_limit along) (n : ℕ) (b : Bresenham) (w : Walk n along b) where
  pub walk-placed : Placed b
  walk-placed =
      let top = sum along.threshold along.gain in
      let back = opp along.threshold in
      let twice = times 2 along.threshold in
      record {
        point_near = record { x_near = record { bound = omega (arith, w.x_room) }; y_near = record { bound = omega (arith, w.y_room) } };
        error_small = record { bound = abs-le b.error (omega linear) (omega linear) };
      }

  walk-by : (t : Bool) → lt_z along.threshold b.error ≡ t → 0 < n → Walk (n - 1) along (next_of along b).state
  unfolding next_of handed turned plus
  walk-by true e some =
      let top = sum along.threshold along.gain in
      let back = opp along.threshold in
      let twice = times 2 along.threshold in
      let less = diff b.error along.loss in
      let after = sum (b.error -ℤ along.loss) along.gain in
      let px = b.point.x in
      let py = b.point.y in
      rw e (record {
        x_room = omega (arith, w.x_room, abs-add px along.minor.x, abs-add (px +ℤ along.minor.x) along.major.x, f.minor_unit.x_near.bound, f.major_unit.x_near.bound);
        y_room = omega (arith, w.y_room, abs-add py along.minor.y, abs-add (py +ℤ along.minor.y) along.major.y, f.minor_unit.y_near.bound, f.major_unit.y_near.bound);
        low = omega linear;
        high = omega linear;
      })
  walk-by false e some =
      let top = sum along.threshold along.gain in
      let back = opp along.threshold in
      let after = sum b.error along.gain in
      rw e (record {
        x_room = omega (arith, w.x_room, abs-add b.point.x along.major.x, f.major_unit.x_near.bound);
        y_room = omega (arith, w.y_room, abs-add b.point.y along.major.y, f.major_unit.y_near.bound);
        low = omega linear;
        high = omega linear;
      })

  pub walk-next : 0 < n → Walk (n - 1) along (next_of along b).state
  walk-next some = walk-by (lt_z along.threshold b.error) refl some

yield-bounded : {plan : Plan} {s : Parallels} → Sound thick_limit plan → Begun thick_limit plan s → Bounded plan.parallel (yield_of plan s).parallel.start.error
unfolding yield_of
yield-bounded {plan} {s} h g = (yield-took thick_limit plan h g.origin s g.going).first-bounded

-- a parallel that follows can be walked along
pub walk-yield : {plan : Plan} {s : Parallels} (n : ℕ) → Sound thick_limit plan → Begun thick_limit plan s → is_done plan s ≡ false → n ≤ 65536 → Walk (length_on n (yield_of plan s).parallel.extra) plan.parallel (yield_of plan s).parallel.start
walk-yield {plan} {s} n h g e le =
    let near = near-away g.origin_near (yield-away thick_limit plan h g.origin s g.going e) in
    let short = size-most Points n (yield_of plan s).parallel.extra in
    let bounded = yield-bounded h g in
    let fair = h.along_fair in
    let top = sum plan.parallel.threshold plan.parallel.gain in
    record { x_room = omega (arith, near.x_near.bound); y_room = omega (arith, near.y_near.bound); low = bounded.above; high = omega linear }
