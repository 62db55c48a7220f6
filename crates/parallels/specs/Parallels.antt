-- The parallels of a thick line, as the Rust's ParallelsIterator has them.
use Rattle.std.specs.Prelude.{◌≡◌, Bool, true, false, not, cond, List, [], ◌∷◌, ℕ, zero, suc, ◌+◌, ◌*◌, ◌-◌, ◌^◌, ◌≤◌, ℤ, pos, nat_abs, neg_ℤ, ◌+ℤ◌, ◌-ℤ◌, ◌*ℤ◌, ◌≤ℤ◌}
use Rattle.std.specs.Int.Signed.{lt_z, le_z, quot_z}
use Rattle.shapes.specs.declared.Point.{Point}
use Rattle.shapes.specs.declared.Line.{Line}
use Rattle.shapes.specs.declared.Side.{Side}
use Rattle.shapes.specs.declared.Side.TheVariants.{Left, Right}
use Rattle.shapes.specs.declared.Offset.{Offset}
use Rattle.shapes.specs.declared.Offset.TheVariants as offset
use Rattle.shapes.specs.Limits.{line_limit}
use Rattle.shapes.specs.Shape.{point_of, same_point, Near, delta, squared_length}
use Rattle.bresenham.specs.declared.Parameters.{Parameters}
use Rattle.bresenham.specs.declared.Bresenham.{Bresenham}
use Rattle.bresenham.specs.declared.Met.{Met}
use Rattle.bresenham.specs.Walk.{place_of, parameters_along, next_all, previous_all, increased, decreased, Fair}
use Rattle.parallels.specs.declared.Plan.{Plan}
use Rattle.parallels.specs.declared.Flank.{Flank}
use Rattle.parallels.specs.declared.Parallels.{Parallels}
use Rattle.parallels.specs.declared.Parallel.{Parallel}
use Rattle.parallels.specs.declared.Bent.{Bent}
use Rattle.parallels.specs.declared.Turn.{Turn}
use Rattle.parallels.specs.declared.Taken.{Taken}

-- ---- sides

abbrev pub swapped : Side → Side
swapped Left = Right
swapped Right = Left

-- on both sides of the line the right one is first
abbrev pub first_side : Offset → Side
first_side offset.None = Right
first_side offset.Left = Left
first_side offset.Right = Right

-- the side of the parallel after one on this side
abbrev pub followed : Offset → Side → Side
followed offset.None side = swapped side
followed offset.Left side = side
followed offset.Right side = side

abbrev pub flank_at : Side → Parallels → Flank
flank_at Left s = s.left
flank_at Right s = s.right

-- both sides, the one on `side` named first
abbrev pub left_of : Side → Flank → Flank → Flank
left_of Left this other = this
left_of Right this other = other

abbrev pub sided : Side → Flank → Flank → ℤ → Side → Parallels
sided side this other acc next = record { left = left_of side this other; right = left_of side other this; accumulator = acc; side = next }

-- ---- one step across a side

-- forward on the left, back on the right
abbrev pub across : Parameters → Side → Bresenham → Met
across p Left b = next_all p b
across p Right b = previous_all p b

-- whether the error of a side's parallels falls with an extra step
abbrev pub falls : Bool → Side → Bool
falls flip Left = flip
falls flip Right = not flip

-- an error that falls is that of the parallel before it falls, one that rises after it rose
unfoldable pub bent : Parameters → Bool → ℤ → Bent
bent p falling e =
    cond falling
    (record { first = e; error = (decreased p e).error; carry = (decreased p e).carry })
    (record { first = (increased p e).error; error = (increased p e).error; carry = (increased p e).carry })

abbrev pub normal_turn : Met → ℤ → Turn
normal_turn m e = record { taken = record { start = place_of m.point e; extra = false; flank = record { at = m.state; error = e } }; met = true }

abbrev pub extra_turn : Met → Bent → Turn
extra_turn m b = record { taken = record { start = place_of m.point b.first; extra = true; flank = record { at = m.state; error = b.error } }; met = b.carry }

-- a Normal point is met, and an Extra one where the error carries
abbrev pub turn_at : Plan → Side → ℤ → Met → Turn
turn_at plan side e m = cond m.extra (extra_turn m (bent plan.parallel (falls plan.flip side) e)) (normal_turn m e)

unfoldable pub turn_of : Plan → Side → Flank → Turn
turn_of plan side f = turn_at plan side f.error (across plan.perpendicular side f.at)

-- a point that is not met is passed over within the same call; at most one is (`passed-once`)
unfoldable pub next_parallel : Plan → Side → Flank → Taken
next_parallel plan side f =
    let t = turn_of plan side f in
    cond t.met t.taken (turn_of plan side t.taken.flank).taken

-- ---- the plan of a line

-- equal start and end take direction and squared length from (0,0)-(1,0)
unfoldable pub aimed : Line → Point
aimed l = cond (same_point l.start l.end) (point_of (pos 1) (pos 0)) (delta l)

-- W1: the delta of the perpendicular
abbrev pub turned_back : Point → Point
turned_back d = point_of d.y (neg_ℤ d.x)

-- the square of twice the width, times the squared length
unfoldable pub thickness : ℤ → Point → ℤ
thickness width d = (pos 2 *ℤ width) *ℤ (pos 2 *ℤ width) *ℤ squared_length d

abbrev pub opposite : Point → Point
opposite p = point_of (neg_ℤ p.x) (neg_ℤ p.y)

unfoldable pub plan_along : Point → ℤ → Offset → Plan
plan_along d width offset =
    record {
      parallel = parameters_along d;
      perpendicular = parameters_along (turned_back d);
      threshold = thickness width d;
      flip = same_point (parameters_along (turned_back d)).minor (opposite (parameters_along d).major);
      offset = offset;
    }

unfoldable pub plan_of : Line → ℤ → Offset → Plan
plan_of l width offset = plan_along (aimed l) width offset

-- ---- the parallels

abbrev pub fresh_flank : Point → Flank
fresh_flank p = record { at = place_of p (pos 0); error = pos 0 }

-- half of both error steps; the line itself is skipped on the side that is not first
unfoldable pub parallels_start : Plan → Point → Parallels
parallels_start plan p =
    let first = first_side plan.offset in
    sided first (fresh_flank p) (next_parallel plan (swapped first) (fresh_flank p)).flank (quot_z (plan.parallel.loss +ℤ plan.parallel.gain) (pos 2)) first

-- no parallel follows once the accumulator's square is above the threshold
unfoldable pub is_done : Plan → Parallels → Bool
is_done plan s = lt_z plan.threshold (s.accumulator *ℤ s.accumulator)

-- a Normal parallel adds the minor error step of the perpendicular to the accumulator, an Extra one the major
unfoldable pub grown : Plan → ℤ → Bool → ℤ
grown plan acc extra = acc +ℤ cond extra plan.perpendicular.gain plan.perpendicular.loss

-- a parallel that is handed out, and the state after it
pub record Yielded : Type 0 where
  pub parallel : Parallel
  pub state : Parallels

abbrev pub handed : Side → Taken → Flank → ℤ → Side → Yielded
handed side t other acc next = record { parallel = record { side = side; start = t.start; extra = t.extra }; state = sided side t.flank other acc next }

unfoldable pub yield_of : Plan → Parallels → Yielded
yield_of plan s =
    let t = next_parallel plan s.side (flank_at s.side s) in
    handed s.side t (flank_at (swapped s.side) s) (grown plan s.accumulator t.extra) (followed plan.offset s.side)

-- at most n of the parallels from here
unfoldable pub parallels_from : ℕ → Plan → Parallels → List Parallel
parallels_from zero plan s = []
parallels_from (suc n) plan s = cond (is_done plan s) [] ((yield_of plan s).parallel ∷ parallels_from n plan (yield_of plan s).state)

-- the accumulator grows at each parallel, and none follows once it is above the threshold: there are no more than this
unfoldable pub spare : Plan → Parallels → ℕ
spare plan s = suc (nat_abs plan.threshold) - nat_abs s.accumulator

-- the parallels from here
unfoldable pub parallels : Plan → Parallels → List Parallel
parallels plan s = parallels_from (spare plan s) plan s

-- the parallels of a line
unfoldable pub parallels_of : Line → ℤ → Offset → List Parallel
parallels_of l width offset = parallels (plan_of l width offset) (parallels_start (plan_of l width offset) l.start)

-- ---- what holds of each plan and each state, from the start on

-- the delta of a line within the lines' limit
abbrev pub delta_limit : ℕ
delta_limit = 2 ^ 15

-- whether an Extra step is due on a side, and that as a number
abbrev pub due : Parameters → Side → ℤ → Bool
due p Left e = lt_z p.threshold e
due p Right e = le_z e (neg_ℤ p.threshold)

abbrev pub owed : Parameters → Side → ℤ → ℕ
owed p side e = cond (due p side e) 1 0

-- the larger delta, as a natural number
abbrev pub larger : Plan → ℕ
larger plan = nat_abs plan.perpendicular.threshold

pub record Sound (w : ℕ) (plan : Plan) : Type 0 where
  pub along_fair : Fair delta_limit plan.parallel
  pub across_fair : Fair delta_limit plan.perpendicular
  pub level : plan.parallel.threshold ≡ plan.perpendicular.threshold
  pub not_negative : pos 0 ≤ℤ plan.threshold
  pub threshold_most : nat_abs plan.threshold ≤ (4 * w * larger plan) * (4 * w * larger plan)

-- an error across the line: above -a - 2b, and at most a + 2b
pub record Ranged (p : Parameters) (e : ℤ) : Type 0 where
  pub above : (pos 1 -ℤ p.threshold -ℤ p.gain) ≤ℤ e
  pub below : e ≤ℤ (p.threshold +ℤ p.gain)

-- the error of a parallel's first point: from -a to a
pub record Bounded (p : Parameters) (e : ℤ) : Type 0 where
  pub above : neg_ℤ p.threshold ≤ℤ e
  pub below : e ≤ℤ p.threshold

pub record Steady (plan : Plan) (f : Flank) : Type 0 where
  pub ranged : Ranged plan.perpendicular f.at.error
  pub bounded : Bounded plan.parallel f.error

-- a side is at most n from the line's start, in each axis, with one more for an Extra step that is due
pub record Reach (o : Point) (n : ℕ) (p : Parameters) (side : Side) (b : Bresenham) : Type 0 where
  pub x_reach : nat_abs (b.point.x -ℤ o.x) + owed p side b.error ≤ n
  pub y_reach : nat_abs (b.point.y -ℤ o.y) + owed p side b.error ≤ n

-- what a step across a side asks
pub record Ready (plan : Plan) (side : Side) (f : Flank) : Type 0 where
  pub steady : Steady plan f
  pub origin : Point
  pub origin_near : Near line_limit origin
  pub reach : Reach origin (2 ^ 24) plan.perpendicular side f.at

-- how far a side may be from the line's start: the accumulator pays for it
pub record Paid (o : Point) (plan : Plan) (acc : ℤ) (side : Side) (f : Flank) : Type 0 where
  pub steady : Steady plan f
  pub far : ℕ
  pub reach : Reach o far plan.perpendicular side f.at
  pub paid : larger plan * far ≤ nat_abs acc + larger plan

pub record Going (w : ℕ) (plan : Plan) (o : Point) (s : Parallels) : Type 0 where
  pub some : pos 1 ≤ℤ s.accumulator
  pub most : nat_abs s.accumulator ≤ 4 * w * larger plan + 2 * larger plan
  pub paid : (side : Side) → Paid o plan s.accumulator side (flank_at side s)

-- what a step to the next parallel asks
pub record Begun (w : ℕ) (plan : Plan) (s : Parallels) : Type 0 where
  pub origin : Point
  pub origin_near : Near line_limit origin
  pub going : Going w plan origin s
