-- A walk along a line: 01's rules W2 (parameters, plain step), W3 (steps across), W4 (error of a parallel's first point).
use Rattle.std.specs.Prelude.{◌≡◌, Bool, true, false, cond, ℕ, ◌^◌, ℤ, pos, negsuc, nat_abs, neg_ℤ, ◌+ℤ◌, ◌-ℤ◌, ◌*ℤ◌, ◌≤ℤ◌}
use Rattle.std.specs.Int.Signed.{lt_z, le_z}
use Rattle.whole.specs.Number.{Within}
use Rattle.shapes.specs.declared.Point.{Point}
use Rattle.shapes.specs.declared.Line.{Line}
use Rattle.shapes.specs.Shape.{point_of, Near, plus, minus, delta}
use Rattle.bresenham.specs.declared.Parameters.{Parameters}
use Rattle.bresenham.specs.declared.Bresenham.{Bresenham}
use Rattle.bresenham.specs.declared.Met.{Met}
use Rattle.bresenham.specs.declared.Carried.{Carried}

abbrev pub place_of : Point → ℤ → Bresenham
place_of p e = record { point = p; error = e }

-- ---- what the steps ask, so that nothing wraps

abbrev pub step_limit : ℕ
step_limit = 2 ^ 28

pub record Sized (p : Parameters) : Type 0 where
  pub major_near : Near step_limit p.major
  pub minor_near : Near step_limit p.minor
  pub gain_small : Within p.gain step_limit
  pub loss_small : Within p.loss step_limit
  pub threshold_small : Within p.threshold step_limit

pub record Placed (b : Bresenham) : Type 0 where
  pub point_near : Near step_limit b.point
  pub error_small : Within b.error step_limit

-- ---- W2: the parameters

-- a zero delta counts as direction +1
unfoldable pub direction_of : ℤ → ℤ
direction_of d = cond (lt_z d (pos 0)) (negsuc 0) (pos 1)

-- a and b are the larger and the smaller absolute delta: threshold a, error step major 2b, minor 2a
unfoldable pub along : Point → Point → ℤ → ℤ → Parameters
along major minor a b = record { major = major; minor = minor; gain = pos 2 *ℤ b; loss = pos 2 *ℤ a; threshold = a }

-- x is major on a tie
unfoldable pub parameters_along : Point → Parameters
parameters_along d =
    let width = pos (nat_abs d.x) in
    let height = pos (nat_abs d.y) in
    let across = point_of (direction_of d.x) (pos 0) in
    let down = point_of (pos 0) (direction_of d.y) in
    cond (lt_z width height) (along down across height width) (along across down width height)

unfoldable pub parameters_of : Line → Parameters
parameters_of l = parameters_along (delta l)

-- ---- W2: the plain step

-- if error > a, move one along minor and take 2a off
unfoldable pub turned : Parameters → Bresenham → Bresenham
turned p b = cond (lt_z p.threshold b.error) (place_of (plus b.point p.minor) (b.error -ℤ p.loss)) b

-- the point that a plain step hands out, and the place after it
pub record Drawn : Type 0 where
  pub point : Point
  pub state : Bresenham

-- hand out the point; move one along major and add 2b
unfoldable pub handed : Parameters → Bresenham → Drawn
handed p b = record { point = b.point; state = place_of (plus b.point p.major) (b.error +ℤ p.gain) }

unfoldable pub next_of : Parameters → Bresenham → Drawn
next_of p b = handed p (turned p b)

-- ---- W3: the steps across a line

-- Extra, and then a minor move, where one is due; else Normal, and then a major move
abbrev pub met_at : Bool → Point → Bresenham → Bresenham → Met
met_at due p turned gone = cond due (record { point = p; extra = true; state = turned }) (record { point = p; extra = false; state = gone })

-- error > a gives Extra, then a minor move and error - 2a; else Normal, then a major move and error + 2b
unfoldable pub next_all : Parameters → Bresenham → Met
next_all p b =
    met_at (lt_z p.threshold b.error) b.point (place_of (plus b.point p.minor) (b.error -ℤ p.loss))
    (place_of (plus b.point p.major) (b.error +ℤ p.gain))

-- error ≤ -a gives Extra, then a minor move back and error + 2a; else Normal, a major move back and error - 2b
unfoldable pub previous_all : Parameters → Bresenham → Met
previous_all p b =
    met_at (le_z b.error (neg_ℤ p.threshold)) b.point (place_of (minus b.point p.minor) (b.error +ℤ p.loss))
    (place_of (minus b.point p.major) (b.error -ℤ p.gain))

-- ---- W4: the error of a parallel's first point

-- the error after a carry, where one is due
abbrev pub carried_at : Bool → ℤ → ℤ → Carried
carried_at due settled moved = cond due (record { error = settled; carry = true }) (record { error = moved; carry = false })

-- add 2b; if above a, take off 2a and carry
unfoldable pub increased : Parameters → ℤ → Carried
increased p e = carried_at (lt_z p.threshold (e +ℤ p.gain)) (e +ℤ p.gain -ℤ p.loss) (e +ℤ p.gain)

-- take off 2b; if ≤ -a, add 2a and carry
unfoldable pub decreased : Parameters → ℤ → Carried
decreased p e = carried_at (le_z (e -ℤ p.gain) (neg_ℤ p.threshold)) (e -ℤ p.gain +ℤ p.loss) (e -ℤ p.gain)

-- ---- what W2 says of the parameters of any line whose start is not its end: 1 ≤ a ≤ k, 0 ≤ 2b ≤ 2a, and steps of one pixel

pub record Fair (k : ℕ) (p : Parameters) : Type 0 where
  pub some : pos 1 ≤ℤ p.threshold
  pub most : p.threshold ≤ℤ pos k
  pub loss_is : p.loss ≡ pos 2 *ℤ p.threshold
  pub gain_low : pos 0 ≤ℤ p.gain
  pub gain_high : p.gain ≤ℤ p.loss
  pub major_unit : Near 1 p.major
  pub minor_unit : Near 1 p.minor
