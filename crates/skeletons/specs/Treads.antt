-- The parallels of a thick line by counts alone: how many steps each side took across the line, and where the last parallels of both sides
-- start. That the edges of a line start there is `edges-marched` (proofs/Marches.antt).
use Rattle.std.specs.Prelude.{Bool, true, false, cond, ℕ, zero, suc, ◌+◌, ◌-◌, ◌*◌, ltb, leb}
use Rattle.shapes.specs.declared.Side.{Side}
use Rattle.shapes.specs.declared.Side.TheVariants.{Left, Right}
use Rattle.parallels.specs.Parallels.{swapped, falls}

-- the steps of a side along the perpendicular's major axis and along its minor one, and how many of its Extra points were handed out
pub record Tread : Type 0 where
  pub n : ℕ
  pub e : ℕ
  pub k : ℕ

-- the steps to a parallel's start, and whether it is Extra
pub record Mark : Type 0 where
  pub n : ℕ
  pub e : ℕ
  pub extra : Bool

abbrev pub tread_of : ℕ → ℕ → ℕ → Tread
tread_of n e k = record { n = n; e = e; k = k }

abbrev pub mark_of : ℕ → ℕ → Bool → Mark
mark_of n e x = record { n = n; e = e; extra = x }

-- a parallel, and the side after it
pub record Trod : Type 0 where
  pub mark : Mark
  pub after : Tread

-- a and b are the larger and the smaller delta
module _ (a b : ℕ) where
  -- W3: an Extra step is due
  abbrev pub due_at : Side → ℕ → ℕ → Bool
  due_at Left n e = ltb (2 * a * e + a) (2 * b * n)
  due_at Right n e = leb (2 * a * e + a) (2 * b * n)

  -- W4: it carries
  abbrev pub kept_at : Bool → ℕ → ℕ → Bool
  kept_at true e k = leb (2 * a * k + a) (2 * b * (e + 1))
  kept_at false e k = ltb (2 * a * k + a) (2 * b * (e + 1))

  -- the next parallel of a side: an Extra point that does not carry is passed over
  unfoldable pub trod_by : Bool → Bool → Tread → Trod
  trod_by false kept t = record { mark = mark_of t.n t.e false; after = tread_of (t.n + 1) t.e t.k }
  trod_by true true t = record { mark = mark_of t.n t.e true; after = tread_of t.n (t.e + 1) (t.k + 1) }
  trod_by true false t = record { mark = mark_of t.n (t.e + 1) false; after = tread_of (t.n + 1) (t.e + 1) t.k }

  unfoldable pub trod : Side → Bool → Tread → Trod
  trod side falling t = trod_by (due_at side t.n t.e) (kept_at falling t.e t.k) t

-- ---- both sides in turn, as of a stroke on both sides of its line

-- how the side that is next stands, and the other one, their last parallels, and the accumulator
pub record March : Type 0 where
  pub this : Tread
  pub other : Tread
  pub here : Mark
  pub there : Mark
  pub sum : ℕ

-- one parallel more: then the other side is next
unfoldable pub stepped : ℕ → ℕ → Bool → Side → March → March
stepped a b flip side s =
    let r = trod a b side (falls flip side) s.this in
    record { this = s.other; other = r.after; here = s.there; there = r.mark; sum = s.sum + cond r.mark.extra (2 * b) (2 * a) }

-- the last parallels of both sides, and the accumulator after them
pub record Arrived : Type 0 where
  pub left : Mark
  pub right : Mark
  pub sum : ℕ

abbrev pub arrived_at : Side → March → Arrived
arrived_at Left s = record { left = s.here; right = s.there; sum = s.sum }
arrived_at Right s = record { left = s.there; right = s.here; sum = s.sum }

-- after at most n more, while the accumulator's square is not above `most`
unfoldable pub march : ℕ → ℕ → ℕ → Bool → ℕ → Side → March → Arrived
march zero a b flip most side s = arrived_at side s
march (suc n) a b flip most side s = let more = march n a b flip most (swapped side) (stepped a b flip side s) in cond (ltb most (s.sum * s.sum)) (arrived_at side s) more

-- before the first: the right side is next, and the left one skips the line itself
abbrev pub set_out : ℕ → ℕ → March
set_out a b = record { this = tread_of 0 0 0; other = tread_of 1 0 0; here = mark_of 0 0 false; there = mark_of 0 0 false; sum = a + b }

abbrev pub most_of : ℕ → ℕ → ℕ → ℕ
most_of a b w = 2 * w * (2 * w) * (a * a + b * b)

-- all of them
unfoldable pub marched : ℕ → ℕ → Bool → ℕ → Arrived
marched a b flip w = march (suc (most_of a b w) - (a + b)) a b flip (most_of a b w) Right (set_out a b)
