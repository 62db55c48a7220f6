-- The first and the last column of a line on a row, by quotients. The line goes w columns and h rows, and the row is r rows from
-- its start; columns are counted from its start too.
use Rattle.std.specs.Prelude.{Bool, ◌&&◌, cond, ℕ, ◌+◌, ◌*◌, ◌-◌, ◌/◌, ◌^◌, ◌≤◌, eqb, ltb, ℤ, nat_abs, ◌-ℤ◌}
use Rattle.std.specs.Int.Signed.{le_z}
use Rattle.whole.specs.Number.{lesser, greater}
use Rattle.shapes.specs.declared.Line.{Line}
use Rattle.shapes.specs.Shape.{delta}
use Rattle.bresenham.specs.Paces.{turns_at, wide, tall, steps_from}
use Rattle.scanline.specs.declared.quotients.Ends.{Ends}

abbrev pub ends_of : ℕ → ℕ → Ends
ends_of first last = record { first = first; last = last }

-- a line that goes at least as many columns as rows: its last column on the last row is its end's, and on another that before
-- half of the way to the next row
unfoldable pub last_at : ℕ → ℕ → ℕ → ℕ
last_at w h r = cond (eqb r h) w ((2 * r + 1) * w / (2 * h))

-- its first on the first row is its start's, and on another the one after the last of the row before
unfoldable pub first_at : ℕ → ℕ → ℕ → ℕ
first_at w h r = cond (eqb r 0) 0 (last_at w h (r - 1) + 1)

-- another line has one point on a row
unfoldable pub ends_at : ℕ → ℕ → ℕ → Ends
ends_at w h r = cond (ltb w h) (ends_of (turns_at h w r) (turns_at h w r)) (ends_of (first_at w h r) (last_at w h r))

-- ---- of a line

-- a row is one of its rows
unfoldable pub has_row : Line → ℤ → Bool
has_row l row = le_z (lesser l.start.y l.end.y) row && le_z row (greater l.start.y l.end.y)

-- how many rows from its start a row is
abbrev pub rows_to : Line → ℤ → ℕ
rows_to l row = nat_abs (row -ℤ l.start.y)

unfoldable pub ends_on : Line → ℤ → Ends
ends_on l row = ends_at (wide l) (tall l) (rows_to l row)

-- the column k columns from its start, toward its end
abbrev pub column_at : Line → ℕ → ℤ
column_at l k = steps_from l.start.x (delta l).x k

-- the first and the last column of its points on a row
abbrev pub first_on : Line → ℤ → ℤ
first_on l row = column_at l (ends_on l row).first

abbrev pub last_on : Line → ℤ → ℤ
last_on l row = column_at l (ends_on l row).last

-- ---- what the code asks: small enough for 64 bits, and one of the line's rows

pub record Sizes (w h r : ℕ) : Type 0 where
  pub wide_small : w ≤ 2 ^ 15
  pub tall_small : h ≤ 2 ^ 15
  pub row_most : r ≤ h
