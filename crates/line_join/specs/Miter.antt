-- 01, line_join.rs: how long a miter may be.
use Rattle.std.specs.Prelude.{Bool, ℕ, ◌^◌, ℤ, pos, ◌*ℤ◌}
use Rattle.std.specs.Int.Signed.{le_z}
use Rattle.shapes.specs.declared.Point.{Point}
use Rattle.shapes.specs.Shape.{minus, squared_length}

-- (2·width)²
unfoldable pub miter_limit : ℤ → ℤ
miter_limit w = (pos 2 *ℤ w) *ℤ (pos 2 *ℤ w)

-- the miter is kept when the squared distance from the middle point is at most the limit
unfoldable pub reaches : Point → Point → ℤ → Bool
reaches mid tip w = le_z (squared_length (minus tip mid)) (miter_limit w)

-- no limit of 01: where the crossings of lines within line_limit lie
abbrev pub corner_room : ℕ
corner_room = 2 ^ 48
