-- A quotient rounded to the nearest whole number, halves away from zero.
use Rattle.std.specs.Prelude.{◌≡◌, cond, ◌*◌, ◌/◌, ◌≤◌, ◌<◌, ℤ, pos, nat_abs, ◌+ℤ◌, ◌-ℤ◌, ◌*ℤ◌}
use Rattle.std.specs.Int.Signed.{lt_z, quot_z}

-- half of the absolute value, rounded down
abbrev pub half : ℤ → ℤ
half d = pos (nat_abs d / 2)

-- 01, intersection_params: half of |d|, rounded down, is added with n's sign (plus at zero) and the division truncates
unfoldable pub rounded : ℤ → ℤ → ℤ
rounded n d = quot_z (cond (lt_z n (pos 0)) (n -ℤ half d) (n +ℤ half d)) d

-- what demand 2 says of it in words: x is the nearest whole number to n / d, and at half way it lies away from zero
pub record Nearest (n d x : ℤ) : Type 0 where
  pub near : 2 * nat_abs (x *ℤ d -ℤ n) ≤ nat_abs d
  pub away : 2 * nat_abs (x *ℤ d -ℤ n) ≡ nat_abs d → nat_abs n < nat_abs (x *ℤ d)
