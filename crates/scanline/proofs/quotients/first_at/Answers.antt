-- The last column of the row before is at most the line's columns.
use Prim.Native.Nat.{◌-◌}
use native.Mathlib.Omega.{arith}
use Rattle.scanline.proofs.Rows.{last-most}
use Rattle.scanline.proofs.quotients.first_at.Goals as goal

pub overflow_add-result : goal.overflow_add-result
overflow_add-result c =
    let a = c.args in
    omega (arith, c.last_at.ensures, last-most a.w a.h (a.r - 1) c.requires.h_le_w (omega arith))
