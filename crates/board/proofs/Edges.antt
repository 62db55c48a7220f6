-- A limit in its bits, and the columns just outside it. Assumes nothing.
use mathlib.Core.Path.{◌≡◌, ◌∙◌}
use Prim.Native.Nat.{ℕ, suc, ◌^◌}
use native.Mathlib.Omega.{arith}
use lib.IntN.{pos, negsuc, neg_ℤ, ◌+ℤ◌, ◌-ℤ◌}
use mir.Syntax.{w32, w64}
use mir.Val.{Fits, SFits, to_z, of_z}
use mir.Facts.{to_z-of_z}
use Rattle.whole.proofs.Linear.{linear, sum, diff, opp}
use Rattle.whole.proofs.Machine.{Hold, hold, literal, fits-add, hold-add, fits_neg, hold-neg, fits_sub, hold-sub}

module _ {n : ℕ} (small : Fits w32 n) where
  held : Hold n (pos n) (2 ^ 32)
  held = hold {z = pos n} (record { bound = omega arith }) tt

  -- on the right
  pub past_fits : SFits w64 (to_z w64 n +ℤ pos 1)
  past_fits = fits-add held (literal 1 tt) tt

  pub past_is : to_z w64 (of_z w64 (to_z w64 n +ℤ pos 1)) ≡ pos (suc n)
  past_is = (hold-add held (literal 1 tt) tt).is ∙ omega (linear, sum (pos n) (pos 1))

  -- on the left
  pub minus-fits : SFits w64 (pos 0 -ℤ to_z w64 n)
  minus-fits = fits_neg held tt

  pub edge-fits : SFits w64 (to_z w64 (of_z w64 (pos 0 -ℤ to_z w64 n)) -ℤ pos 1)
  edge-fits = fits_sub (hold-neg held tt) (literal 1 tt) tt

  pub edge-is : to_z w64 (of_z w64 (to_z w64 (of_z w64 (pos 0 -ℤ to_z w64 n)) -ℤ pos 1)) ≡ negsuc n
  edge-is = (hold-sub (hold-neg held tt) (literal 1 tt) tt).is ∙ omega (linear, opp (pos n), diff (neg_ℤ (pos n)) (pos 1))

pub ruleset past = (past_fits, past_is, to_z-of_z)
