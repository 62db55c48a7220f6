-- Whole numbers from one to another, as the columns of a row are, and how many of them pass a test.
use Rattle.std.specs.Prelude.{Bool, cond, not, ◌&&◌, ℕ, zero, suc, ◌+◌, ℤ, pos, ◌+ℤ◌}
use Rattle.std.specs.Int.Signed.{lt_z}

-- x is from s to e, e not included
unfoldable pub between : ℤ → ℤ → ℤ → Bool
between s e x = not (lt_z x s) && lt_z x e

-- how many of the n whole numbers from x on pass the test p
unfoldable pub count_from : (ℤ → Bool) → ℤ → ℕ → ℕ
count_from p x zero = 0
count_from p x (suc n) = cond (p x) 1 0 + count_from p (x +ℤ pos 1) n
