-- Whole numbers as the port's rules speak of them: a test for equality, the lesser and the greater, and bounds.
use Rattle.std.specs.Prelude.{Bool, false, cond, ℕ, ◌≤◌, eqb, leb, ℤ, pos, negsuc, nat_abs}
use Rattle.std.specs.Int.Signed.{lt_z}

abbrev pub eq_z : ℤ → ℤ → Bool
eq_z (pos a) (pos b) = eqb a b
eq_z (pos a) (negsuc b) = false
eq_z (negsuc a) (pos b) = false
eq_z (negsuc a) (negsuc b) = eqb a b

unfoldable pub lesser : ℤ → ℤ → ℤ
lesser a b = cond (lt_z b a) b a

unfoldable pub greater : ℤ → ℤ → ℤ
greater a b = cond (lt_z a b) b a

-- z is from -n to n
pub record Within (z : ℤ) (n : ℕ) : Type 0 where
  pub bound : nat_abs z ≤ n

-- the test for that
unfoldable pub is_within : ℕ → ℤ → Bool
is_within n z = leb (nat_abs z) n
