-- 02's K4: how a quotient of whole numbers comes out.
use Rattle.std.specs.Prelude.{◌≡◌, ◌⊎◌, cond, ◌*◌, ◌%◌, ◌≤◌, eqb, ℤ, pos, nat_abs, ◌+ℤ◌, ◌*ℤ◌}
use Rattle.whole.specs.declared.Division.{Division}
use Rattle.whole.specs.declared.Division.TheVariants.{Exact, Half, Rounded}

-- exact where d divides n, half way where twice the remainder is d, signs apart; else rounded
unfoldable pub division_of : ℤ → ℤ → Division
division_of n d =
    let rest = nat_abs n % nat_abs d in
    cond (eqb rest 0) Exact (cond (eqb (2 * rest) (nat_abs d)) Half Rounded)

-- ---- the same in words that know no remainder

-- n / d is a whole number
pub record Whole (n d : ℤ) : Type 0 where
  pub quotient : ℤ
  pub is : quotient *ℤ d ≡ n

-- twice n / d is an odd whole number, so that n / d lies half way between `below` and the number after it
pub record Halfway (n d : ℤ) : Type 0 where
  pub below : ℤ
  pub is : (pos 2 *ℤ below +ℤ pos 1) *ℤ d ≡ pos 2 *ℤ n

-- what is said of n / d
abbrev pub ComesOut : Division → ℤ → ℤ → Type 0
ComesOut Exact n d = Whole n d
ComesOut Half n d = Halfway n d
ComesOut Rounded n d = (Whole n d → ⊥) × (Halfway n d → ⊥)

-- x is that one of two neighbours which lies further from zero
pub record Further (below x : ℤ) : Type 0 where
  pub one : (x ≡ below) ⊎ (x ≡ below +ℤ pos 1)
  pub than_below : nat_abs below ≤ nat_abs x
  pub than_above : nat_abs (below +ℤ pos 1) ≤ nat_abs x
