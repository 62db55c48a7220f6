-- The lesser and the greater of two numbers are what `min` and `max` answer. Assumes nothing.
use mathlib.Core.Path.{◌≡◌, refl}
use mathlib.Core.Bool.{Bool, true, false}
use lib.IntN.{ℤ}
use lib.Signed.{lt_z}
use Rattle.std.specs.Int.{int_min, int_max}
use Rattle.whole.specs.Number.{lesser, greater}
use Rattle.whole.proofs.Orders.{ordered}

pub min_lesser : (a b : ℤ) → int_min a b ≡ lesser a b
unfolding lesser
min_lesser a b = refl

-- the two differ in which one they name where both are equal
max_by : (a b : ℤ) (t u : Bool) → lt_z b a ≡ t → lt_z a b ≡ u → int_max a b ≡ greater a b
unfolding greater
max_by a b true true e f = absurd (omega ordered)
max_by a b true false e f = rw (e, f)
max_by a b false true e f = rw (e, f)
max_by a b false false e f = rw (e, f) (let is : b ≡ a = omega ordered in is)

pub max_greater : (a b : ℤ) → int_max a b ≡ greater a b
max_greater a b = max_by a b (lt_z b a) (lt_z a b) refl refl

pub ruleset choices = (min_lesser, max_greater)
