-- The lesser and the greater of two numbers are what the library takes for them. Assumes nothing.
use mathlib.Core.Path.{◌≡◌, refl}
use native.Mathlib.Omega.{arith}
use lib.IntN.{ℤ}
use Rattle.std.specs.Int.{int_max, int_min}
use Rattle.whole.specs.Number.{lesser, greater}

pub min-lesser : (a b : ℤ) → int_min a b ≡ lesser a b
unfolding lesser
min-lesser a b = refl

pub max-greater : (a b : ℤ) → int_max a b ≡ greater a b
unfolding greater
max-greater a b = grind arith
