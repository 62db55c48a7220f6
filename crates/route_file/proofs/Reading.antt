-- Numbers read one after the other, in the form of the loop's tests. Assumes nothing.
use mathlib.Core.Path.{◌≡◌, refl, ap, ◌∙◌}
use mathlib.Core.Bool.{Bool, true, false}
use mathlib.Core.List.{List, [], ◌∷◌}
use Prim.Native.Nat.{ℕ, zero, suc, ◌+◌, ◌-◌, ◌*◌, ◌≤◌, ◌<◌}
use native.Mathlib.Nat.{add-zero}
use native.Mathlib.Numerals.{sub-one}
use native.Mathlib.Omega.{arith}
use borrow.Author.Tests.{ltb-false}
use lib.Dec.{ltb}
use lib.IntN.{ℤ, pos}
use lib.ListN.{length, set, get_or}
use lib.Seq.{sets}
use mir.Syntax.{w16}
use mir.Val.{to_z}
use Rattle.whole.proofs.Linear.{linear, diff}
use Rattle.route_file.specs.Numbers.{signed, signed_at, signed_from}

-- ---- numbers

-- the signed number of two bytes
bits_by : (n : ℕ) (t : Bool) → ltb n 32768 ≡ t → n < 65536 → to_z w16 n ≡ signed n
unfolding signed
bits_by n true e small = rw e
bits_by n false e small = rw e (omega (linear, diff (pos n) (pos 65536), ltb-false n 32768 e))

pub signed_bits : (n : ℕ) → n < 65536 → to_z w16 n ≡ signed n
signed_bits n small = bits_by n (ltb n 32768) refl small

pub from-length : (f : List ℕ) (at n : ℕ) → length (signed_from f at n) ≡ n
unfolding signed_from
from-length f at zero = refl
from-length f at (suc n) = ap suc (from-length f (at + 2) n)

pub from_at : (f : List ℕ) (at n i : ℕ) → i < n → get_or (signed_from f at n) i (pos 0) ≡ signed_at f (at + 2 * i)
unfolding signed_from
from_at f at zero i h = absurd (omega arith)
from_at f at (suc n) zero h = rw (add-zero at)
from_at f at (suc n) (suc i) h =
    let next : at + 2 + 2 * i ≡ at + 2 * suc i = omega arith in
    from_at f (at + 2) n i (omega arith) ∙ ap (signed_at f) next

from-turn : (f : List ℕ) (at n : ℕ) → 0 < n → signed_from f at n ≡ signed_at f at ∷ signed_from f (at + 2) (n - 1)
unfolding signed_from
from-turn f at zero h = absurd (omega arith)
from-turn f at (suc n) h = rw sub-one

from_end : (f : List ℕ) (at n : ℕ) → n ≤ 0 → signed_from f at n ≡ []
unfolding signed_from
from_end f at zero h = refl
from_end f at (suc n) h = absurd (omega arith)

-- the numbers from the i-th on, stored from the place i on
module _ (f : List ℕ) (at n i : ℕ) (out : List ℤ) where
  pub store-turn : i < n → sets out i (signed_from f (at + 2 * i) (n - i)) ≡ sets (set out i (signed_at f (at + 2 * i))) (i + 1) (signed_from f (at + 2 * (i + 1)) (n - (i + 1)))
  store-turn h =
      let next : at + 2 * i + 2 ≡ at + 2 * (i + 1) = omega arith in
      let fewer : n - i - 1 ≡ n - (i + 1) = omega arith in
      let place : suc i ≡ i + 1 = omega arith in
      ap (sets out i) (from-turn f (at + 2 * i) (n - i) (omega arith)) ∙ rw (next, fewer, ← place)

  pub store-end : n ≤ i → sets out i (signed_from f (at + 2 * i) (n - i)) ≡ out
  store-end h = ap (sets out i) (from_end f (at + 2 * i) (n - i) (omega arith))
