-- Laws of reading a text, for who reads it line by line. Assumes nothing.
use mathlib.Core.Bool.{Bool, true, false, cond}
use mathlib.Core.List.{List, [], ◌∷◌}
use Prim.Native.Nat.{ℕ, suc, ◌+◌, ◌≤◌, ◌<◌}
use native.Mathlib.Nat.{le_refl}
use native.Mathlib.Omega.{arith}
use lib.Dec.{eqb}
use lib.ListN.{length, drop, get_or}
use lib.Seq.{drop-cons}
use Rattle.test_numbers.specs.Lines.{skip_from, skip_past}

either : (t : Bool) (m n k : ℕ) → m ≤ n → m ≤ k → m ≤ cond t n k
either true m n k p q = p
either false m n k p q = q

-- the place never goes back
not_back : (b : ℕ) (s : List ℕ) (at : ℕ) → at ≤ skip_from b s at
unfolding skip_from
not_back b [] at = le_refl at
not_back b (x ∷ s) at = either (eqb x b) at (at + 1) (skip_from b s (at + 1)) (omega arith) (omega (arith, not_back b s (at + 1)))

-- and moves on within the text
pub skip-later : (s : List ℕ) (at b : ℕ) → at < length s → at < skip_past s at b
unfolding skip_past skip_from
skip-later s at b h =
    rw (drop-cons s at 0) (either (eqb (get_or s at 0) b) (suc at) (at + 1) _ (omega arith) (omega (arith, not_back b (drop (suc at) s) (at + 1))))
