-- The whole number that stands at a place of a text.
use Rattle.std.specs.Prelude.{Bool, cond, ◌&&◌, List, ℕ, zero, suc, ◌+◌, ◌-◌, ◌*◌, eqb, leb, ℤ, pos, neg_ℤ, get_or}
use Rattle.test_numbers.specs.declared.Read.{Read}

-- from '0', 48, to '9', 57
unfoldable pub is_digit : ℕ → Bool
is_digit b = leb 48 b && leb b 57

-- at most n digits more, from the place at on, after digits that say v; past the end stands 0, which is no digit
unfoldable pub digits_from : ℕ → List ℕ → ℕ → ℕ → Read ℕ
digits_from zero s v at = record { value = v; next = at }
digits_from (suc n) s v at =
    cond (is_digit (get_or s at 0)) (digits_from n s (v * 10 + (get_or s at 0 - 48)) (at + 1)) (record { value = v; next = at })

-- at most 18 digits from the place at on
unfoldable pub digits_at : List ℕ → ℕ → Read ℕ
digits_at s at = digits_from 18 s 0 at

-- the number that the digits say
abbrev pub above : Read ℕ → Read ℤ
above d = record { value = pos d.value; next = d.next }

-- that number, below 0
abbrev pub below : Read ℕ → Read ℤ
below d = record { value = neg_ℤ (pos d.value); next = d.next }

-- a '-', 45, makes the digits after it a number below 0
unfoldable pub number_at : List ℕ → ℕ → Read ℤ
number_at s at = cond (eqb (get_or s at 0) 45) (below (digits_at s (at + 1))) (above (digits_at s at))
