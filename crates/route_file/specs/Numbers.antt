-- 01, "The route file": the numbers that its bytes say.
use Rattle.std.specs.Prelude.{cond, List, [], ◌∷◌, ℕ, zero, suc, ◌+◌, ◌*◌, ltb, ℤ, pos, ◌-ℤ◌, get_or}

-- "Two-byte numbers, low byte first"
unfoldable pub number_at : List ℕ → ℕ → ℕ
number_at f at = get_or f at 0 + 256 * get_or f (at + 1) 0

-- "x and y signed": from 32,768 on the number is below 0
unfoldable pub signed : ℕ → ℤ
signed n = cond (ltb n 32768) (pos n) (pos n -ℤ pos 65536)

abbrev pub signed_at : List ℕ → ℕ → ℤ
signed_at f at = signed (number_at f at)

-- n of them, one after the other
unfoldable pub signed_from : List ℕ → ℕ → ℕ → List ℤ
signed_from f at zero = []
signed_from f at (suc n) = signed_at f at ∷ signed_from f (at + 2) n
