-- The place after a byte of a text.
use Rattle.std.specs.Prelude.{cond, List, [], ◌∷◌, ℕ, ◌+◌, eqb, drop}

-- the place just after the first b of what is left of a text, which begins at the place at; the text's end if there is none
unfoldable pub skip_from : ℕ → List ℕ → ℕ → ℕ
skip_from b [] at = at
skip_from b (x ∷ rest) at = cond (eqb x b) (at + 1) (skip_from b rest (at + 1))

-- the place just after the first b at or after the place at
unfoldable pub skip_past : List ℕ → ℕ → ℕ → ℕ
skip_past s at b = skip_from b (drop at s) at
