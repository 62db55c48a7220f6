-- Rows of a route drawn one after the other to the front of one list, each as `route::row` draws it.
use Rattle.std.specs.Prelude.{Bool, List, [], ◌∷◌, ℕ, ℤ}
use Rattle.shapes.specs.declared.limits.Limits.{Limits}
use Rattle.route.specs.Answers.{ListingValues, no_listing, row_answer, row_to}

-- the answer of the last row, where the list has `n` numbers; and what the list holds after all
unfoldable pub last_of : (ℤ → ℕ → ListingValues) → ℕ → ListingValues → List ℤ → ListingValues
last_of row n last [] = last
last_of row n last (y ∷ ys) = last_of row n (row y n) ys

unfoldable pub after_all : (ℤ → List ℤ → List ℤ) → List ℤ → List ℤ → List ℤ
after_all row out [] = out
after_all row out (y ∷ ys) = after_all row (row y out) ys

-- the number of the last row's columns
unfoldable pub last_columns : Limits → Bool → List ℤ → ℤ → List ℤ → ℕ → ℤ
last_columns limits closed cs w rows n = (last_of (row_answer limits closed cs w) n (no_listing 0 0) rows).total

unfoldable pub rows_to : Limits → Bool → List ℤ → ℤ → List ℤ → List ℤ → List ℤ
rows_to limits closed cs w rows out = after_all (row_to limits closed cs w) out rows
