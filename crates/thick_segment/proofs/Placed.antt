-- Rows of coordinates that lines are written to, one after another. Assumes nothing.
use mathlib.Core.Path.{◌≡◌, refl, sym, ap, ◌∙◌}
use mathlib.Core.List.{List, [], ◌∷◌, ◌++◌}
use Prim.Native.Nat.{ℕ, zero, suc, ◌+◌, ◌≤◌}
use native.Mathlib.Numerals.{add-one}
use native.Mathlib.Omega.{arith}
use lib.IntN.{ℤ}
use lib.ListN.{length, length-append, set}
use Rattle.shapes.specs.declared.Line.{Line}
use Rattle.thick_segment.specs.Segments.{coordinates, rows_of, placed}

-- some lines, then others from the place k after them
pub placed-append : (rows : List (List ℤ)) (at : ℕ) (ls ms : List Line) {k : ℕ} → k ≡ at + length ls → placed rows at (ls ++ ms) ≡ placed (placed rows at ls) k ms
unfolding placed
placed-append rows at [] ms {k} e = let n : at ≡ k = omega arith in ap (λ i. placed rows i ms) n
placed-append rows at (l ∷ ls) ms e = placed-append (set rows at (coordinates l)) (at + 1) ls ms (omega arith)

-- behind a first row
placed-behind : (r : List ℤ) (rows : List (List ℤ)) (at : ℕ) (ls : List Line) → placed (r ∷ rows) (suc at) ls ≡ r ∷ placed rows at ls
unfolding placed
placed-behind r rows at [] = refl
placed-behind r rows at (l ∷ ls) = rw (add-one, add-one) (placed-behind r (set rows at (coordinates l)) (suc at) ls)

-- in blank rows that have room for them they are the rows of the lines
pub placed-rows : (n : ℕ) (ls : List Line) → length ls ≤ n → placed (rows_of n []) 0 ls ≡ rows_of n ls
unfolding placed rows_of
placed-rows n [] h = refl
placed-rows zero (l ∷ ls) h = absurd (omega arith)
placed-rows (suc n) (l ∷ ls) h = placed-behind (coordinates l) (rows_of n []) 0 ls ∙ ap (λ rs. coordinates l ∷ rs) (placed-rows n ls (omega arith))

-- two lists of lines and two lines more, each after the ones before it
pub placed-all : (n : ℕ) (ls ms : List Line) (a b : Line) {i j : ℕ} → i ≡ length ls → j ≡ length ms → length ls + length ms + 2 ≤ n → set (set (placed (placed (rows_of n []) 0 ls) i ms) (i + j) (coordinates a)) (i + j + 1) (coordinates b) ≡ rows_of n (ls ++ (ms ++ (a ∷ b ∷ [])))
unfolding placed
placed-all n ls ms a b {i} {j} e f h =
    let rest = ms ++ (a ∷ b ∷ []) in
    let room : length (ls ++ rest) ≤ n = rw (length-append, length-append) (omega arith) in
    let more = placed-append (placed (rows_of n []) 0 ls) i ms (a ∷ b ∷ []) {k = i + j} (omega arith) in
    sym (placed-append (rows_of n []) 0 ls rest {k = i} (omega arith) ∙ more) ∙ placed-rows n (ls ++ rest) room
