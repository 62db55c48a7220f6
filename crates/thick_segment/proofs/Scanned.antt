-- A span that meets rows of coordinates, one row more. Assumes nothing.
use mathlib.Core.Path.{◌≡◌, refl}
use mathlib.Core.List.{List, [], ◌∷◌, ◌++◌}
use Prim.Native.Nat.{ℕ, zero, suc, ◌+◌, ◌≤◌, ◌<◌, zero-le}
use native.Mathlib.Omega.{arith}
use native.Mathlib.Numerals.{add-one}
use lib.IntN.{ℤ, pos}
use lib.ListN.{length, take, get_or}
use lib.Seq.{take-suc}
use Rattle.whole.specs.Number.{Within}
use Rattle.shapes.specs.declared.Line.{Line}
use Rattle.shapes.specs.declared.Span.{Span}
use Rattle.shapes.specs.Shape.{point_of, line_of, Near, LineNear}
use Rattle.scanline.specs.Meeting.{met}
use Rattle.thick_segment.specs.Segments.{line_at, met_rows, met_all, rows_of, AllNear}

snoc : (t : Span) (rs : List (List ℤ)) (r : List ℤ) → met_rows t (rs ++ (r ∷ [])) ≡ met (met_rows t rs) (line_at r)
unfolding met_rows
snoc t [] r = refl
snoc t (x ∷ rs) r = snoc (met t (line_at x)) rs r

pub met-more : (t : Span) (rs : List (List ℤ)) (i : ℕ) → i < length rs → met_rows t (take (i + 1) rs) ≡ met (met_rows t (take i rs)) (line_at (get_or rs i []))
met-more t rs i h = rw (add-one, take-suc rs i []) (snoc t (take i rs) (get_or rs i []))

-- the rows of lines, met as far as there are lines, are the lines met
pub met-rows : (n : ℕ) (t : Span) (ls : List Line) → length ls ≤ n → met_rows t (take (length ls) (rows_of n ls)) ≡ met_all t ls
unfolding met_rows met_all rows_of
met-rows n t [] h = refl
met-rows zero t (l ∷ ls) h = absurd (omega arith)
met-rows (suc n) t (l ∷ ls) h = met-rows n (met t l) ls (omega arith)

-- every row is a line within k where every line is
near-zero : (k : ℕ) → LineNear k (line_of (point_of (pos 0) (pos 0)) (point_of (pos 0) (pos 0)))
near-zero k =
    let z : Within (pos 0) k = record { bound = zero-le } in
    let p : Near k (point_of (pos 0) (pos 0)) = record { x_near = z; y_near = z } in
    record { start_near = p; end_near = p }

pub data Each (k : ℕ) : List Line → Type 0 where
  none : Each k []
  more : {l : Line} {ls : List Line} → LineNear k l → Each k ls → Each k (l ∷ ls)

row_near : (k n i : ℕ) (ls : List Line) → Each k ls → LineNear k (line_at (get_or (rows_of n ls) i []))
unfolding rows_of
row_near k zero i ls e = near-zero k
row_near k (suc n) zero [] e = near-zero k
row_near k (suc n) (suc i) [] e = row_near k n i [] e
row_near k (suc n) zero (l ∷ ls) (more h e) = h
row_near k (suc n) (suc i) (l ∷ ls) (more h e) = row_near k n i ls e

pub rows-near : (k n : ℕ) (ls : List Line) → Each k ls → AllNear k (rows_of n ls)
rows-near k n ls e = record { near = λ i. row_near k n i ls e }
