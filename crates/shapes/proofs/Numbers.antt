-- Refusals by their numbers: none has 0, only 5 comes with a position, and number and position tell them apart. Assumes nothing.
use mathlib.Core.Path.{◌≡◌, refl, sym, ap, ◌∙◌}
use mathlib.Core.Logic.{◌≢◌}
use mathlib.Core.Bool.{false, cond}
use Prim.Native.Nat.{ℕ, ◌<◌}
use native.Mathlib.Omega.{arith}
use borrow.Author.Tests.{ne_eqb}
use lib.Dec.{eqb}
use Rattle.shapes.specs.declared.refusals.Refusal.{Refusal}
use Rattle.shapes.specs.declared.refusals.Refusal.TheVariants.{Form, Odd, Points, Width, Coordinate, Doubled, Corner, Row, Column, Room}
use Rattle.shapes.specs.Refusals.{number_of, bend_of, or_else}

pub number-some : (r : Refusal) → number_of r ≢ 0
number-some Form e = omega (arith, e)
number-some Odd e = omega (arith, e)
number-some Points e = omega (arith, e)
number-some Width e = omega (arith, e)
number-some Coordinate e = omega (arith, e)
number-some Doubled e = omega (arith, e)
number-some (Corner p) e = omega (arith, e)
number-some Row e = omega (arith, e)
number-some Column e = omega (arith, e)
number-some Room e = omega (arith, e)

pub number-above : (r : Refusal) → 0 < number_of r
number-above r = let some = number-some r in omega (arith, some)

pub numbered : (r : Refusal) → eqb (number_of r) 0 ≡ false
numbered r = ne_eqb (number_of r) 0 (number-some r)

pub or-number : (r : Refusal) (n : ℕ) → or_else (number_of r) n ≡ number_of r
or-number r n = rw (numbered r)

pub unbent : (r : Refusal) → number_of r ≢ 5 → bend_of r ≡ 0
unbent Form h = refl
unbent Odd h = refl
unbent Points h = refl
unbent Width h = refl
unbent Coordinate h = refl
unbent Doubled h = refl
unbent (Corner p) h = absurd (h refl)
unbent Row h = refl
unbent Column h = refl
unbent Room h = refl

-- a refusal by its number and its position
abbrev pub read_refusal : ℕ → ℕ → Refusal
read_refusal n b =
    cond (eqb n 1) Odd
    (cond (eqb n 2) Points
    (cond (eqb n 3) Width
    (cond (eqb n 4) Coordinate
    (cond (eqb n 5) (Corner b)
    (cond (eqb n 6) Row (cond (eqb n 7) Column (cond (eqb n 8) Room (cond (eqb n 9) Form Doubled))))))))

pub read-refusal : (r : Refusal) → read_refusal (number_of r) (bend_of r) ≡ r
read-refusal Form = refl
read-refusal Odd = refl
read-refusal Points = refl
read-refusal Width = refl
read-refusal Coordinate = refl
read-refusal Doubled = refl
read-refusal (Corner p) = refl
read-refusal Row = refl
read-refusal Column = refl
read-refusal Room = refl

-- number and position tell refusals apart
pub refusals-tell : (q r : Refusal) → number_of q ≡ number_of r → bend_of q ≡ bend_of r → q ≡ r
refusals-tell q r n b = sym (read-refusal q) ∙ ap (λ m. read_refusal m (bend_of q)) n ∙ ap (read_refusal (number_of r)) b ∙ read-refusal r
