-- What the two entries answer, without the code: each refusal exactly when, and what stands in the answer and in the list. Assumes
-- nothing.
use mathlib.Core.Path.{◌≡◌, refl, ap, ◌∙◌}
use mathlib.Core.Logic.{◌↔◌}
use mathlib.Core.Bool.{Bool, true, false, cond}
use mathlib.Core.List.{List, ◌++◌}
use Prim.Native.Nat.{ℕ, ◌*◌, ◌/◌, ◌≤◌, ◌<◌}
use native.Mathlib.Nat.{zero-div, div-eq_of_eq-mul_right}
use native.Mathlib.Omega.{arith}
use borrow.Author.Tests.{eqb-true, eqb-false, ltb-true, ltb-false, ne_eqb}
use lib.Dec.{ltb, eqb}
use lib.IntN.{ℤ}
use lib.ListN.{length, drop}
use lib.Seq.{sets}
use Rattle.whole.proofs.Tests.{ltb_iff, never, bad-first}
use Rattle.shapes.specs.declared.Line.{Line}
use Rattle.shapes.specs.declared.Offset.{Offset}
use Rattle.shapes.specs.Refusals.{room_refused}
use Rattle.shapes.specs.Shape.{LineNear, is_line_near}
use Rattle.shapes.specs.Strokes.{Thin, is_thin, stroke_refusal}
use Rattle.shapes.proofs.Laws.{line-near-iff}
use Rattle.shapes.proofs.Widths.{stroke-three, stroke-four, stroke-none}
use Rattle.parallels.specs.Parallels.{parallels_of}
use Rattle.thick_points.specs.Listing.{thick_points_of, parallel_numbers, point_numbers, listed, list_refusal, Listed, answered, written, parallels_refusal, points_refusal}
use Rattle.thick_points.proofs.Lists.{sets-listed, numbers-length, points-length}

-- ---- two refusals, n first: a number of the first, and one of the second or 0

module _ (n : ℕ) {rest m : ℕ} {P : Type 0} where
  first_by : (t : Bool) → eqb n 0 ≡ t → 0 < m → (rest ≡ m → ⊥) → (n ≡ m) ↔ P → (cond t rest n ≡ m) ↔ P
  first_by true e some other p = (λ h. absurd (other h), λ h. absurd (omega (arith, eqb-true n 0 e, p.1 h)))
  first_by false e some other p = p

  later-by : {Q : Type 0} (t : Bool) → eqb n 0 ≡ t → (n ≡ m → n ≡ 0) → (n ≡ 0) ↔ P → (rest ≡ m) ↔ Q → (cond t rest n ≡ m) ↔ (P × Q)
  later-by true e other p q = (λ h. (p.0 (eqb-true n 0 e), q.0 h), λ h. q.1 h.1)
  later-by false e other p q = (λ h. absurd (eqb-false n 0 e (other h)), λ h. absurd (eqb-false n 0 e (p.1 h.0)))

-- ---- each number exactly when it is the first that applies, else 0: of a line, a width, and a list of `room` numbers in which `need`
-- are to be written

pub record Exactly (k : ℕ) (l : Line) (width : ℤ) (room need n : ℕ) : Type 0 where
  pub three : (n ≡ 3) ↔ (Thin width → ⊥)
  pub four : (n ≡ 4) ↔ (Thin width × (LineNear k l → ⊥))
  pub eight : (n ≡ 8) ↔ ((Thin width × LineNear k l) × (room < need))
  pub none : (n ≡ 0) ↔ ((Thin width × LineNear k l) × (need ≤ room))

roomy : (room need : ℕ) (t : Bool) → ltb room need ≡ t → (cond t room_refused 0 ≡ 0) ↔ (need ≤ room)
roomy room need true e = (λ h. absurd (omega arith), λ h. absurd (omega (arith, ltb-true room need e)))
roomy room need false e = (λ h. ltb-false room need e, λ h. refl)

not_eight : (width : ℤ) (near : Bool) → stroke_refusal width near ≡ 8 → ⊥
unfolding stroke_refusal
not_eight width near = never (is_thin width) (never near (λ e. omega arith) (λ e. omega arith)) (λ e. omega arith)

pub list-exactly : (k : ℕ) (l : Line) (width : ℤ) (ns out : List ℤ) → Exactly k l width (length out) (length ns) (list_refusal k l width ns out)
unfolding list_refusal
list-exactly k l width ns out =
    let near = line-near-iff k l in
    let s = stroke_refusal width (is_line_near k l) in
    let short = ltb (length out) (length ns) in
    record {
      three = first_by s (eqb s 0) refl (omega arith) (never short (λ e. omega arith) (λ e. omega arith)) (stroke-three width near);
      four = first_by s (eqb s 0) refl (omega arith) (never short (λ e. omega arith) (λ e. omega arith)) (stroke-four width near);
      eight = later-by s (eqb s 0) refl (λ e. absurd (not_eight width (is_line_near k l) e)) (stroke-none width near) (bad-first short (ltb_iff (length out) (length ns)) (λ e. omega arith));
      none = later-by s (eqb s 0) refl (λ e. e) (stroke-none width near) (roomy (length out) (length ns) short refl);
    }

-- 01's numbers of `list_parallels`
pub parallels-exactly : (k : ℕ) (l : Line) (width : ℤ) (offset : Offset) (out : List ℤ) → Exactly k l width (length out) (4 * length (parallels_of l width offset)) (parallels_refusal k l width offset out)
unfolding parallels_refusal
parallels-exactly k l width offset out = rw (← numbers-length (parallels_of l width offset)) (list-exactly k l width (parallel_numbers (parallels_of l width offset)) out)

-- 01's numbers of `list_thick_points`
pub points-exactly : (k : ℕ) (l : Line) (width : ℤ) (out : List ℤ) → Exactly k l width (length out) (2 * length (thick_points_of l width)) (points_refusal k l width out)
unfolding points_refusal
points-exactly k l width out = rw (← points-length (thick_points_of l width)) (list-exactly k l width (point_numbers (thick_points_of l width)) out)

-- ---- what stands in the answer and in the list

abbrev pub answer : ℕ → ℕ → Listed
answer n count = record { refusal = n; count = count }

-- a refusal: its number only, with 0 for the other field, and the list is as it was
pub refused-answer : {n : ℕ} (count : ℕ) → 0 < n → answered n count ≡ answer n 0
unfolding answered
refused-answer {n} count h = rw (ne_eqb n 0 (λ e. omega arith))

pub refused-numbers : {n : ℕ} (ns out : List ℤ) → 0 < n → written n ns out ≡ out
unfolding written
refused-numbers {n} ns out h = rw (ne_eqb n 0 (λ e. omega arith))

pub accepted-answer : (count : ℕ) → answered 0 count ≡ answer 0 count
unfolding answered
accepted-answer count = refl

-- the numbers, and then what was there
pub accepted-numbers : (ns out : List ℤ) → written 0 ns out ≡ ns ++ drop (length ns) out
unfolding written listed
accepted-numbers ns out = refl

-- what is counted where each of them is d numbers
each-by : (t : Bool) (d count : ℕ) {total : ℕ} → 0 < d → total ≡ d * count → cond t total 0 / d ≡ cond t count 0
each-by true d count some e = div-eq_of_eq-mul_right some e
each-by false d count some e = zero-div d

pub each : (n d count : ℕ) {total : ℕ} → 0 < d → total ≡ d * count → answer (answered n total).refusal ((answered n total).count / d) ≡ answered n count
unfolding answered
each n d count some e = rw (each-by (eqb n 0) d count some e)

pub each-told : (n d count : ℕ) {total r m : ℕ} → 0 < d → total ≡ d * count → answer r m ≡ answered n total → answer r (m / d) ≡ answered n count
each-told n d count some e told = ap (λ (v : Listed). answer v.refusal (v.count / d)) told ∙ each n d count some e

-- ---- what the listing answers, by the tests on the way

module _ (k : ℕ) (l : Line) (width : ℤ) (ns out : List ℤ) (count : ℕ) where
  abbrev number : ℕ
  number = list_refusal k l width ns out

  abbrev pub Answers : Listed → List ℤ → Type 0
  Answers r after = (r ≡ answered number count) × (after ≡ written number ns out)

  pub refused-first : {n : ℕ} → n ≡ stroke_refusal width (is_line_near k l) → (n ≡ 0 → ⊥) → Answers (answer n 0) out
  unfolding list_refusal answered written
  refused-first {n} e some = rw (← e, ne_eqb n 0 some, ne_eqb n 0 some) (refl, refl)

  pub refused-short : Thin width → LineNear k l → length out < length ns → Answers (answer 8 0) out
  unfolding answered written
  refused-short thin near short = rw ((list-exactly k l width ns out).eight.1 ((thin, near), short)) (refl, refl)

  pub listed-all : Thin width → LineNear k l → length ns ≤ length out → Answers (answer 0 count) (sets out 0 ns)
  unfolding answered written
  listed-all thin near room = rw ((list-exactly k l width ns out).none.1 ((thin, near), room)) (refl, sets-listed out ns room)
