-- Laws of a line's equation: it is small enough for 64 bits, it holds just on the line, and the sides part there.
-- Assumes nothing.
use mathlib.Core.Path.{◌≡◌, refl, sym, ◌∙◌}
use mathlib.Core.Logic.{◌↔◌}
use mathlib.Core.Bool.{true, false}
use Prim.Native.Nat.{ℕ}
use lib.IntN.{pos}
use lib.Signed.{◌≤ℤ◌, ≤ℤ_refl}
use lib.Dec.{lit<, lit≤}
use Rattle.whole.proofs.Linear.{linear}
use Rattle.whole.proofs.Ring.{neg, ◌⊕◌, ◌⊖◌, ◌⊗◌, ◌≈◌, ring}
use Rattle.whole.proofs.Tests.{and_left, and_right, and-iff, le_iff, Chosen, chosen, chosen-exactly}
use Rattle.shapes.specs.declared.Point.{Point}
use Rattle.shapes.specs.declared.Line.{Line}
use Rattle.shapes.specs.declared.Side.{Side}
use Rattle.shapes.specs.declared.Side.TheVariants.{Left, Right}
use Rattle.shapes.specs.Limits.{crossing_limit, line_limit}
use Rattle.shapes.specs.Shape.{point_of, Near, LineNear, is_near, is_line_near, minus, quarter_turn, determinant, dot_product, delta}
use Rattle.shapes.proofs.Laws.{near-more, line-near-more, near-turn, near-delta, within-dot, true-near, true-line-near, near-iff, line-near-iff}
use Rattle.linear_equation.specs.declared.LinearEquation.{LinearEquation}
use Rattle.linear_equation.specs.Equation.{Tame, equation_of, distance_of, is_on_side, are_inside, equation_answer, distance_answer, side_answer}

-- ---- bounds

pub tame : {l : Line} → LineNear line_limit l → Tame (equation_of l)
unfolding equation_of
tame h =
    let normal = near-turn (near-delta h) in
    record { normal_near = normal; distance_within = within-dot h.start_near normal }

-- what passes the entries' tests is small enough
pub line-room : (l : Line) → is_line_near crossing_limit l ≡ true → LineNear line_limit l
line-room l e = line-near-more (true-line-near crossing_limit l e) (lit≤ tt)

pub near-line : (l : Line) (p : Point) → are_inside crossing_limit l p ≡ true → LineNear line_limit l
unfolding are_inside
near-line l p e = line-room l (and_left (is_line_near crossing_limit l) (is_near crossing_limit p) e)

pub near-point : (l : Line) (p : Point) → are_inside crossing_limit l p ≡ true → Near line_limit p
unfolding are_inside
near-point l p e = near-more (true-near crossing_limit p (and_right (is_line_near crossing_limit l) (is_near crossing_limit p) e)) (lit≤ tt)

-- what lets the entries call what asks for bounds
pub ruleset inside = (line-room, near-line, near-point, tame)

-- ---- what the distance says

-- the distance of p is the determinant of the line's direction and the way from its start to p
pub distance-determinant : (l : Line) (p : Point) → distance_of (equation_of l) p ≡ determinant (delta l) (minus p l.start)
unfolding distance_of equation_of dot_product quarter_turn delta minus determinant
distance-determinant l p =
    ring 6 (λ sx sy ex ey px py.
    (px ⊗ neg (ey ⊖ sy) ⊕ py ⊗ (ex ⊖ sx)) ⊖ (sx ⊗ neg (ey ⊖ sy) ⊕ sy ⊗ (ex ⊖ sx)) ≈ (ex ⊖ sx) ⊗ (py ⊖ sy) ⊖ (ey ⊖ sy) ⊗ (px ⊖ sx)) refl
    l.start.x l.start.y l.end.x l.end.y p.x p.y

-- ---- the side test

-- Left for a distance ≤ 0
pub left-exactly : (e : LinearEquation) (p : Point) → (is_on_side e p Left ≡ true) ↔ (distance_of e p ≤ℤ pos 0)
unfolding is_on_side
left-exactly e p = le_iff (distance_of e p) (pos 0)

-- Right for a distance ≥ 0
pub right-exactly : (e : LinearEquation) (p : Point) → (is_on_side e p Right ≡ true) ↔ (pos 0 ≤ℤ distance_of e p)
unfolding is_on_side
right-exactly e p = le_iff (pos 0) (distance_of e p)

-- both exactly where the way from the line's start to the point runs along the line
pub both-on-line : (l : Line) (p : Point) → ((is_on_side (equation_of l) p Left ≡ true) × (is_on_side (equation_of l) p Right ≡ true)) ↔ (determinant (delta l) (minus p l.start) ≡ pos 0)
both-on-line l p =
    let left = left-exactly (equation_of l) p in
    let right = right-exactly (equation_of l) p in
    let d = distance-determinant l p in (
      λ h. sym d ∙ omega (linear, left.0 h.0, right.0 h.1),
      λ z. (left.1 (rw (d, z) (≤ℤ_refl (pos 0))), right.1 (rw (d, z) (≤ℤ_refl (pos 0)))),
    )

-- ---- the entries, for a limit k: inside it the answer, else refusal 4 with 0 in every other field

pub equation-chosen : (k : ℕ) (l : Line) → Chosen (LineNear k l) (equation_answer k l) (record { refusal = 0; equation = equation_of l }) (record { refusal = 4; equation = record { normal = point_of (pos 0) (pos 0); distance = pos 0 } })
unfolding equation_answer
equation-chosen k l = chosen (is_line_near k l) _ _ (line-near-iff k l)

pub equation-refused : (k : ℕ) (l : Line) → ((equation_answer k l).refusal ≡ 4) ↔ (LineNear k l → ⊥)
equation-refused k l = chosen-exactly (λ v. v.refusal) refl refl (lit< tt) (equation-chosen k l)

near-iff-both : (k : ℕ) (l : Line) (p : Point) → (are_inside k l p ≡ true) ↔ (LineNear k l × Near k p)
unfolding are_inside
near-iff-both k l p = and-iff (is_line_near k l) (is_near k p) (line-near-iff k l) (near-iff k p)

pub distance-chosen : (k : ℕ) (l : Line) (p : Point) → Chosen (LineNear k l × Near k p) (distance_answer k l p) (record { refusal = 0; distance = distance_of (equation_of l) p }) (record { refusal = 4; distance = pos 0 })
unfolding distance_answer
distance-chosen k l p = chosen (are_inside k l p) _ _ (near-iff-both k l p)

pub distance-refused : (k : ℕ) (l : Line) (p : Point) → ((distance_answer k l p).refusal ≡ 4) ↔ (LineNear k l × Near k p → ⊥)
distance-refused k l p = chosen-exactly (λ v. v.refusal) refl refl (lit< tt) (distance-chosen k l p)

pub side-chosen : (k : ℕ) (l : Line) (p : Point) (s : Side) → Chosen (LineNear k l × Near k p) (side_answer k l p s) (record { refusal = 0; holds = is_on_side (equation_of l) p s }) (record { refusal = 4; holds = false })
unfolding side_answer
side-chosen k l p s = chosen (are_inside k l p) _ _ (near-iff-both k l p)

pub side-refused : (k : ℕ) (l : Line) (p : Point) (s : Side) → ((side_answer k l p s).refusal ≡ 4) ↔ (LineNear k l × Near k p → ⊥)
side-refused k l p s = chosen-exactly (λ v. v.refusal) refl refl (lit< tt) (side-chosen k l p s)
