-- Laws of points and lines: bounds of what is worked out of them, and what a quarter turn keeps. Assumes nothing.
use mathlib.Core.Path.{◌≡◌, refl, ap}
use mathlib.Core.Logic.{◌↔◌}
use mathlib.Core.Bool.{true}
use Prim.Native.Nat.{ℕ, ◌+◌, ◌*◌, ◌^◌, ◌≤◌}
use lib.Dec.{T, ltb}
use lib.IntN.{ℤ, ◌-ℤ◌}
use mir.Syntax.{w64}
use mir.Val.{to_z, of_z}
use Rattle.whole.specs.Number.{Within, is_within, eq_z}
use Rattle.whole.proofs.Bounds.{within_more, within-neg, within-add, within-sub, within-mul}
use Rattle.whole.proofs.Laws.{true-within, within-true}
use Rattle.whole.proofs.Machine.{Hold, hold}
use Rattle.whole.proofs.Ring.{neg, ◌⊕◌, ◌⊖◌, ◌⊗◌, ◌≈◌, ring}
use Rattle.whole.proofs.Orders.{eq_z-iff}
use Rattle.whole.proofs.Tests.{and_left, and_right, and-iff}
use Rattle.shapes.specs.declared.Point.{Point}
use Rattle.shapes.specs.declared.Line.{Line}
use Rattle.shapes.specs.Shape.{point_of, line_of, Near, LineNear, is_near, is_line_near, same_point, plus, minus, quarter_turn, determinant, dot_product, delta, perpendicular}

-- ---- a coordinate, in its bits

pub x-held : {k : ℕ} {p : Point} → Near k p → T (ltb k (2 ^ 63)) → Hold (of_z w64 p.x) p.x k
x-held h t = hold h.x_near t

pub y-held : {k : ℕ} {p : Point} → Near k p → T (ltb k (2 ^ 63)) → Hold (of_z w64 p.y) p.y k
y-held h t = hold h.y_near t

-- two numbers that the machine holds, as a point
pub point-held : {a b j k : ℕ} {x y : ℤ} → Hold a x j → Hold b y k → point_of (to_z w64 a) (to_z w64 b) ≡ point_of x y
point-held p q = simp (p.is, q.is)

pub near-held : {a b j k n : ℕ} {x y : ℤ} → Hold a x j → Hold b y k → j ≤ n → k ≤ n → Near n (point_of (to_z w64 a) (to_z w64 b))
near-held p q h i = record { x_near = rw p.is (within_more p.small h); y_near = rw q.is (within_more q.small i) }

-- ---- bounds

pub near-more : {j k : ℕ} {p : Point} → Near j p → j ≤ k → Near k p
near-more h le = record { x_near = within_more h.x_near le; y_near = within_more h.y_near le }

pub line-near-more : {j k : ℕ} {l : Line} → LineNear j l → j ≤ k → LineNear k l
line-near-more h le = record { start_near = near-more h.start_near le; end_near = near-more h.end_near le }

pub near-plus : {j k : ℕ} {a b : Point} → Near j a → Near k b → Near (j + k) (plus a b)
unfolding plus
near-plus p q = record { x_near = within-add p.x_near q.x_near; y_near = within-add p.y_near q.y_near }

pub near-minus : {j k : ℕ} {a b : Point} → Near j a → Near k b → Near (j + k) (minus a b)
unfolding minus
near-minus p q = record { x_near = within-sub p.x_near q.x_near; y_near = within-sub p.y_near q.y_near }

pub near-turn : {k : ℕ} {p : Point} → Near k p → Near k (quarter_turn p)
unfolding quarter_turn
near-turn h = record { x_near = within-neg h.y_near; y_near = h.x_near }

pub near-delta : {k : ℕ} {l : Line} → LineNear k l → Near (k + k) (delta l)
unfolding delta
near-delta h = near-minus h.end_near h.start_near

pub within-determinant : {j k : ℕ} {a b : Point} → Near j a → Near k b → Within (determinant a b) (j * k + j * k)
unfolding determinant
within-determinant p q = within-sub (within-mul p.x_near q.y_near) (within-mul p.y_near q.x_near)

pub within-dot : {j k : ℕ} {a b : Point} → Near j a → Near k b → Within (dot_product a b) (j * k + j * k)
unfolding dot_product
within-dot p q = within-add (within-mul p.x_near q.x_near) (within-mul p.y_near q.y_near)

-- ---- tests of bounds

pub true-near : (k : ℕ) (p : Point) → is_near k p ≡ true → Near k p
unfolding is_near
true-near k p e =
    record {
      x_near = true-within k p.x (and_left (is_within k p.x) (is_within k p.y) e);
      y_near = true-within k p.y (and_right (is_within k p.x) (is_within k p.y) e);
    }

pub near-true : {k : ℕ} {p : Point} → Near k p → is_near k p ≡ true
unfolding is_near
near-true h = simp (within-true h.x_near, within-true h.y_near)

pub true-line-near : (k : ℕ) (l : Line) → is_line_near k l ≡ true → LineNear k l
unfolding is_line_near
true-line-near k l e =
    record {
      start_near = true-near k l.start (and_left (is_near k l.start) (is_near k l.end) e);
      end_near = true-near k l.end (and_right (is_near k l.start) (is_near k l.end) e);
    }

pub line-near-true : {k : ℕ} {l : Line} → LineNear k l → is_line_near k l ≡ true
unfolding is_line_near
line-near-true h = simp (near-true h.start_near, near-true h.end_near)

pub near-iff : (k : ℕ) (p : Point) → (is_near k p ≡ true) ↔ Near k p
near-iff k p = (true-near k p, near-true)

pub line-near-iff : (k : ℕ) (l : Line) → (is_line_near k l ≡ true) ↔ LineNear k l
line-near-iff k l = (true-line-near k l, line-near-true)

-- ---- a quarter turn of both keeps the determinant

pub turn-determinant : (a b : Point) → determinant (quarter_turn a) (quarter_turn b) ≡ determinant a b
unfolding determinant quarter_turn
turn-determinant a b = ring 4 (λ ax ay bx by. neg ay ⊗ bx ⊖ ax ⊗ neg by ≈ ax ⊗ by ⊖ ay ⊗ bx) refl a.x a.y b.x b.y

-- W1's two turns are opposite: a quarter turn of the perpendicular's delta is the line's own
pub perpendicular-turned : (l : Line) → quarter_turn (delta (perpendicular l)) ≡ delta l
unfolding quarter_turn delta perpendicular plus minus
perpendicular-turned l =
    simp (
      ring 2 (λ s d. neg ((s ⊕ neg d) ⊖ s) ≈ d) refl l.start.y (l.end.x -ℤ l.start.x),
      ring 2 (λ s d. (s ⊕ d) ⊖ s ≈ d) refl l.start.x (l.end.y -ℤ l.start.y),
    )

-- ---- the line between two points

pub line-of-near : {k : ℕ} {a b : Point} → Near k a → Near k b → LineNear k (line_of a b)
line-of-near p q = record { start_near = p; end_near = q }

-- ---- the test for equal points

pub point-is : {a : Point} {x y : ℤ} → a.x ≡ x → a.y ≡ y → a ≡ point_of x y
point-is p q = rw (← p, ← q) refl

pub same-exactly : (a b : Point) → (same_point a b ≡ true) ↔ (a ≡ b)
unfolding same_point
same-exactly a b =
    let both = and-iff (eq_z a.x b.x) (eq_z a.y b.y) (eq_z-iff a.x b.x) (eq_z-iff a.y b.y) in
    (λ e. let h = both.0 e in point-is h.0 h.1, λ e. both.1 (ap (λ (p : Point). p.x) e, ap (λ (p : Point). p.y) e))
