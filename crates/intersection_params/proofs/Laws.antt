-- What 01 says in words of the crossing of two lines. Assumes nothing.
use mathlib.Core.Path.{◌≡◌, refl, sym, ap, subst, ◌∙◌}
use mathlib.Core.Logic.{◌≢◌, ◌↔◌}
use mathlib.Core.Bool.{Bool, true, false, cond}
use Prim.Native.Nat.{ℕ}
use native.Mathlib.Omega.{arith}
use lib.Dec.{eqb, lit<}
use lib.IntN.{ℤ, pos, nat_abs, ◌-ℤ◌, ◌*ℤ◌, ℤ_discrete}
use lib.Signed.{lt_z, ◌<ℤ◌}
use Rattle.std.specs.Prelude.{Result, Ok, Err}
use Rattle.whole.specs.Rounded.{rounded}
use Rattle.whole.specs.declared.Division.{Division}
use Rattle.whole.specs.declared.Division.TheVariants.{Exact, Half, Rounded}
use Rattle.whole.proofs.Laws.{rounded-nearest, nearest-unique, nearest-ratio}
use Rattle.whole.proofs.Orders.{eq_z-no}
use Rattle.whole.proofs.Ring.{con, neg, ◌⊕◌, ◌⊖◌, ◌⊗◌, ◌≈◌, since, ring}
use Rattle.whole.proofs.Tests.{and-iff, lt_iff, Chosen, chosen, chosen-exactly}
use Rattle.shapes.specs.declared.Point.{Point}
use Rattle.shapes.specs.declared.Line.{Line}
use Rattle.shapes.specs.declared.Side.{Side}
use Rattle.shapes.specs.declared.Side.TheVariants.{Left, Right}
use Rattle.shapes.specs.declared.Divisions.{Divisions}
use Rattle.shapes.specs.declared.refusals.Refusal.{Refusal}
use Rattle.shapes.specs.declared.refusals.Refusal.TheVariants.{Form, Odd, Points, Width, Coordinate, Doubled, Corner, Row, Column, Room}
use Rattle.shapes.specs.Shape.{LineNear, is_line_near, point_of, determinant, dot_product, quarter_turn, delta, minus}
use Rattle.shapes.proofs.Laws.{line-near-iff, turn-determinant}
use Rattle.linear_equation.specs.Equation.{equation_of}
use Rattle.intersection_params.specs.declared.Solution.{Solution}
use Rattle.intersection_params.specs.declared.Intersection.{Intersection}
use Rattle.intersection_params.specs.declared.Intersection.TheVariants.{At, Colinear}
use Rattle.intersection_params.specs.declared.Crossed.{Crossed}
use Rattle.intersection_params.specs.declared.Crossed.TheVariants as crossed
use Rattle.intersection_params.specs.Crossing.{cramer_of, solution_of, side_of, drawn_of, crossing_of, divisions_of, nearly_colinear, with_divisions, found_of, are_lines_near, CrossingValues, division_number, crossing_values, crossing_answer, nearly_answer}
use Rattle.intersection_params.specs.Words.{bend, OnLine, TrueCrossing, SamePoint, IsDrawn}

-- ---- the numerators over the determinant are the true crossing, and nothing else is

-- the Rust takes the determinant of the normals, which is that of the directions
pub determinant-directions : (a b : Line) → (solution_of a b).determinant ≡ bend a b
unfolding solution_of cramer_of equation_of
determinant-directions a b = turn-determinant (delta a) (delta b)

module _ (a b : Line) where
  -- a start and a direction: what the equations below are about
  abbrev at8 : {A : ℤ → ℤ → ℤ → ℤ → ℤ → ℤ → ℤ → ℤ → Type 0} → ((sx sy dx dy tx ty ux uy : ℤ) → A sx sy dx dy tx ty ux uy) → A a.start.x a.start.y (a.end.x -ℤ a.start.x) (a.end.y -ℤ a.start.y) b.start.x b.start.y (b.end.x -ℤ b.start.x) (b.end.y -ℤ b.start.y)
  at8 f = f a.start.x a.start.y (a.end.x -ℤ a.start.x) (a.end.y -ℤ a.start.y) b.start.x b.start.y (b.end.x -ℤ b.start.x) (b.end.y -ℤ b.start.y)

  solution-on-first : OnLine a (solution_of a b)
  unfolding solution_of cramer_of equation_of determinant dot_product quarter_turn delta minus
  solution-on-first =
      at8 (ring 8 (λ sx sy dx dy tx ty ux uy.
      dx ⊗ ((neg dy ⊗ (tx ⊗ neg uy ⊕ ty ⊗ ux) ⊖ neg uy ⊗ (sx ⊗ neg dy ⊕ sy ⊗ dx)) ⊖ (neg dy ⊗ ux ⊖ dx ⊗ neg uy) ⊗ sy)
      ⊖ dy ⊗ (((sx ⊗ neg dy ⊕ sy ⊗ dx) ⊗ ux ⊖ (tx ⊗ neg uy ⊕ ty ⊗ ux) ⊗ dx) ⊖ (neg dy ⊗ ux ⊖ dx ⊗ neg uy) ⊗ sx)
      ≈ con (pos 0)) refl)

  solution-on-second : OnLine b (solution_of a b)
  unfolding solution_of cramer_of equation_of determinant dot_product quarter_turn delta minus
  solution-on-second =
      at8 (ring 8 (λ sx sy dx dy tx ty ux uy.
      ux ⊗ ((neg dy ⊗ (tx ⊗ neg uy ⊕ ty ⊗ ux) ⊖ neg uy ⊗ (sx ⊗ neg dy ⊕ sy ⊗ dx)) ⊖ (neg dy ⊗ ux ⊖ dx ⊗ neg uy) ⊗ ty)
      ⊖ uy ⊗ (((sx ⊗ neg dy ⊕ sy ⊗ dx) ⊗ ux ⊖ (tx ⊗ neg uy ⊕ ty ⊗ ux) ⊗ dx) ⊖ (neg dy ⊗ ux ⊖ dx ⊗ neg uy) ⊗ tx)
      ≈ con (pos 0)) refl)

  pub solution-true : bend a b ≢ pos 0 → TrueCrossing a b (solution_of a b)
  solution-true h = record { some = rw (determinant-directions a b) h; on_first = solution-on-first; on_second = solution-on-second }

  pub true-crossing-unique : (t : Solution) → OnLine a t → OnLine b t → SamePoint t (solution_of a b)
  unfolding solution_of cramer_of equation_of determinant dot_product quarter_turn delta minus
  true-crossing-unique t p q =
      record {
        same_x =
            at8 (ring 11 (λ sx sy dx dy tx ty ux uy x y d.
            since ux (dx ⊗ (y ⊖ d ⊗ sy) ⊖ dy ⊗ (x ⊖ d ⊗ sx)) (con (pos 0)) (
            since (neg dx) (ux ⊗ (y ⊖ d ⊗ ty) ⊖ uy ⊗ (x ⊖ d ⊗ tx)) (con (pos 0)) (
            x ⊗ (neg dy ⊗ ux ⊖ dx ⊗ neg uy) ≈ ((sx ⊗ neg dy ⊕ sy ⊗ dx) ⊗ ux ⊖ (tx ⊗ neg uy ⊕ ty ⊗ ux) ⊗ dx) ⊗ d))) refl)
            t.x t.y t.determinant p q;
        same_y =
            at8 (ring 11 (λ sx sy dx dy tx ty ux uy x y d.
            since uy (dx ⊗ (y ⊖ d ⊗ sy) ⊖ dy ⊗ (x ⊖ d ⊗ sx)) (con (pos 0)) (
            since (neg dy) (ux ⊗ (y ⊖ d ⊗ ty) ⊖ uy ⊗ (x ⊖ d ⊗ tx)) (con (pos 0)) (
            y ⊗ (neg dy ⊗ ux ⊖ dx ⊗ neg uy) ≈ (neg dy ⊗ (tx ⊗ neg uy ⊕ ty ⊗ ux) ⊖ neg uy ⊗ (sx ⊗ neg dy ⊕ sy ⊗ dx)) ⊗ d))) refl)
            t.x t.y t.determinant p q;
      }

-- ---- the drawn crossing

side-by : (d : ℤ) (t : Bool) → lt_z d (pos 0) ≡ t → (side_of d ≡ Left) ↔ (lt_z d (pos 0) ≡ true)
unfolding side_of
side-by d true e = rw e (λ s. refl, λ s. refl)
side-by d false e = rw e (λ s. cc, λ s. cc)

-- Left exactly when negative
pub left-negative : (d : ℤ) → (side_of d ≡ Left) ↔ (d <ℤ pos 0)
left-negative d =
    let test = side-by d (lt_z d (pos 0)) refl in
    let order = lt_iff d (pos 0) in
    (λ s. order.0 (test.0 s), λ h. test.1 (order.1 h))

pub one_side : (s t : Side) {P : Type 0} → (s ≡ Left) ↔ P → (t ≡ Left) ↔ P → s ≡ t
one_side Left t p q = sym (q.1 (p.0 refl))
one_side Right Left p q = p.1 (q.0 refl)
one_side Right Right p q = refl

-- the point that the definition draws
abbrev nearest : Line → Line → Point
nearest a b = point_of (rounded (solution_of a b).x (bend a b)) (rounded (solution_of a b).y (bend a b))

colinear : (a b : Line) → bend a b ≡ pos 0 → crossing_of a b ≡ Colinear
unfolding crossing_of drawn_of
colinear a b z = simp (determinant-directions a b ∙ z)

drawn : (a b : Line) → bend a b ≢ pos 0 → crossing_of a b ≡ At (nearest a b) (side_of (bend a b))
unfolding crossing_of drawn_of
drawn a b h = simp (determinant-directions a b, eq_z-no (bend a b) (pos 0) h)

-- Colinear exactly when the determinant of the two directions is 0
pub colinear-exactly : (a b : Line) → (crossing_of a b ≡ Colinear) ↔ (bend a b ≡ pos 0)
colinear-exactly a b = (λ e. by-case (ℤ_discrete (bend a b) (pos 0)) e, colinear a b)
  where
    by-case : Dec (bend a b ≡ pos 0) → crossing_of a b ≡ Colinear → bend a b ≡ pos 0
    by-case (yes z) e = z
    by-case (no h) e = cc (drawn a b h)

-- it is what 01 says
as_said : (a b : Line) → bend a b ≢ pos 0 → IsDrawn a b (nearest a b) (side_of (bend a b))
as_said a b h =
    let s = solution_of a b in
    let same : (t : Solution) → TrueCrossing a b t → SamePoint t s = λ t c. true-crossing-unique a b t c.on_first c.on_second in
    record {
      crosses = h;
      nearest_x = λ t c. nearest-ratio s.x (bend a b) t.x t.determinant _ h c.some (rw determinant-directions at (same t c).same_x) (rounded-nearest s.x (bend a b) h);
      nearest_y = λ t c. nearest-ratio s.y (bend a b) t.y t.determinant _ h c.some (rw determinant-directions at (same t c).same_y) (rounded-nearest s.y (bend a b) h);
      left = left-negative (bend a b);
    }

-- a crossing is drawn exactly as 01 says
module _ (a b : Line) (p : Point) (s : Side) where
  only-said : IsDrawn a b p s → crossing_of a b ≡ At p s
  only-said d =
      let h = d.crosses in
      let true-one = solution-true a b h in
      let x = nearest-unique _ _ _ _ (rw determinant-directions at (d.nearest_x (solution_of a b) true-one)) (rounded-nearest (solution_of a b).x (bend a b) h) in
      let y = nearest-unique _ _ _ _ (rw determinant-directions at (d.nearest_y (solution_of a b) true-one)) (rounded-nearest (solution_of a b).y (bend a b) h) in
      drawn a b h ∙ simp (sym x, sym y, sym (one_side s (side_of (bend a b)) d.left (left-negative (bend a b))))

  pub drawn-exactly : (crossing_of a b ≡ At p s) ↔ IsDrawn a b p s
  drawn-exactly = (λ e. by-case (ℤ_discrete (bend a b) (pos 0)) e, only-said)
    where
      by-case : Dec (bend a b ≡ pos 0) → crossing_of a b ≡ At p s → IsDrawn a b p s
      by-case (yes z) e = let n : ◌≡◌ {A = ℕ} 0 1 = cc (colinear a b z) in absurd (omega arith)
      by-case (no h) e =
          let point : nearest a b ≡ p = cc (drawn a b h) in
          let side : side_of (bend a b) ≡ s = cc (drawn a b h) in
          subst (λ q. IsDrawn a b q s) point (subst (λ t. IsDrawn a b (nearest a b) t) side (as_said a b h))

-- ---- the entries' answers

-- each answer has values of its own: it can be read back from them
abbrev read_division : ℕ → Division
read_division n = cond (eqb n 1) Exact (cond (eqb n 2) Half Rounded)

read-division : (v : Division) → read_division (division_number v) ≡ v
read-division Exact = refl
read-division Half = refl
read-division Rounded = refl

-- a refusal, from its number and the position that comes with it
abbrev read_refusal : ℕ → ℕ → Refusal
read_refusal n p =
    cond (eqb n 9) Form (cond (eqb n 1) Odd (cond (eqb n 2) Points (cond (eqb n 3) Width (cond (eqb n 4) Coordinate
    (cond (eqb n 12) Doubled (cond (eqb n 5) (Corner p) (cond (eqb n 6) Row (cond (eqb n 7) Column Room))))))))

abbrev read_crossed : CrossingValues → Crossed
read_crossed v =
    cond (eqb v.found 1) crossed.Colinear
    (crossed.At (point_of v.x v.y) (cond (eqb v.found 2) Left Right) (record { x = read_division v.x_division; y = read_division v.y_division }))

abbrev read_back : CrossingValues → Result Crossed Refusal
read_back v = cond (eqb v.refusal 0) (Ok (read_crossed v)) (Err (read_refusal v.refusal v.found))

refused-back : (r : Refusal) → read_back (crossing_values (Err r)) ≡ Err r
unfolding crossing_values
refused-back Form = refl
refused-back Odd = refl
refused-back Points = refl
refused-back Width = refl
refused-back Coordinate = refl
refused-back Doubled = refl
refused-back (Corner p) = refl
refused-back Row = refl
refused-back Column = refl
refused-back Room = refl

read-back : (r : Result Crossed Refusal) → read_back (crossing_values r) ≡ r
unfolding crossing_values
read-back (Ok (crossed.At p Left ds)) = simp read-division
read-back (Ok (crossed.At p Right ds)) = simp read-division
read-back (Ok crossed.Colinear) = refl
read-back (Err r) = refused-back r

pub values-tell : (r s : Result Crossed Refusal) → crossing_values r ≡ crossing_values s → r ≡ s
values-tell r s e = sym (read-back r) ∙ ap read_back e ∙ read-back s

-- both lines are inside a limit
abbrev pub Inside : ℕ → Line → Line → Type 0
Inside k a b = LineNear k a × LineNear k b

pub near-exactly : (k : ℕ) (a b : Line) → (are_lines_near k a b ≡ true) ↔ Inside k a b
unfolding are_lines_near
near-exactly k a b = and-iff (is_line_near k a) (is_line_near k b) (line-near-iff k a) (line-near-iff k b)

-- inside the limit the crossing, else refusal 4 with 0 in every other value
pub crossing-chosen : (k : ℕ) (a b : Line) → Chosen (Inside k a b) (crossing_answer k a b) (crossing_values (Ok (found_of (solution_of a b)))) (record { refusal = 4; found = 0; x = pos 0; y = pos 0; x_division = 0; y_division = 0 })
unfolding crossing_answer crossing_values
crossing-chosen k a b =
    let c = chosen (are_lines_near k a b) (Ok (found_of (solution_of a b))) (Err Coordinate) (near-exactly k a b) in
    record { holds = λ h. ap crossing_values (c.holds h); fails = λ n. ap crossing_values (c.fails n) }

pub nearly-chosen : (k : ℕ) (a b : Line) → Chosen (Inside k a b) (nearly_answer k a b) (record { refusal = 0; holds = nearly_colinear a b }) (record { refusal = 4; holds = false })
unfolding nearly_answer
nearly-chosen k a b = chosen (are_lines_near k a b) _ _ (near-exactly k a b)

unrefused-by : (ds : Divisions) (x : Intersection) → (crossing_values (Ok (with_divisions ds x))).refusal ≡ 0
unfolding crossing_values
unrefused-by ds (At p s) = refl
unrefused-by ds Colinear = refl

-- a crossing that is worked out is no refusal
unrefused : (s : Solution) → (crossing_values (Ok (found_of s))).refusal ≡ 0
unfolding found_of
unrefused s = unrefused-by (divisions_of s) (drawn_of s)

pub crossing-refused : (k : ℕ) (a b : Line) → ((crossing_answer k a b).refusal ≡ 4) ↔ (Inside k a b → ⊥)
crossing-refused k a b = chosen-exactly (λ v. v.refusal) (unrefused (solution_of a b)) refl (lit< tt) (crossing-chosen k a b)

pub nearly-refused : (k : ℕ) (a b : Line) → ((nearly_answer k a b).refusal ≡ 4) ↔ (Inside k a b → ⊥)
nearly-refused k a b = chosen-exactly (λ v. v.refusal) refl refl (lit< tt) (nearly-chosen k a b)

-- ---- the near-colinear test

pub nearly-exactly : (a b : Line) → (nearly_colinear a b ≡ true) ↔ ((bend a b *ℤ bend a b) <ℤ pos (nat_abs (dot_product (delta a) (delta b))))
unfolding nearly_colinear
nearly-exactly a b = rw determinant-directions (lt_iff (bend a b *ℤ bend a b) (pos (nat_abs (dot_product (delta a) (delta b)))))
