-- Two lines come to the square of side 1 round the point at which they are drawn to cross; a line and one that begins at its end are drawn to cross there.
-- Assumes nothing.
use mathlib.Core.Path.{◌≡◌, refl, sym, ap}
use mathlib.Core.Logic.{◌≢◌, ◌⊎◌, inl, inr}
use mathlib.Core.Bool.{Bool, true, false}
use Prim.Native.Nat.{ℕ, ◌+◌, ◌*◌, ◌≤◌}
use native.Mathlib.Nat.{mul-le-mul_left, le_of_mul-le-mul_left}
use native.Mathlib.Omega.{arith}
use lib.IntN.{pos, nat_abs, ◌-ℤ◌, ◌*ℤ◌}
use Rattle.whole.specs.Rounded.{Nearest}
use Rattle.whole.proofs.Bounds.{abs-mul, abs-sub}
use Rattle.whole.proofs.Laws.{some-abs, nearest-whole}
use Rattle.whole.proofs.Ring.{con, ◌⊖◌, ◌⊗◌, ◌≈◌, since, ring}
use Rattle.shapes.specs.declared.Point.{Point}
use Rattle.shapes.specs.declared.Line.{Line}
use Rattle.shapes.specs.declared.Side.{Side}
use Rattle.shapes.specs.Shape.{line_of, minus, determinant, delta}
use Rattle.shapes.proofs.Laws.{point-is}
use Rattle.intersection_params.specs.declared.Solution.{Solution}
use Rattle.intersection_params.specs.declared.Intersection.TheVariants.{At}
use Rattle.intersection_params.specs.Crossing.{solution_of, nearly_colinear}
use Rattle.intersection_params.specs.Words.{OnLine, TrueCrossing, IsDrawn}
use Rattle.intersection_params.proofs.Laws.{solution-true}
use Rattle.line_join.specs.Join.{meet}
use Rattle.line_join.proofs.Meeting.{meet-drawn, meet-ended}

-- the line comes to the square round the point, its border included
pub record Touches (l : Line) (p : Point) : Type 0 where
  pub near : 2 * nat_abs (determinant (delta l) (minus p l.start)) ≤ nat_abs (delta l).x + nat_abs (delta l).y

-- one that a crossing lies on does, round the point nearest to that
touches-nearest : (l : Line) (t : Solution) (p : Point) → t.determinant ≢ pos 0 → OnLine l t → Nearest t.x t.determinant p.x → Nearest t.y t.determinant p.y → Touches l p
unfolding determinant minus delta
touches-nearest l t p some on x y =
    let u = l.end.x -ℤ l.start.x in
    let v = l.end.y -ℤ l.start.y in
    let d = t.determinant in
    let ex = p.x *ℤ d -ℤ t.x in
    let ey = p.y *ℤ d -ℤ t.y in
    let far = u *ℤ (p.y -ℤ l.start.y) -ℤ v *ℤ (p.x -ℤ l.start.x) in
    let is : d *ℤ far ≡ u *ℤ ey -ℤ v *ℤ ex = ring 9 (λ u v d a b p q m n. since (con (pos 1)) (u ⊗ (n ⊖ d ⊗ b) ⊖ v ⊗ (m ⊖ d ⊗ a)) (con (pos 0)) (d ⊗ (u ⊗ (q ⊖ b) ⊖ v ⊗ (p ⊖ a)) ≈ u ⊗ (q ⊗ d ⊖ n) ⊖ v ⊗ (p ⊗ d ⊖ m))) refl u v d l.start.x l.start.y p.x p.y t.x t.y on in
    record {
      near =
          le_of_mul-le-mul_left {k = nat_abs d}
          (omega (arith, sym (abs-mul d far), ap nat_abs is, abs-sub (u *ℤ ey) (v *ℤ ex), abs-mul u ey, abs-mul v ex, mul-le-mul_left (nat_abs u) y.near, mul-le-mul_left (nat_abs v) x.near))
          (some-abs d some);
    }

module _ {first second : Line} {p : Point} {s : Side} (h : IsDrawn first second p s) where
  pub first-touches : Touches first p
  first-touches = let t = solution-true first second h.crosses in touches-nearest first (solution_of first second) p t.some t.on_first (h.nearest_x _ t) (h.nearest_y _ t)

  pub second-touches : Touches second p
  second-touches = let t = solution-true first second h.crosses in touches-nearest second (solution_of first second) p t.some t.on_second (h.nearest_x _ t) (h.nearest_y _ t)

-- ---- a line and one that begins at its end are drawn to cross there

module _ (a b c : Point) where
  -- their true crossing is that end
  abbrev solved : Solution
  solved = record { determinant = pos 1; x = b.x; y = b.y }

  end-crosses : TrueCrossing (line_of b c) (line_of a b) solved
  unfolding determinant delta minus
  end-crosses =
      record {
        some = λ e. let z : ◌≡◌ {A = ℕ} 1 0 = ap nat_abs e in omega arith;
        on_first = ring 4 (λ x y u v. (u ⊖ x) ⊗ (y ⊖ con (pos 1) ⊗ y) ⊖ (v ⊖ y) ⊗ (x ⊖ con (pos 1) ⊗ x) ≈ con (pos 0)) refl b.x b.y c.x c.y;
        on_second = ring 4 (λ x y u v. (x ⊖ u) ⊗ (y ⊖ con (pos 1) ⊗ v) ⊖ (y ⊖ v) ⊗ (x ⊖ con (pos 1) ⊗ u) ≈ con (pos 0)) refl b.x b.y a.x a.y;
      }

  pub drawn-end : {p : Point} {s : Side} → IsDrawn (line_of b c) (line_of a b) p s → p ≡ b
  drawn-end d = point-is (nearest-whole (d.nearest_x solved end-crosses)) (nearest-whole (d.nearest_y solved end-crosses))

-- ---- where two edges meet: at the end of the second, or where they are drawn to cross

module _ (j l : Line) {p : Point} {s : Side} where
  met_by : (t : Bool) → nearly_colinear j l ≡ t → meet j l ≡ At p s → (p ≡ l.end) ⊎ IsDrawn j l p s
  met_by true e m = inl ((meet-ended j l p s e).0 m).at_end
  met_by false e m = inr ((meet-drawn j l p s e).0 m)

  pub met_at : meet j l ≡ At p s → (p ≡ l.end) ⊎ IsDrawn j l p s
  met_at = met_by (nearly_colinear j l) refl
