-- 02's K4: how the coordinates of a crossing come out, said of the true crossing. Assumes nothing.
use mathlib.Core.Path.{◌≡◌, refl, subst, ◌∙◌}
use mathlib.Core.Logic.{◌≢◌, ◌↔◌}
use Prim.Native.Nat.{ℕ}
use native.Mathlib.Omega.{arith}
use lib.IntN.{pos, ◌-ℤ◌, ◌*ℤ◌}
use Rattle.whole.specs.declared.Division.TheVariants.{Exact}
use Rattle.whole.specs.Divided.{division_of, Whole, Halfway, Further}
use Rattle.whole.proofs.Divided.{comes-out, division-exactly, comes-out-ratio, exact-nearest, half-nearest}
use Rattle.whole.proofs.Products.{*ℤ-id, *ℤ-null}
use Rattle.whole.proofs.Ring.{con, neg, ◌⊖◌, ◌⊗◌, ◌≈◌, since, ring}
use Rattle.shapes.specs.declared.Point.{Point}
use Rattle.shapes.specs.declared.Line.{Line}
use Rattle.shapes.specs.declared.Side.{Side}
use Rattle.shapes.specs.declared.Divisions.{Divisions}
use Rattle.shapes.specs.Shape.{determinant, delta, minus}
use Rattle.intersection_params.specs.declared.Solution.{Solution}
use Rattle.intersection_params.specs.declared.Intersection.{Intersection}
use Rattle.intersection_params.specs.declared.Intersection.TheVariants.{At, Colinear}
use Rattle.intersection_params.specs.declared.Crossed.TheVariants as crossed
use Rattle.intersection_params.specs.Crossing.{solution_of, drawn_of, crossing_of, divisions_of, with_divisions, found_of}
use Rattle.intersection_params.specs.Words.{bend, OnLine, TrueCrossing, SamePoint, IsDrawn, IsDivided, whole_point}
use Rattle.intersection_params.proofs.Laws.{solution-true, true-crossing-unique, colinear-exactly, drawn-exactly}

-- ---- of the true crossing, however it is written

module _ (a b : Line) (h : bend a b ≢ pos 0) where
  abbrev s : Solution
  s = solution_of a b

  abbrev some : s.determinant ≢ pos 0
  some = (solution-true a b h).some

  abbrev same : (t : Solution) → TrueCrossing a b t → SamePoint t s
  same t c = true-crossing-unique a b t c.on_first c.on_second

  divided : IsDivided a b (divisions_of s)
  unfolding divisions_of
  divided =
      record {
        x_comes_out = λ t c. comes-out-ratio (division_of s.x s.determinant) s.x s.determinant t.x t.determinant some c.some (same t c).same_x (comes-out s.x s.determinant some);
        y_comes_out = λ t c. comes-out-ratio (division_of s.y s.determinant) s.y s.determinant t.y t.determinant some c.some (same t c).same_y (comes-out s.y s.determinant some);
      }

  -- exact exactly when the true coordinate is a whole number, half exactly when twice the true coordinate is an odd one, rounded exactly
  -- when neither
  pub divisions-exactly : (ds : Divisions) → (divisions_of s ≡ ds) ↔ IsDivided a b ds
  unfolding divisions_of
  divisions-exactly ds = (λ e. subst (IsDivided a b) e divided, only)
    where
      only : IsDivided a b ds → divisions_of (solution_of a b) ≡ ds
      only d =
          let true-one = solution-true a b h in
          let x = (division-exactly s.x s.determinant some ds.x).1 (d.x_comes_out s true-one) in
          let y = (division-exactly s.y s.determinant some ds.y).1 (d.y_comes_out s true-one) in
          simp (x, y)

-- ---- with the point and the side

module _ (a b : Line) (p : Point) (s : Side) (ds : Divisions) where
  parts-of : (es : Divisions) (x : Intersection) → with_divisions es x ≡ crossed.At p s ds → (x ≡ At p s) × (es ≡ ds)
  parts-of es (At q t) e = (cc, cc)
  parts-of es Colinear e = let z : ◌≡◌ {A = ℕ} 0 1 = cc in absurd (omega arith)

  -- the whole answer, exactly when
  pub found-exactly : (found_of (solution_of a b) ≡ crossed.At p s ds) ↔ (IsDrawn a b p s × IsDivided a b ds)
  unfolding found_of crossing_of
  found-exactly = (there, back)
    where
      there : found_of (solution_of a b) ≡ crossed.At p s ds → IsDrawn a b p s × IsDivided a b ds
      there e =
          let parts = parts-of (divisions_of (solution_of a b)) (drawn_of (solution_of a b)) e in
          let d = (drawn-exactly a b p s).0 parts.0 in
          (d, (divisions-exactly a b d.crosses ds).0 parts.1)

      back : IsDrawn a b p s × IsDivided a b ds → found_of (solution_of a b) ≡ crossed.At p s ds
      back d = cc ((drawn-exactly a b p s).1 d.0, (divisions-exactly a b d.0.crosses ds).1 d.1)

none-by : (ds : Divisions) (x : Intersection) → (with_divisions ds x ≡ crossed.Colinear) ↔ (x ≡ Colinear)
none-by ds (At p s) = (λ e. let z : ◌≡◌ {A = ℕ} 0 1 = cc in absurd (omega arith), λ e. let z : ◌≡◌ {A = ℕ} 0 1 = cc in absurd (omega arith))
none-by ds Colinear = (λ e. refl, λ e. refl)

pub found-colinear : (a b : Line) → (found_of (solution_of a b) ≡ crossed.Colinear) ↔ (bend a b ≡ pos 0)
unfolding found_of crossing_of
found-colinear a b =
    let none = none-by (divisions_of (solution_of a b)) (drawn_of (solution_of a b)) in
    let exactly = colinear-exactly a b in
    (λ e. exactly.0 (none.0 e), λ z. none.1 (exactly.1 z))

-- a point whose coordinates are those of a solution lies on the solution's lines
on-whole : (l : Line) (t : Solution) (p : Point) → t.determinant ≢ pos 0 → p.x *ℤ t.determinant ≡ t.x → p.y *ℤ t.determinant ≡ t.y → OnLine l t → OnLine l (whole_point p)
unfolding determinant delta minus
on-whole l t p some x y on =
    *ℤ-null t.determinant _ some
    (ring 9 (λ sx sy dx dy px py d tx ty.
    since (neg dy) (px ⊗ d) tx (
    since dx (py ⊗ d) ty (
    since (con (pos 1)) (dx ⊗ (ty ⊖ d ⊗ sy) ⊖ dy ⊗ (tx ⊖ d ⊗ sx)) (con (pos 0)) (
    d ⊗ (dx ⊗ (py ⊖ con (pos 1) ⊗ sy) ⊖ dy ⊗ (px ⊖ con (pos 1) ⊗ sx)) ≈ con (pos 0))))) refl
    l.start.x l.start.y (l.end.x -ℤ l.start.x) (l.end.y -ℤ l.start.y) p.x p.y t.determinant t.x t.y x y on)

module _ {a b : Line} {p : Point} {s : Side} (d : IsDrawn a b p s) where
  abbrev true-one : TrueCrossing a b (solution_of a b)
  true-one = solution-true a b d.crosses

  -- both are exact exactly when the drawn point is the true crossing
  pub exact-exactly : (divisions_of (solution_of a b) ≡ record { x = Exact; y = Exact }) ↔ TrueCrossing a b (whole_point p)
  unfolding divisions_of
  exact-exactly = (there, back)
    where
      there : divisions_of (solution_of a b) ≡ record { x = Exact; y = Exact } → TrueCrossing a b (whole_point p)
      there e =
          let t = solution_of a b in
          let out = (divisions-exactly a b d.crosses _).0 e in
          let x = exact-nearest true-one.some (d.nearest_x t true-one) (out.x_comes_out t true-one) in
          let y = exact-nearest true-one.some (d.nearest_y t true-one) (out.y_comes_out t true-one) in
          record {
            some = λ z. let n : ◌≡◌ {A = ℕ} 1 0 = cc in absurd (omega arith);
            on_first = on-whole a t p true-one.some x y true-one.on_first;
            on_second = on-whole b t p true-one.some x y true-one.on_second;
          }

      back : TrueCrossing a b (whole_point p) → divisions_of (solution_of a b) ≡ record { x = Exact; y = Exact }
      back c =
          let t = solution_of a b in
          let at = true-crossing-unique a b (whole_point p) c.on_first c.on_second in
          let x : Whole t.x t.determinant = record { quotient = p.x; is = at.same_x ∙ *ℤ-id t.x } in
          let y : Whole t.y t.determinant = record { quotient = p.y; is = at.same_y ∙ *ℤ-id t.y } in
          simp ((division-exactly t.x t.determinant true-one.some Exact).1 x, (division-exactly t.y t.determinant true-one.some Exact).1 y)

  -- half way the drawn coordinate is the further from zero of the two nearest
  pub half-x : (t : Solution) → TrueCrossing a b t → (h : Halfway t.x t.determinant) → Further h.below p.x
  half-x t c h = half-nearest c.some (d.nearest_x t c) h

  pub half-y : (t : Solution) → TrueCrossing a b t → (h : Halfway t.y t.determinant) → Further h.below p.y
  half-y t c h = half-nearest c.some (d.nearest_y t c) h
