-- The printed meeting of a line and a row, where points are skipped and taken, comes to the same as that of all points. Assumes nothing.
use mathlib.Core.Path.{◌≡◌, refl, sym, ap, ◌∙◌}
use mathlib.Core.Logic.{⊎_elim}
use mathlib.Core.Bool.{Bool, true, false}
use Prim.Native.Nat.{ℕ, zero, suc}
use native.Mathlib.Omega.{arith}
use lib.IntN.{ℤ}
use lib.Signed.{le_z}
use Rattle.whole.specs.Number.{eq_z, lesser, greater}
use Rattle.whole.proofs.Laws.{lesser-le, le-greater, lesser-one, greater-one}
use Rattle.whole.proofs.Orders.{ordered, eq_z-true, eq_z-false}
use Rattle.shapes.specs.declared.Point.{Point}
use Rattle.shapes.specs.declared.Line.{Line}
use Rattle.shapes.specs.declared.Span.{Span}
use Rattle.shapes.specs.Shape.{delta}
use Rattle.bresenham.specs.Paces.{values_from, point_at}
use Rattle.bresenham.proofs.Laws.{longer}
use Rattle.bresenham.proofs.Lines.{line-points, value_of, level}
use Rattle.scanline.specs.Spans.{extended}
use Rattle.scanline.specs.Meeting.{seen_all, met}
use Rattle.scanline.specs.Rows.{has_row}
use Rattle.scanline.specs.Printed.{in_rows, skip_while_off, take_while_on, extend_all, printed_met}
use Rattle.scanline.proofs.Folds.{extends, seen-on, seen-off, seen_none}
use Rattle.scanline.proofs.Laws.{met-off}

-- ---- the range test is that of the lesser and the greater

rows-by : (l : Line) (y : ℤ) (t : Bool) → le_z l.start.y l.end.y ≡ t → in_rows l y ≡ has_row l y
unfolding in_rows has_row
rows-by l y true e =
    let a = l.start.y in
    let b = l.end.y in
    let low : lesser a b ≡ a = ⊎_elim (λ g. g) (λ g. omega (ordered, lesser-le a b)) (lesser-one a b) in
    let high : greater a b ≡ b = ⊎_elim (λ g. omega (ordered, le-greater a b)) (λ g. g) (greater-one a b) in
    rw (e, low, high)
rows-by l y false e =
    let a = l.start.y in
    let b = l.end.y in
    let low : lesser a b ≡ b = ⊎_elim (λ g. omega (ordered, lesser-le a b)) (λ g. g) (lesser-one a b) in
    let high : greater a b ≡ a = ⊎_elim (λ g. g) (λ g. omega (ordered, le-greater a b)) (greater-one a b) in
    rw (e, low, high)

-- ---- the points on a row follow each other

module _ (l : Line) (y : ℤ) where
  -- after one on the row: to the first that is not, and then there is none
  taken-by : (s : Span) (m k : ℕ) (t : Bool) → eq_z (point_at l (suc m)).y y ≡ t → s.row ≡ y → (point_at l m).y ≡ y → extend_all s (take_while_on y (values_from (point_at l) (suc m) k)) ≡ seen_all s (values_from (point_at l) (suc m) k)
  unfolding take_while_on extend_all seen_all values_from
  taken-by s m zero t e row on = refl
  taken-by s m (suc k) true e row on =
      let p = point_at l (suc m) in
      let here = eq_z-true p.y y e in
      rw e
      (taken-by (extended s p.x) (suc m) k (eq_z (point_at l (suc (suc m))).y y) refl ((extends s p.x).row ∙ row) here
      ∙ sym (ap (λ r. seen_all r (values_from (point_at l) (suc (suc m)) k)) (seen-on s p (here ∙ sym row))))
  taken-by s m (suc k) false e row on =
      rw e
      (sym (seen_none s (values_from (point_at l) (suc m) (suc k)) (λ q i at. let v = value_of (point_at l) (suc m) (suc k) i in eq_z-false (point_at l (suc m)).y y e (level l (omega arith) v.from (on ∙ sym row ∙ sym at ∙ ap (λ (q : Point). q.y) v.is) ∙ on))))

  -- those before the first on the row change nothing
  skipped-by : (s : Span) (m k : ℕ) (t : Bool) → eq_z (point_at l m).y y ≡ t → s.row ≡ y → extend_all s (take_while_on y (skip_while_off y (values_from (point_at l) m k))) ≡ seen_all s (values_from (point_at l) m k)
  unfolding skip_while_off take_while_on extend_all seen_all values_from
  skipped-by s m zero t e row = refl
  skipped-by s m (suc k) true e row =
      let p = point_at l m in
      let here = eq_z-true p.y y e in
      simp e
      (taken-by (extended s p.x) m k (eq_z (point_at l (suc m)).y y) refl ((extends s p.x).row ∙ row) here
      ∙ sym (ap (λ r. seen_all r (values_from (point_at l) (suc m) k)) (seen-on s p (here ∙ sym row))))
  skipped-by s m (suc k) false e row =
      rw e
      (skipped-by s (suc m) k (eq_z (point_at l (suc m)).y y) refl row
      ∙ sym (ap (λ r. seen_all r (values_from (point_at l) (suc m) k)) (seen-off s (point_at l m) (λ at. eq_z-false (point_at l m).y y e (at ∙ row)))))

printed-by : (s : Span) (l : Line) (t : Bool) → has_row l s.row ≡ t → printed_met s l ≡ met s l
unfolding printed_met met
printed-by s l true e =
    rw (rows-by l s.row (le_z l.start.y l.end.y) refl, e, line-points l) (skipped-by l s.row s 0 (suc (longer (delta l))) (eq_z (point_at l 0).y s.row) refl refl)
printed-by s l false e = rw (rows-by l s.row (le_z l.start.y l.end.y) refl, e) (sym (met-off s l e))

-- for every row, inside the line's rows and outside
pub met-printed : (s : Span) (l : Line) → printed_met s l ≡ met s l
met-printed s l = printed-by s l (has_row l s.row) refl
