-- Which columns a line has on a row: those from the first quotient to the last. Assumes nothing.
use mathlib.Core.Path.{◌≡◌, refl, sym, ap, ◌∙◌}
use mathlib.Core.Logic.{◌↔◌, ⊎_elim}
use mathlib.Core.Bool.{Bool, true, false, cond}
use mathlib.Core.List.Memᴰ
use mathlib.Core.List.{[], ◌∷◌, Memᴰ}
use Prim.Native.Nat.{ℕ, ◌+◌, ◌*◌, ◌-◌, ◌^◌, ◌≤◌, ◌<◌}
use native.Mathlib.Nat.{le_refl, mul-le-mul, mul-le-mul_right, le-div_iff_mul-le, div-le_of_le-mul}
use native.Mathlib.Omega.{arith}
use borrow.Author.Tests.{eqb-true, eqb-false, ltb-true, ltb-false}
use lib.Dec.{eqb, ltb}
use lib.IntN.{ℤ, pos, nat_abs, ◌-ℤ◌}
use lib.Signed.{lt_z, le_z, ◌≤ℤ◌}
use Rattle.whole.specs.Number.{Within, lesser, greater}
use Rattle.whole.proofs.Spans.{within_low, within-high, within_of, within-lesser, within-greater}
use Rattle.whole.proofs.Linear.{linear, sum, diff, le-or-lt}
use Rattle.whole.proofs.Orders.{ordered}
use Rattle.whole.proofs.Steps.{parts}
use Rattle.whole.proofs.Tests.{and-iff, le_iff}
use Rattle.shapes.specs.declared.Point.{Point}
use Rattle.shapes.specs.declared.Line.{Line}
use Rattle.shapes.specs.declared.Span.{Span}
use Rattle.shapes.specs.Limits.{line_limit}
use Rattle.shapes.specs.Shape.{point_of, LineNear, minus, delta}
use Rattle.shapes.specs.Spans.{Covers}
use Rattle.shapes.proofs.Laws.{near-delta}
use Rattle.bresenham.specs.Points.{line_points}
use Rattle.bresenham.specs.Paces.{turns_at, wide, tall, steep, steps_from, Passes, Between}
use Rattle.bresenham.proofs.Paces.{turns-most, turns-within, within-turns}
use Rattle.bresenham.proofs.Lines.{steps_back, steps_on, same-steps, between-steps, pixel-of, pixel-on, line-columns, line-rows}
use Rattle.scanline.specs.Spans.{extended}
use Rattle.scanline.specs.Meeting.{seen_all, met}
use Rattle.scanline.specs.declared.quotients.Ends.{Ends}
use Rattle.scanline.specs.Rows.{has_row, Sizes, ends_of, last_at, first_at, ends_at, rows_to, ends_on, column_at, first_on, last_on}
use Rattle.scanline.proofs.Folds.{extends, seen-on, seen_same}

-- nothing wraps
pub product_small : {m n : ℕ} → m ≤ 2 ^ 17 → n ≤ 2 ^ 17 → m * n ≤ 2 ^ 34
product_small {m} {n} p q = omega (arith, mul-le-mul {n₁ = m} {m₁ = n} {n₂ = 2 ^ 17} {m₂ = 2 ^ 17} p q)

-- ---- a line of at least as many columns as rows

module _ (w h r : ℕ) (flat : h ≤ w) (row : r ≤ h) where
  last-by : (k : ℕ) (t : Bool) → eqb r h ≡ t → k ≤ w → (k ≤ last_at w h r) ↔ (k * (2 * h) ≤ r * (2 * w) + w)
  unfolding last_at
  last-by k true e less = let z = eqb-true r h e in rw e (λ _. rw z (omega (arith, mul-le-mul_right (2 * h) less)), λ _. less)
  last-by k false e less =
      let some : 0 < 2 * h = omega (arith, eqb-false r h e) in
      let q = le-div_iff_mul-le {x = k} {y = (2 * r + 1) * w} some in
      rw e (λ le. omega (arith, q.0 le), λ le. q.1 (omega arith))

  most-by : (t : Bool) → eqb r h ≡ t → last_at w h r ≤ w
  unfolding last_at
  most-by true e = rw e (le_refl w)
  most-by false e = rw e (div-le_of_le-mul (2 * h) (omega (arith, mul-le-mul_right w (let lt : 2 * r + 1 ≤ 2 * h = omega (arith, eqb-false r h e) in lt))))

  pub last-exactly : (k : ℕ) → k ≤ w → (k ≤ last_at w h r) ↔ (k * (2 * h) ≤ r * (2 * w) + w)
  last-exactly k less = last-by k (eqb r h) refl less

  pub last-most : last_at w h r ≤ w
  last-most = most-by (eqb r h) refl

module _ (w h r : ℕ) (flat : h ≤ w) (row : r ≤ h) where
  -- beyond the last column of the row before
  first_by : (k : ℕ) (t : Bool) → eqb r 0 ≡ t → k ≤ w → (first_at w h r ≤ k) ↔ (r * (2 * w) ≤ k * (2 * h) + (w - 1))
  unfolding first_at
  first_by k true e less = let z = eqb-true r 0 e in rw e (λ _. rw z (omega arith), λ _. omega arith)
  first_by k false e less =
      let some = eqb-false r 0 e in
      let q = last-exactly w h (r - 1) flat (omega arith) k less in
      let one : r * (2 * w) ≡ (r - 1) * (2 * w) + 2 * w = ap (λ n. n * (2 * w)) (let g : r ≡ r - 1 + 1 = omega arith in g) ∙ omega arith in
      rw e (
        λ beyond. ⊎_elim (λ le. absurd (omega (arith, q.1 le))) (λ lt. omega arith) (le-or-lt (k * (2 * h)) ((r - 1) * (2 * w) + w)),
        λ below. ⊎_elim (λ le. absurd (omega (arith, q.0 le))) (λ lt. omega arith) (le-or-lt k (last_at w h (r - 1))),
      )

  pub first-exactly : (k : ℕ) → k ≤ w → (first_at w h r ≤ k) ↔ (r * (2 * w) ≤ k * (2 * h) + (w - 1))
  first-exactly k less = first_by k (eqb r 0) refl less

  first-last : first_at w h r ≤ last_at w h r
  first-last =
      let k = last_at w h r in
      (first-exactly k (last-most w h r flat row)).1
      (⊎_elim
      (λ (end : w ≤ k). let is : k ≡ w = omega (arith, last-most w h r flat row) in rw is (omega (arith, mul-le-mul_right (2 * w) row)))
      (λ lt. ⊎_elim (λ le. absurd (omega (arith, (last-exactly w h r flat row (k + 1) (omega arith)).1 le))) (λ gt. omega arith) (le-or-lt ((k + 1) * (2 * h)) (r * (2 * w) + w)))
      (le-or-lt w k))

-- ---- any line: its points on a row are in the columns from the first to the last

pub record Row (s : Bool) (w h r : ℕ) (e : Ends) : Type 0 where
  pub order : e.first ≤ e.last
  pub most : e.last ≤ w
  pub exactly : (k : ℕ) → k ≤ w → Passes s w h k r ↔ ((e.first ≤ k) × (k ≤ e.last))

ends_by : (w h r : ℕ) (s : Bool) → ltb w h ≡ s → r ≤ h → Row s w h r (cond s (ends_of (turns_at h w r) (turns_at h w r)) (ends_of (first_at w h r) (last_at w h r)))
ends_by w h r true e row =
    let lt = ltb-true w h e in
    let most = turns-most h w row in
    record {
      order = le_refl (turns_at h w r);
      most = most;
      exactly = λ k less. (λ p. let is = within-turns (omega arith) row less p in (omega arith, omega arith), λ q. let is : turns_at h w r ≡ k = omega arith in rw (← is) (turns-within (omega arith) row));
    }
ends_by w h r false e row =
    let flat = ltb-false w h e in
    let most = last-most w h r flat row in
    let last = last-exactly w h r flat row in
    let first = first-exactly w h r flat row in
    record {
      order = first-last w h r flat row;
      most = most;
      exactly = λ k less. (λ p. ((first k less).1 p.below, (last k less).1 p.above), λ q. record { below = (first k less).0 q.0; above = (last k less).0 q.1 });
    }

pub row_ends : (w h r : ℕ) → r ≤ h → Row (ltb w h) w h r (ends_at w h r)
unfolding ends_at
row_ends w h r row = ends_by w h r (ltb w h) refl row

-- ---- a row of a line

-- columns in between
covers-by : (t : Span) (x d : ℤ) {i k j : ℕ} (s : Bool) → lt_z d (pos 0) ≡ s → i ≤ k → k ≤ j → Covers t (steps_from x d i) → Covers t (steps_from x d j) → Covers t (steps_from x d k)
covers-by t x d {i} {k} {j} true e low high p q =
    let v = rw (steps_back x d i e) at p in
    let w = rw (steps_back x d j e) at q in
    rw (steps_back x d k e) (omega (ordered, diff x (pos i), diff x (pos k), diff x (pos j)))
covers-by t x d {i} {k} {j} false e low high p q =
    let v = rw (steps_on x d i e) at p in
    let w = rw (steps_on x d j e) at q in
    rw (steps_on x d k e) (omega (ordered, sum x (pos i), sum x (pos k), sum x (pos j)))

-- the test of a row
pub row-exactly : (l : Line) (row : ℤ) → (has_row l row ≡ true) ↔ Between l.start.y l.end.y row
unfolding has_row
row-exactly l row =
    let low = lesser l.start.y l.end.y in
    let high = greater l.start.y l.end.y in
    let both = and-iff (le_z low row) (le_z row high) (le_iff low row) (le_iff row high) in
    (λ e. let w = both.0 e in record { low = w.0; high = w.1 }, λ b. both.1 (b.low, b.high))

-- what lies between two small numbers is small
pub ends-within : {k : ℕ} {a b z : ℤ} → Within a k → Within b k → Between a b z → Within z k
ends-within v w h =
    within_of (omega (linear, within_low (within-lesser v w), h.low)) (omega (linear, within-high (within-greater v w), h.high))

-- a column of the line's points on a row, counted from its start
pub record At (l : Line) (row c : ℤ) : Type 0 where
  pub count : ℕ
  pub is : c ≡ column_at l count
  pub from : (ends_on l row).first ≤ count
  pub to : count ≤ (ends_on l row).last

module _ (l : Line) (row : ℤ) (on : Between l.start.y l.end.y row) where
  way : (row ≡ steps_from l.start.y (delta l).y (rows_to l row)) × (rows_to l row ≤ tall l)
  unfolding delta minus
  way = let w = between-steps l.start.y l.end.y row on in (w.is, w.most)

  pub row_of : Row (steep l) (wide l) (tall l) (rows_to l row) (ends_on l row)
  unfolding ends_on
  row_of = row_ends (wide l) (tall l) (rows_to l row) way.1

  -- the points on the row are in the columns from the first to the last
  pub column-of : {q : Point} → Memᴰ q (line_points l) → q.y ≡ row → At l row q.x
  column-of {q} m y =
      let p = pixel-of l m in
      let same = same-steps l.start.y (delta l).y (sym (ap (λ (q : Point). q.y) p.is) ∙ y ∙ way.0) in
      let w = (row_of.exactly p.columns p.wide-most).0 (rw same at p.passes) in
      record { count = p.columns; is = ap (λ (q : Point). q.x) p.is; from = w.0; to = w.1 }

  -- and there is one in each of these
  pub on-column : {c : ℤ} → At l row c → Memᴰ (point_of c row) (line_points l)
  on-column {c} a =
      let less : a.count ≤ wide l = omega (arith, row_of.most, a.to) in
      Memᴰ.cast (cc (a.is, way.0)) (pixel-on l less way.1 ((row_of.exactly a.count less).1 (a.from, a.to)))

  pub first-at : At l row (first_on l row)
  first-at = record { count = (ends_on l row).first; is = refl; from = le_refl (ends_on l row).first; to = row_of.order }

  pub last-at : At l row (last_on l row)
  last-at = record { count = (ends_on l row).last; is = refl; from = row_of.order; to = le_refl (ends_on l row).last }

  -- what the code asks
  pub sizes : {w h r : ℕ} → LineNear line_limit l → w ≡ wide l → h ≡ tall l → r ≡ rows_to l row → Sizes w h r
  sizes near e f g =
      let d = near-delta near in
      rw (e, f, g) (record { wide_small = d.x_near.bound; tall_small = d.y_near.bound; row_most = way.1 })

  pub counts-small : LineNear line_limit l → ((ends_on l row).first ≤ 2 ^ 15) × ((ends_on l row).last ≤ 2 ^ 15)
  counts-small near = omega (arith, (near-delta near).x_near.bound, row_of.order, row_of.most)

  pub at-near : {k : ℕ} {c : ℤ} → LineNear k l → At l row c → Within c k
  at-near near a = ends-within near.start_near.x_near near.end_near.x_near (line-columns l (on-column a))

-- so a span that meets the line there takes in the first column and the last
pub met-row : (s : Span) (l : Line) → Between l.start.y l.end.y s.row → met s l ≡ extended (extended s (first_on l s.row)) (last_on l s.row)
unfolding met seen_all
met-row s l on =
    let row = s.row in
    let a = first_on l row in
    let b = last_on l row in
    let one = extends s a in
    let two = extends (extended s a) b in
    let both : seen_all s (point_of a row ∷ point_of b row ∷ []) ≡ extended (extended s a) b = rw (seen-on s (point_of a row) refl) (seen-on (extended s a) (point_of b row) (sym one.row)) in
    seen_same s (line_points l) (point_of a row ∷ point_of b row ∷ []) b (rw both two.at) among
    (λ q m y. let c = column-of l row on m y in rw (both, c.is) (covers-by (extended (extended s a) b) l.start.x (delta l).x (lt_z (delta l).x (pos 0)) refl c.from c.to (two.on a one.at) two.at))
    ∙ both
  where
    among : (q : Point) → Memᴰ q (point_of (first_on l s.row) s.row ∷ point_of (last_on l s.row) s.row ∷ []) → Memᴰ q (line_points l)
    among q m =
        ⊎_elim
        (λ (e : q ≡ point_of (first_on l s.row) s.row). Memᴰ.cast e (on-column l s.row on (first-at l s.row on)))
        (λ n. Memᴰ.cast (Memᴰ.eq_of_singleton n) (on-column l s.row on (last-at l s.row on)))
        (Memᴰ.cases_cons m)

-- ---- these columns stand without gap

amid-by : (l : Line) (row c : ℤ) {a b : ℤ} (s : Bool) → lt_z (delta l).x (pos 0) ≡ s → At l row a → At l row b → a ≤ℤ c → c ≤ℤ b → At l row c
amid-by l row c true e a b low high =
    let x = l.start.x in
    let d = (delta l).x in
    let first = a.is ∙ steps_back x d a.count e in
    let last = b.is ∙ steps_back x d b.count e in
    let gap = diff x c in
    let i = diff x (pos a.count) in
    let j = diff x (pos b.count) in
    let size = parts {z = x -ℤ c} (omega linear) in
    let m = nat_abs (x -ℤ c) in
    record { count = m; is = omega (linear, diff x (pos m)) ∙ sym (steps_back x d m e); from = omega (linear, b.from); to = omega (linear, a.to) }
amid-by l row c false e a b low high =
    let x = l.start.x in
    let d = (delta l).x in
    let first = a.is ∙ steps_on x d a.count e in
    let last = b.is ∙ steps_on x d b.count e in
    let gap = diff c x in
    let i = sum x (pos a.count) in
    let j = sum x (pos b.count) in
    let size = parts {z = c -ℤ x} (omega linear) in
    let m = nat_abs (c -ℤ x) in
    record { count = m; is = omega (linear, sum x (pos m)) ∙ sym (steps_on x d m e); from = omega (linear, a.from); to = omega (linear, b.to) }

-- a line's points on one row are contiguous
pub met-contiguous : (l : Line) (q r : Point) (c : ℤ) → Memᴰ q (line_points l) → Memᴰ r (line_points l) → q.y ≡ r.y → q.x ≤ℤ c → c ≤ℤ r.x → Memᴰ (point_of c q.y) (line_points l)
met-contiguous l q r c mq mr e low high =
    let on = line-rows l mq in
    on-column l q.y on (amid-by l q.y c (lt_z (delta l).x (pos 0)) refl (column-of l q.y on mq refl) (column-of l q.y on mr (sym e)) low high)
