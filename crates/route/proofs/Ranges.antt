-- The rows of a route: they are in order and within the limit of its corners, and so is every row between them. Assumes nothing.
use mathlib.Core.Path.{◌≡◌, refl}
use mathlib.Core.Bool.{Bool, true, false, cond}
use mathlib.Core.List.{[]}
use Prim.Native.Nat.{ℕ, zero, suc, ◌+◌, ◌*◌, ◌≤◌, ◌<◌}
use native.Mathlib.Nat.{zero-add}
use native.Mathlib.Omega.{arith}
use lib.Dec.{T}
use lib.IntN.{ℤ, pos, nat_abs, ◌+ℤ◌, ◌-ℤ◌}
use lib.Signed.{◌≤ℤ◌, non_neg}
use Rattle.whole.specs.Number.{Within}
use Rattle.whole.specs.Places.{list_from}
use Rattle.whole.proofs.Linear.{linear, le-to, sum, diff, abs-parts, abs-le, not_negative, none_below}
use Rattle.whole.proofs.Spans.{within-lesser, within-greater}
use Rattle.whole.proofs.Laws.{lesser-le, le-greater}
use Rattle.thick_segment.specs.declared.Rows.{Rows}
use Rattle.thick_segment.specs.Rows.{around}
use Rattle.thick_segment.proofs.Lit.{drawn-rows-near, rows-ordered}
use Rattle.coordinates.specs.Points.{point_count, segments_of}
use Rattle.route_joins.specs.Joins.{join_count}
use Rattle.route.specs.declared.Joins.{Joins}
use Rattle.route.specs.Rows.{RowRange}
use Rattle.route.specs.Joined.{joins_of, Kept, segments_in, segment_in}
use Rattle.route.specs.Rows.{range_of, ends, with_rows, with_all, drawn_in, rows_in, RowsNear, row_count, row_at}
use Rattle.route.proofs.Kept.{segment-near}

-- ---- rows widened by those of segments

-- rows that others may be widened by
abbrev Fits : ℕ → Rows → Type 0
Fits k r = RowsNear k (range_of r)

module _ {k : ℕ} where
  with-near : {range : RowRange} {r : Rows} → RowsNear k range → Fits k r → RowsNear k (with_rows range r)
  unfolding with_rows around
  with-near {range} {r} near fits = by range.some
    where
      by : (t : Bool) → RowsNear k (cond t (range_of (around (ends range) r)) (range_of r))
      by true =
          record {
            ordered = omega (linear, (lesser-le range.first r.first).0, (le-greater range.last r.last).0, near.ordered);
            first_near = within-lesser near.first_near fits.first_near;
            last_near = within-greater near.last_near fits.last_near;
          }
      by false = fits

  all_near : (drawn_at : ℕ → Rows) (i left : ℕ) {range : RowRange} → ((d : ℕ) → d < left → Fits k (drawn_at (i + d))) → RowsNear k range → RowsNear k (with_all range (list_from drawn_at i left))
  unfolding with_all list_from
  all_near drawn_at i zero all near = near
  all_near drawn_at i (suc left) all near =
      let here : i + 0 ≡ i = omega arith in
      all_near drawn_at (suc i) left (λ d h. let on : suc i + d ≡ i + suc d = omega arith in rw on (all (suc d) (omega arith))) (with-near near (rw here at (all 0 (omega arith))))

  pub rows-near : {route : Joins} → Kept k route → RowsNear k (rows_in route)
  unfolding rows_in
  rows-near {route} kept =
      all_near (drawn_in route) 0 (segments_in route)
      (λ i h.
      let near = drawn-rows-near (segment_in route i) (segment-near kept h) in
      rw (zero-add i) (record { ordered = rows-ordered (segment_in route i); first_near = near.first_near; last_near = near.last_near }))
      (record { ordered = omega linear; first_near = record { bound = omega arith }; last_near = record { bound = omega arith } })

-- ---- the rows between

module _ {k : ℕ} {rows : RowRange} (near : RowsNear k rows) where
  abbrev height : ℤ
  height = (rows.last -ℤ rows.first) +ℤ pos 1

  -- the first and the last row, and how many there are, in natural numbers
  abbrev bound : ℕ
  bound = 2 * k + 1

  pub height-small : Within height bound
  height-small =
      let a = near.first_near.bound in
      let b = near.last_near.bound in
      let d = diff rows.last rows.first in
      let e = sum (rows.last -ℤ rows.first) (pos 1) in
      record { bound = abs-le height (omega (arith, a, b, d, e, abs-parts rows.first, abs-parts rows.last)) (omega (arith, a, b, d, e, abs-parts rows.first, abs-parts rows.last)) }

  height-above : pos 0 ≤ℤ height
  height-above = omega (linear, diff rows.last rows.first, sum (rows.last -ℤ rows.first) (pos 1), near.ordered)

  pub height-counts : T (non_neg height)
  height-counts = not_negative height-above

  pub count_small : row_count rows ≤ bound
  unfolding row_count
  count_small = by rows.some
    where
      by : (t : Bool) → cond t (nat_abs height) 0 ≤ bound
      by true = height-small.bound
      by false = omega arith

  -- a row at a place lies between the first and the last
  pub row_within : {i : ℕ} → i < row_count rows → Within (row_at rows i) k
  unfolding row_count row_at
  row_within {i} = by rows.some
    where
      by : (t : Bool) → i < cond t (nat_abs height) 0 → Within (rows.first +ℤ pos i) k
      by false h = absurd (omega arith)
      by true h =
          let a = near.first_near.bound in
          let b = near.last_near.bound in
          let d = diff rows.last rows.first in
          let e = sum (rows.last -ℤ rows.first) (pos 1) in
          let f = sum rows.first (pos i) in
          let o = le-to near.ordered in
          let p = abs-parts rows.first in
          let q = abs-parts rows.last in
          let r = abs-parts height in
          let n = none_below height-above in
          record { bound = abs-le (rows.first +ℤ pos i) (omega (arith, a, b, d, e, f, o, p, q, r, n)) (omega (arith, a, b, d, e, f, o, p, q, r, n)) }

  -- it does, and every row between them is at a place
  pub row-between : rows.some ≡ true → {i : ℕ} → i < row_count rows → (rows.first ≤ℤ row_at rows i) × (row_at rows i ≤ℤ rows.last)
  unfolding row_count row_at
  row-between some {i} h =
      let few : i < nat_abs height = rw some at h in
      let d = diff rows.last rows.first in
      let e = sum (rows.last -ℤ rows.first) (pos 1) in
      let f = sum rows.first (pos i) in
      let r = abs-parts height in
      let n = none_below height-above in
      (omega (linear, f), omega (linear, few, d, e, f, r, n))

  pub place_of : rows.some ≡ true → {y : ℤ} → rows.first ≤ℤ y → y ≤ℤ rows.last → (nat_abs (y -ℤ rows.first) < row_count rows) × (row_at rows (nat_abs (y -ℤ rows.first)) ≡ y)
  unfolding row_count row_at
  place_of some {y} low high =
      let i = nat_abs (y -ℤ rows.first) in
      let a = abs-parts (y -ℤ rows.first) in
      let b = diff y rows.first in
      let c = none_below {z = y -ℤ rows.first} (omega (linear, b, low)) in
      let d = diff rows.last rows.first in
      let e = sum (rows.last -ℤ rows.first) (pos 1) in
      let few : i < nat_abs height = omega (linear, a, b, c, d, e, high, abs-parts height, none_below height-above) in
      (rw some few, omega (linear, a, b, c, sum rows.first (pos i)))

-- ---- how many rows there are

pub count-some : (rows : RowRange) → rows.some ≡ true → row_count rows ≡ nat_abs ((rows.last -ℤ rows.first) +ℤ pos 1)
unfolding row_count
count-some rows e = rw e

pub count_none : (rows : RowRange) → rows.some ≡ false → row_count rows ≡ 0
unfolding row_count
count_none rows e = rw e

-- the route of no points has none
pub none-of-none : (k : ℕ) → row_count (rows_in (joins_of k false [] (pos 0))) ≡ 0
unfolding row_count rows_in with_all list_from segments_of joins_of join_count point_count
none-of-none k = refl
