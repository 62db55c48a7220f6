-- The joins of an open route by the points around them, and its segments without positions. Assumes nothing.
use mathlib.Core.Path.{◌≡◌, refl}
use mathlib.Core.List.{List}
use Prim.Native.Nat.{ℕ, suc, ◌+◌, ◌-◌, ◌<◌}
use native.Mathlib.Numerals.{add-one}
use native.Mathlib.Omega.{arith}
use borrow.Author.Tests.{eq-eqb, ne_eqb}
use lib.IntN.{ℤ}
use Rattle.shapes.specs.declared.Point.{Point}
use Rattle.shapes.specs.declared.Offset.TheVariants.{None}
use Rattle.line_join.specs.declared.Join.{Join}
use Rattle.line_join.specs.Join.{start_of, end_of, join_of}
use Rattle.coordinates.specs.Points.{point_at, point_count}
use Rattle.route_joins.specs.Joins.{bend_at, open_join, join_on, end_place, segment_of, standing, bare, open_segment}
use Rattle.route_joins.proofs.Bends.{open-unplaced, bare_of}

module _ (cs : List ℤ) (w : ℤ) where
  abbrev n : ℕ
  n = point_count cs

  abbrev at : ℕ → Join
  at k = open_join cs w k

  abbrev point : ℕ → Point
  point k = point_at cs k

  pub first-join : at 0 ≡ start_of (point 0) (point 1) w None
  unfolding open_join
  first-join = refl

  pub last-join : (k : ℕ) → suc (suc k) ≡ n → at (suc k) ≡ end_of (point k) (point (suc k)) w None
  unfolding open_join
  last-join k e =
      let on : suc k + 1 ≡ n = omega (arith, e) in
      let back : suc k - 1 ≡ k = omega arith in
      rw (ne_eqb (suc k) 0 (λ z. omega arith), eq-eqb (suc k + 1) n on, back)

  pub inner-join : (k : ℕ) → suc (suc k) < n → at (suc k) ≡ join_of (point k) (point (suc k)) (point (suc (suc k))) w None
  unfolding open_join bend_at
  inner-join k h =
      let back : suc k - 1 ≡ k = omega arith in
      rw (ne_eqb (suc k) 0 (λ z. omega arith), ne_eqb (suc k + 1) n (λ z. omega (arith, z, h)), back, add-one (suc k))

  pub segment-is : (k : ℕ) → bare (open_segment cs w k) ≡ record { start = at k; end = at (suc k) }
  unfolding segment_of join_on end_place
  segment-is k = rw (add-one k) (bare_of (at k) (at (suc k)) k (suc k) (open-unplaced cs w k) (open-unplaced cs w (suc k)))

  -- the positions that were taken off, set again
  pub segment-stands : (k : ℕ) → standing k (k + 1) (bare (open_segment cs w k)) ≡ open_segment cs w k
  unfolding standing segment_of join_on end_place
  segment-stands k = refl
