-- The rows of every route that is accepted are those of 01's boxes: at widths 0 and 1 both edges of a segment lie on one line, and from width 2 on no segment is a skeleton. Assumes nothing.
use mathlib.Core.Path.{◌≡◌, refl, sym, ◌∙◌}
use mathlib.Core.Logic.{inl, inr}
use mathlib.Core.Bool.{Bool, true, false}
use mathlib.Core.List.{List}
use Prim.Native.Nat.{ℕ, zero, suc, ◌+◌, ◌-◌, ◌≤◌}
use native.Mathlib.Omega.{arith}
use lib.Dec.{eqb}
use lib.IntN.{ℤ, pos, negsuc}
use Rattle.whole.proofs.Linear.{linear}
use Rattle.whole.proofs.Tests.{either}
use Rattle.shapes.specs.declared.Point.{Point}
use Rattle.shapes.specs.declared.Offset.TheVariants.{None}
use Rattle.shapes.specs.declared.limits.Limits.{Limits}
use Rattle.shapes.specs.Limits.{line_limit, width_limit, panel}
use Rattle.shapes.specs.Shape.{Near}
use Rattle.shapes.specs.Strokes.{Thin}
use Rattle.shapes.proofs.Laws.{near-more, line-of-near, same-exactly}
use Rattle.line_join.specs.declared.Join.{Join}
use Rattle.line_join.specs.Join.{start_of, end_of, join_of}
use Rattle.line_join.specs.Standing.{standing_at}
use Rattle.skeletons.proofs.Corners.{Apart}
use Rattle.skeletons.proofs.Skeletons.{start-apart, end-apart, bend-apart}
use Rattle.thick_segment.specs.Segments.{is_skeleton}
use Rattle.coordinates.specs.Points.{point_at, point_count, place_before, place_after}
use Rattle.coordinates.specs.Refusal.{AllWithin}
use Rattle.coordinates.proofs.Lists.{point_near}
use Rattle.route_joins.specs.Joins.{bend_at, open_join, closed_join, join_on, end_place, segment_at, segment_of}
use Rattle.route.specs.Answers.{draw_refusal, rows_answer}
use Rattle.route.proofs.AllRows.{rows-refusal}
use Rattle.route.proofs.Refused.{draw-none}
use Rattle.box_rows.specs.Words.{box_range, OneLine}
use Rattle.box_rows.proofs.Boxes.{rows-boxes}
use Rattle.box_rows.proofs.Thinnest.{Thinnest, Merged, start-merged, end-merged, bend-merged}

-- what holds of the joins of points within the limit, wherever they stand
record OfJoins (w : ℤ) (P : Join → Type 0) : Type 0 where
  at-start : {a b : Point} → Near line_limit a → Near line_limit b → P (start_of a b w None)
  at_end : {a b : Point} → Near line_limit a → Near line_limit b → P (end_of a b w None)
  at-bend : {a b c : Point} → Near line_limit a → Near line_limit b → Near line_limit c → P (join_of a b c w None)
  anywhere : (i : ℕ) (j : Join) → P j → P (standing_at i j)

-- holds of all joins of a route
module _ {k : ℕ} {cs : List ℤ} {w : ℤ} (near : AllWithin k cs) (fits : k ≤ line_limit) {P : Join → Type 0} (of : OfJoins w P) where
  near-at : (i : ℕ) → Near line_limit (point_at cs i)
  near-at i = near-more (point_near near i) fits

  bend-by : (h i j : ℕ) → P (bend_at cs w None h i j)
  unfolding bend_at
  bend-by h i j = of.at-bend (near-at h) (near-at i) (near-at j)

  join_by : (closed : Bool) (i : ℕ) → P (join_on closed cs w None i)
  unfolding join_on open_join closed_join
  join_by true i = of.anywhere i (closed_join cs w None i) (either P (eqb (point_count cs + i) 2) (λ _. of.at-start (near-at 0) (near-at 1)) (λ _. bend-by (place_before (point_count cs) i) i (place_after (point_count cs) i)))
  join_by false i =
      of.anywhere i (open_join cs w i)
      (either P (eqb i 0) (λ _. of.at-start (near-at 0) (near-at 1))
      (λ _. either P (eqb (i + 1) (point_count cs)) (λ _. of.at_end (near-at (i - 1)) (near-at i)) (λ _. bend-by (i - 1) i (i + 1))))

merged-of : {w : ℤ} → Thinnest w → OfJoins w Merged
merged-of thin =
    record {
      at-start = start-merged thin;
      at_end = end-merged thin;
      at-bend = bend-merged thin;
      anywhere = λ i j m. record { ending-one = m.ending-one; starting-one = m.starting-one };
    }

apart_of : {w : ℕ} → 2 ≤ w → w ≤ width_limit → OfJoins (pos w) Apart
apart_of two most =
    record {
      at-start = λ a b. start-apart two most (line-of-near a b);
      at_end = λ a b. end-apart two most (line-of-near a b);
      at-bend = λ a b c. bend-apart two most (line-of-near a b) (line-of-near b c);
      anywhere = λ i j apart. apart;
    }

module _ (closed : Bool) {k : ℕ} {cs : List ℤ} (near : AllWithin k cs) (fits : k ≤ line_limit) where
  thin-line : {w : ℤ} → Thinnest w → (i : ℕ) → OneLine (segment_at closed cs w i)
  unfolding segment_of
  thin-line thin i = let one = join_by near fits (merged-of thin) closed in record { starts = (one i).starting-one; ends = (one (end_place closed (point_count cs) i)).ending-one }

  never-thick : {w : ℕ} → 2 ≤ w → w ≤ width_limit → (i : ℕ) → is_skeleton (segment_at closed cs (pos w) i) ≡ true → ⊥
  unfolding segment_of is_skeleton
  never-thick {w} two most i e = let j = join_on closed cs (pos w) None i in join_by near fits (apart_of two most) closed i ((same-exactly j.ending.left j.ending.right).0 e)

  skeleton-thin : (w : ℤ) → Thin w → (i : ℕ) → is_skeleton (segment_at closed cs w i) ≡ true → Thinnest w
  skeleton-thin (pos zero) thin i e = inl refl
  skeleton-thin (pos (suc zero)) thin i e = inr refl
  skeleton-thin (pos (suc (suc n))) thin i e = absurd (never-thick (omega arith) (omega (linear, thin.high)) i e)
  skeleton-thin (negsuc n) thin i e = absurd (omega (linear, thin.low))

-- ---- every route that is accepted

module _ (limits : Limits) (closed : Bool) (cs : List ℤ) (w : ℤ) (fits : limits.point ≤ line_limit) (free : draw_refusal limits closed cs w ≡ 0) where
  -- has skeletons at widths 0 and 1 only
  pub skeletons-thin : (i : ℕ) → is_skeleton (segment_at closed cs w i) ≡ true → Thinnest w
  skeletons-thin = let a = ((draw-none limits closed cs w).0 free).0 in skeleton-thin closed a.near fits w a.thin

  -- and the rows that 01 had before
  pub rows-unchanged : rows_answer limits closed cs w ≡ box_range closed cs w
  rows-unchanged = let a = ((draw-none limits closed cs w).0 free).0 in rows-boxes limits closed cs w free (record { each = λ i h e. thin-line closed a.near fits (skeletons-thin i e) i })

-- so what the entry `rows` answers is what it answered, unless it refuses
pub answer-unchanged : (closed : Bool) (cs : List ℤ) (w : ℤ) → (rows_answer panel closed cs w).refusal ≡ 0 → rows_answer panel closed cs w ≡ box_range closed cs w
answer-unchanged closed cs w free = rows-unchanged panel closed cs w (omega arith) (sym (rows-refusal panel closed cs w) ∙ free)
