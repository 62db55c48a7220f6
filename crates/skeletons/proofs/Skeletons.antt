-- From width 2 to 64, with strokes on both sides of the line, no skeleton begins at a join. Assumes nothing.
use mathlib.Core.Path.{◌≡◌, refl, sym, ap, subst, ◌∙◌}
use mathlib.Core.Logic.{⊎_elim}
use mathlib.Core.Bool.{true}
use Prim.Native.Nat.{ℕ, ◌+◌, ◌≤◌}
use native.Mathlib.Omega.{arith}
use lib.IntN.{pos, ◌+ℤ◌, ◌-ℤ◌}
use Rattle.whole.proofs.Linear.{linear, sum, diff, opp, le-or-lt}
use Rattle.whole.proofs.Steps.{square-is}
use Rattle.shapes.specs.declared.Point.{Point}
use Rattle.shapes.specs.declared.Line.{Line}
use Rattle.shapes.specs.declared.Side.{Side}
use Rattle.shapes.specs.declared.Side.TheVariants.{Left, Right}
use Rattle.shapes.specs.declared.Offset.TheVariants.{None}
use Rattle.shapes.specs.Limits.{line_limit, width_limit}
use Rattle.shapes.specs.Shape.{line_of, LineNear, minus, dot_product, squared_length}
use Rattle.parallels.specs.Parallels.{aimed}
use Rattle.line_join.specs.Miter.{miter_limit, reaches}
use Rattle.line_join.specs.Join.{corners_of, outer, start_of, end_of, join_of}
use Rattle.line_join.proofs.Laws.{reaches-exactly}
use Rattle.skeletons.proofs.Bends.{two-apart, ends-differ, one_end, four-apart}
use Rattle.skeletons.proofs.Cells.{Touches, drawn-end}
use Rattle.skeletons.proofs.Corners.{Apart, Corner, ended, drawn, before, after, join_apart}
use Rattle.skeletons.proofs.Frames.{major, minor}
use Rattle.skeletons.proofs.Marches.{still}
use Rattle.skeletons.proofs.Sights.{Reached}
use Rattle.skeletons.proofs.Strokes.{Fits, counts, mark_at, edge, step, off, along, aside, Solid, starts-at, ends_at, bare-edge}
use Rattle.skeletons.proofs.Two.{two-beside, two-never}

-- ---- from width 3 on

module _ {p q r : Point} {w : ℕ} (first : Fits (line_of p q) w) (second : Fits (line_of q r) w) (three : 3 ≤ w) (most : w ≤ 64) where
  abbrev On : Side → Point → Type 0
  On side z = Corner p q r w side z

  wide : 1 ≤ w
  wide = omega arith

  abbrev Near : Point → Type 0
  Near z = Reached w (minus z q).x (minus z q).y

  reached : (z : Point) → reaches q z (pos w) ≡ true → Near z
  unfolding squared_length dot_product miter_limit
  reached z t = let h = rw (square-is (minus z q).x, square-is (minus z q).y) at ((reaches-exactly q z (pos w)).0 t) in omega (linear, h)

  -- a corner on each side: they are not one
  left_ended : {z : Point} → z ≡ (edge (line_of p q) w Left).end → On Right z → ⊥
  left_ended e (ended f) = ends-differ first three (sym e ∙ f)
  left_ended e (drawn d) = let b = before first second wide Right d in one_end first three Left (rw e at b.0) b.1

  right-ended : {z : Point} → On Left z → z ≡ (edge (line_of p q) w Right).end → ⊥
  right-ended (ended e) f = ends-differ first three (sym e ∙ f)
  right-ended (drawn d) f = let b = before first second wide Left d in one_end first three Right (rw f at b.0) b.1

  both-corners : {z : Point} → Near z → On Left z → On Right z → ⊥
  both-corners near (ended e) k = left_ended e k
  both-corners near (drawn d) (ended f) = right-ended (drawn d) f
  both-corners {z} near (drawn d) (drawn e) = four-apart first second three most near by on
    where
      by : (side : Side) → Touches (edge (line_of p q) w side) z × Solid (line_of p q) w side
      by Left = before first second wide Left d
      by Right = before first second wide Right e

      on : (side : Side) → Touches (edge (line_of q r) w side) z × Solid (line_of q r) w side
      on Left = after first second wide Left d
      on Right = after first second wide Right e

  outer-is : (s : Side) {l t : Point} → l ≡ t → outer s (corners_of l t) ≡ l
  outer-is Left e = refl
  outer-is Right e = sym e

  apart-when-wide : Apart (join_of p q r (pos w) None)
  apart-when-wide =
      join_apart p q r w
      (record {
        ends = ends-differ first three;
        kept = λ s {l} {t} near h k same. both-corners (reached l (rw (outer-is s same) at near)) h (rw (sym same) at k);
        left_cut = λ k same. left_ended (sym same) k;
        right-cut = λ h same. right-ended h same;
      })

-- ---- at width 2 the right edges are the legs, so that the right corner is the bend

module _ {l : Line} (fits : Fits l 2) where
  right-is-leg : edge l 2 Right ≡ l
  right-is-leg = bare-edge fits Right (two-beside fits).right_is

  right_end : (edge l 2 Right).end ≡ l.end
  right_end = ap (λ k. k.end) right-is-leg

  -- the left edge does not end there
  left_end : (edge l 2 Left).end ≡ l.end → ⊥
  left_end e =
      let at = ends_at fits (omega arith) Left in
      let t = off (mark_at l 2 Left).extra (step l Left) in
      let x : pos 0 ≡ pos 1 -ℤ t = sym (still (major (aimed l)) l.end) ∙ ap (λ z. along l Left z l.end) (sym e) ∙ at.major-at ∙ ap (λ n. pos n -ℤ t) (two-beside fits).one in
      let y : pos 0 ≡ pos 0 +ℤ t = sym (still (minor (aimed l)) l.end) ∙ ap (λ z. aside l Left z l.end) (sym e) ∙ at.minor-at ∙ ap (λ n. pos n +ℤ t) (two-beside fits).none in
      omega (linear, x, y, diff (pos 1) t, sum (pos 0) t)

  two_ends : (edge l 2 Left).end ≡ (edge l 2 Right).end → ⊥
  two_ends same = left_end (same ∙ right_end)

module _ {p q r : Point} (first : Fits (line_of p q) 2) (second : Fits (line_of q r) 2) where
  abbrev Here : Side → Point → Type 0
  Here side z = Corner p q r 2 side z

  left-corner : Here Left q → ⊥
  left-corner (ended e) = left_end first (sym e)
  left-corner (drawn d) = two-never first second d (before first second (omega arith) Left d).1 (after first second (omega arith) Left d).1

  right-corner : {t : Point} → Here Right t → t ≡ q
  right-corner (ended e) = e ∙ right_end first
  right-corner (drawn d) = drawn-end p q r (rw (right-is-leg first, right-is-leg second) at d)

  apart-at-two : Apart (join_of p q r (pos 2) None)
  apart-at-two =
      join_apart p q r 2
      (record {
        ends = two_ends first;
        kept = λ s near h k same. left-corner (rw (same ∙ right-corner k) at h);
        left_cut = λ k same. left_end first (same ∙ right-corner k);
        right-cut = λ h same. left-corner (rw (same ∙ right_end first) at h);
      })

-- ---- every width from 2 to 64

-- the edges of a leg are steps apart along the major axis, so they start in two points
abbrev Steps : Line → ℕ → Type 0
Steps l w = Fits l w → 1 ≤ (counts l w).left.n + (counts l w).right.n

module _ {w : ℕ} (two : 2 ≤ w) (most : w ≤ width_limit) where
  fit : {l : Line} → LineNear line_limit l → Fits l w
  fit near = record { near = near; small = omega (arith, most) }

  fit-two : {l : Line} → LineNear line_limit l → Fits l 2
  fit-two near = record { near = near; small = omega arith }

  from-two : (P : ℕ → Type 0) → P 2 → (3 ≤ w → P w) → P w
  from-two P at-two at_more = ⊎_elim at_more (λ fewer. subst P (omega arith) at-two) (le-or-lt 3 w)

  some-steps : (l : Line) → Steps l w
  some-steps l = from-two (Steps l) at-two (λ three fits. omega (arith, two-apart fits three))
    where
      at-two : Steps l 2
      at-two fits = omega (arith, (two-beside fits).one)

  module _ {p q : Point} (near : LineNear line_limit (line_of p q)) where
    pub start-apart : Apart (start_of p q (pos w) None)
    unfolding start_of
    start-apart same =
        let l = line_of p q in
        let x = along l Left (edge l w Left).start p in
        let left = (starts-at (fit near) Left).major-at in
        let right = ap (λ z. along l Right z p) same ∙ (starts-at (fit near) Right).major-at in
        omega (linear, some-steps l (fit near), left, right, opp x)

    pub end-apart : Apart (end_of p q (pos w) None)
    unfolding end_of
    end-apart = from-two (λ n. Apart (end_of p q (pos n) None)) (two_ends (fit-two near)) (λ three. ends-differ (fit near) three)

    pub bend-apart : {r : Point} → LineNear line_limit (line_of q r) → Apart (join_of p q r (pos w) None)
    bend-apart {r} next = from-two (λ n. Apart (join_of p q r (pos n) None)) (apart-at-two (fit-two near) (fit-two next)) (λ three. apart-when-wide (fit near) (fit next) three most)
