-- What two edges meet at, and when lines overlap, in words: a join's corners are drawn crossings of its edges, or ends of edges. Assumes nothing.
use mathlib.Core.Path.{◌≡◌, refl, sym}
use mathlib.Core.Logic.{◌↔◌}
use mathlib.Core.Bool.{true, false}
use Prim.Native.Nat.{ℕ}
use native.Mathlib.Omega.{arith}
use Rattle.shapes.specs.declared.Point.{Point}
use Rattle.shapes.specs.declared.Line.{Line}
use Rattle.shapes.specs.declared.Side.{Side}
use Rattle.shapes.specs.declared.Side.TheVariants.{Left, Right}
use Rattle.shapes.specs.Shape.{minus, determinant, delta}
use Rattle.linear_equation.specs.Equation.{equation_of}
use Rattle.linear_equation.proofs.Laws.{distance-determinant, left-exactly, right-exactly}
use Rattle.intersection_params.specs.declared.Intersection.{Intersection}
use Rattle.intersection_params.specs.declared.Intersection.TheVariants.{At, Colinear}
use Rattle.intersection_params.specs.Crossing.{crossing_of, nearly_colinear}
use Rattle.intersection_params.specs.Words.{IsDrawn}
use Rattle.intersection_params.proofs.Laws.{one_side, colinear-exactly, drawn-exactly}
use Rattle.extents.specs.Sides.{Edges}
use Rattle.line_join.specs.Sides.{Corners}
use Rattle.line_join.specs.Join.{mended, meet, overlapping}
use Rattle.line_join.specs.Words.{Bend, Ended, inner_edge, Outward}

-- ---- what two edges meet at

sound-at : (end : Point) (x : Intersection) (p : Point) (s : Side) → (mended false end x ≡ At p s) ↔ (x ≡ At p s)
sound-at end (At q t) p s = (λ e. e, λ e. e)
sound-at end Colinear p s = (λ e. e, λ e. e)

module _ (second first : Line) (p : Point) (s : Side) where
  -- edges that do not run nearly alike meet where they are drawn to cross
  pub meet-drawn : nearly_colinear second first ≡ false → (meet second first ≡ At p s) ↔ IsDrawn second first p s
  unfolding meet
  meet-drawn far =
      let same = sound-at first.end (crossing_of second first) p s in
      let drawn = drawn-exactly second first p s in
      (λ e. drawn.0 (same.0 (rw far at e)), λ d. rw far (same.1 (drawn.1 d)))

  ended_of : (x : Intersection) → crossing_of second first ≡ x → mended true first.end x ≡ At p s → Ended second first p s
  ended_of (At q t) e f =
      let d = (drawn-exactly second first q t).0 e in
      let at : first.end ≡ p = cc f in
      let side : t ≡ s = cc f in
      record { crosses = d.crosses; at_end = sym at; left = rw (← side) d.left }
  ended_of Colinear e f = let z : ◌≡◌ {A = ℕ} 0 1 = cc f in absurd (omega arith)

  of-ended : (x : Intersection) → crossing_of second first ≡ x → Ended second first p s → mended true first.end x ≡ At p s
  of-ended (At q t) e d = let side = one_side t s ((drawn-exactly second first q t).0 e).left d.left in cc (side, d.at_end)
  of-ended Colinear e d = absurd (d.crosses ((colinear-exactly second first).0 e))

  -- edges that do meet at the end of the first
  pub meet-ended : nearly_colinear second first ≡ true → (meet second first ≡ At p s) ↔ Ended second first p s
  unfolding meet
  meet-ended near = (λ e. ended_of (crossing_of second first) refl (rw near at e), λ d. rw near (of-ended (crossing_of second first) refl d))

-- the corners of a bend: each is a drawn crossing of two edges, or the end of the first
module _ {first second : Edges} {side : Side} {crossing : Corners} (b : Bend first second side crossing) where
  pub left-drawn : nearly_colinear second.left first.left ≡ false → IsDrawn second.left first.left crossing.left side
  left-drawn far = (meet-drawn second.left first.left crossing.left side far).0 b.left_at

  pub right-drawn : nearly_colinear second.right first.right ≡ false → IsDrawn second.right first.right crossing.right b.other
  right-drawn far = (meet-drawn second.right first.right crossing.right b.other far).0 b.right_at

  pub left_ended : nearly_colinear second.left first.left ≡ true → Ended second.left first.left crossing.left side
  left_ended near = (meet-ended second.left first.left crossing.left side near).0 b.left_at

  pub right-ended : nearly_colinear second.right first.right ≡ true → Ended second.right first.right crossing.right b.other
  right-ended near = (meet-ended second.right first.right crossing.right b.other near).0 b.right_at

-- ---- when lines overlap: the determinant of the first inner edge's direction and the way from its start to the end of the second
-- inner edge tells the side

pub overlap-exactly : (s : Side) (first second : Edges) → (overlapping s first second ≡ true) ↔ Outward s (determinant (delta (inner_edge s first)) (minus (inner_edge s second).end (inner_edge s first).start))
unfolding overlapping
overlap-exactly Left first second = rw (← distance-determinant first.right second.right.end) (left-exactly (equation_of first.right) second.right.end)
overlap-exactly Right first second = rw (← distance-determinant first.left second.left.end) (right-exactly (equation_of first.left) second.left.end)
