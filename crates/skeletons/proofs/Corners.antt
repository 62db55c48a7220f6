-- The corners of a bend's join are apart where ends and crossings of the edges are. Assumes nothing.
use mathlib.Core.Path.{◌≡◌, refl}
use mathlib.Core.Logic.{⊎_elim}
use mathlib.Core.Bool.{true}
use Prim.Native.Nat.{ℕ, ◌≤◌}
use lib.IntN.{pos}
use Rattle.whole.proofs.Ring.{con, neg, ◌⊖◌, ◌⊗◌, ◌≈◌, since, ring}
use Rattle.whole.proofs.Tests.{either}
use Rattle.shapes.specs.declared.Point.{Point}
use Rattle.shapes.specs.declared.Line.{Line}
use Rattle.shapes.specs.declared.Side.{Side}
use Rattle.shapes.specs.declared.Side.TheVariants.{Left, Right}
use Rattle.shapes.specs.declared.Offset.TheVariants.{None}
use Rattle.shapes.specs.Shape.{line_of, determinant, delta}
use Rattle.intersection_params.specs.declared.Intersection.{Intersection}
use Rattle.intersection_params.specs.declared.Intersection.TheVariants.{At, Colinear}
use Rattle.intersection_params.specs.Words.{bend, IsDrawn}
use Rattle.extents.specs.Sides.{Edges}
use Rattle.extents.specs.Edges.{extents_of}
use Rattle.line_join.specs.declared.Join.{Join}
use Rattle.line_join.specs.Miter.{reaches}
use Rattle.line_join.specs.Join.{meet, corners_of, outer, cut, overlapping, bent_at, bent_left, bent_of, join_of}
use Rattle.skeletons.proofs.Cells.{Touches, first-touches, second-touches, met_at}
use Rattle.skeletons.proofs.Strokes.{Fits, edge, Solid, solid}

-- directions that cross are not (0,0)
bend-first : (j l : Line) → ((delta j).x ≡ pos 0) × ((delta j).y ≡ pos 0) → bend j l ≡ pos 0
unfolding determinant
bend-first j l h = ring 4 (λ x y u v. since v x (con (pos 0)) (since (neg u) y (con (pos 0)) (x ⊗ v ⊖ y ⊗ u ≈ con (pos 0)))) refl (delta j).x (delta j).y (delta l).x (delta l).y h.0 h.1

bend-second : (j l : Line) → ((delta l).x ≡ pos 0) × ((delta l).y ≡ pos 0) → bend j l ≡ pos 0
unfolding determinant
bend-second j l h = ring 4 (λ x y u v. since (neg y) u (con (pos 0)) (since x v (con (pos 0)) (x ⊗ v ⊖ y ⊗ u ≈ con (pos 0)))) refl (delta j).x (delta j).y (delta l).x (delta l).y h.0 h.1

-- left and right of `first_edge_end` are two points, so that no skeleton begins at the join
abbrev pub Apart : Join → Type 0
Apart j = j.ending.left ≡ j.ending.right → ⊥

module _ (p q r : Point) (w : ℕ) where
  abbrev first : Side → Line
  first side = edge (line_of p q) w side

  abbrev second : Side → Line
  second side = edge (line_of q r) w side

  -- a corner of the bend: the end of an edge, or a crossing
  pub data Corner (side : Side) (z : Point) : Type 0 where
    ended : z ≡ (first side).end → Corner side z
    drawn : {s : Side} → IsDrawn (second side) (first side) z s → Corner side z

  corner : (side s : Side) {z : Point} → meet (second side) (first side) ≡ At z s → Corner side z
  corner side s m = ⊎_elim (λ e. ended e) (λ d. drawn d) (met_at (second side) (first side) m)

  abbrev F : Edges
  F = extents_of (line_of p q) (pos w) None

  abbrev S : Edges
  S = extents_of (line_of q r) (pos w) None

  -- a join whose corners are apart, whichever they are
  pub record Parts : Type 0 where
    pub ends : (first Left).end ≡ (first Right).end → ⊥
    pub kept : (s : Side) {l t : Point} → reaches q (outer s (corners_of l t)) (pos w) ≡ true → Corner Left l → Corner Right t → l ≡ t → ⊥
    pub left_cut : {t : Point} → Corner Right t → (first Left).end ≡ t → ⊥
    pub right-cut : {l : Point} → Corner Left l → l ≡ (first Right).end → ⊥

  module _ (parts : Parts) where
    cut_apart : (s : Side) {l t : Point} → Corner Left l → Corner Right t → Apart (cut s (corners_of l t) F S)
    cut_apart Left h k = parts.left_cut k
    cut_apart Right h k = parts.right-cut h

    bent-apart : (x y : Intersection) → meet S.left F.left ≡ x → meet S.right F.right ≡ y → Apart (bent_left x y F S q (pos w))
    unfolding bent_at
    bent-apart Colinear y e f = parts.ends
    bent-apart (At l s) Colinear e f = parts.ends
    bent-apart (At l s) (At t u) e f =
        let left = corner Left s e in
        let right = corner Right u f in
        either Apart (overlapping s F S) (λ _. parts.ends) (λ _. either Apart (reaches q (outer s (corners_of l t)) (pos w)) (λ near. parts.kept s near left right) (λ _. cut_apart s left right))

    pub join_apart : Apart (join_of p q r (pos w) None)
    unfolding join_of bent_of
    join_apart = bent-apart (meet S.left F.left) (meet S.right F.right) refl refl

-- edges that cross come to the square round the corner, and have a length
module _ {p q r : Point} {w : ℕ} (first_fits : Fits (line_of p q) w) (second_fits : Fits (line_of q r) w) (wide : 1 ≤ w) {z : Point} {s : Side} (side : Side) (d : IsDrawn (second p q r w side) (first p q r w side) z s) where
  pub before : Touches (edge (line_of p q) w side) z × Solid (line_of p q) w side
  before = (second-touches d, solid first_fits wide side (λ still. d.crosses (bend-second (second p q r w side) (first p q r w side) still)))

  pub after : Touches (edge (line_of q r) w side) z × Solid (line_of q r) w side
  after = (first-touches d, solid second_fits wide side (λ still. d.crosses (bend-first (second p q r w side) (first p q r w side) still)))
