-- At widths 0 and 1 the edges of a leg are the leg itself, so that a join has one corner at which both end, and one at which both start. Assumes nothing.
use mathlib.Core.Path.{◌≡◌, refl}
use mathlib.Core.Logic.{◌⊎◌, ⊎_elim}
use lib.IntN.{ℤ, pos}
use Rattle.whole.proofs.Tests.{either}
use Rattle.shapes.specs.declared.Point.{Point}
use Rattle.shapes.specs.declared.Line.{Line}
use Rattle.shapes.specs.declared.Side.{Side}
use Rattle.shapes.specs.declared.Side.TheVariants.{Left, Right}
use Rattle.shapes.specs.declared.Offset.TheVariants.{None}
use Rattle.shapes.specs.Limits.{line_limit}
use Rattle.shapes.specs.Shape.{line_of, Near}
use Rattle.shapes.proofs.Laws.{line-of-near}
use Rattle.intersection_params.specs.declared.Intersection.{Intersection}
use Rattle.intersection_params.specs.declared.Intersection.TheVariants.{At, Colinear}
use Rattle.extents.specs.Sides.{Edges}
use Rattle.extents.specs.Edges.{extents_of}
use Rattle.extents.proofs.Laws.{edges-at-zero}
use Rattle.extents.proofs.One.{edges-at-one}
use Rattle.line_join.specs.declared.Join.{Join}
use Rattle.line_join.specs.declared.Kind.{Kind}
use Rattle.line_join.specs.declared.Kind.TheVariants as kind
use Rattle.line_join.specs.Miter.{reaches}
use Rattle.line_join.specs.Join.{meet, corners_of, outer, cut, overlapping, plain, bent_at, bent_left, bent_of, start_of, end_of, join_of}
use Rattle.skeletons.proofs.Cells.{drawn-end, met_at}

-- ---- where a line meets one that begins at its end

meets-end : (a b c : Point) {p : Point} {s : Side} → meet (line_of b c) (line_of a b) ≡ At p s → p ≡ b
meets-end a b c m = ⊎_elim (λ e. e) (λ d. drawn-end a b c d) (met_at (line_of b c) (line_of a b) m)

-- ---- of a join whose edges are the lines themselves the left and the right corner are one, where the line before ends and where the one after starts

pub record Merged (j : Join) : Type 0 where
  pub ending-one : j.ending.left ≡ j.ending.right
  pub starting-one : j.starting.left ≡ j.starting.right

abbrev bare : Line → Edges
bare l = record { left = l; right = l }

module _ (a b c : Point) where
  at-edges : (k : Kind) → Merged (plain k (bare (line_of a b)) (bare (line_of b c)))
  at-edges k = record { ending-one = refl; starting-one = refl }

  at_cut : (s : Side) → Merged (cut s (corners_of b b) (bare (line_of a b)) (bare (line_of b c)))
  at_cut Left = record { ending-one = refl; starting-one = refl }
  at_cut Right = record { ending-one = refl; starting-one = refl }

  bent-by : (w : ℤ) (x : Intersection) → meet (line_of b c) (line_of a b) ≡ x → Merged (bent_left x x (bare (line_of a b)) (bare (line_of b c)) b w)
  unfolding bent_at
  bent-by w (At p s) e =
      rw (meets-end a b c e)
      (either Merged (overlapping s (bare (line_of a b)) (bare (line_of b c))) (λ _. at-edges (kind.Degenerate s))
      (λ _. either Merged (reaches b (outer s (corners_of b b)) w) (λ _. record { ending-one = refl; starting-one = refl }) (λ _. at_cut s)))
  bent-by w Colinear e = at-edges kind.Colinear

-- ---- of a line within the limit, at widths 0 and 1

abbrev pub Thinnest : ℤ → Type 0
Thinnest w = (w ≡ pos 0) ⊎ (w ≡ pos 1)

module _ {w : ℤ} (thin : Thinnest w) where
  edges-bare : {a b : Point} → Near line_limit a → Near line_limit b → extents_of (line_of a b) w None ≡ bare (line_of a b)
  edges-bare {a} {b} p q =
      let near = line-of-near p q in
      ⊎_elim (λ zero. rw zero (edges-at-zero (line_of a b) None near)) (λ one. rw one (edges-at-one (line_of a b) None near)) thin

  pub start-merged : {a b : Point} → Near line_limit a → Near line_limit b → Merged (start_of a b w None)
  unfolding start_of
  start-merged p q = rw (edges-bare p q) (record { ending-one = refl; starting-one = refl })

  pub end-merged : {a b : Point} → Near line_limit a → Near line_limit b → Merged (end_of a b w None)
  unfolding end_of
  end-merged p q = rw (edges-bare p q) (record { ending-one = refl; starting-one = refl })

  pub bend-merged : {a b c : Point} → Near line_limit a → Near line_limit b → Near line_limit c → Merged (join_of a b c w None)
  unfolding join_of bent_of
  bend-merged {a} {b} {c} p q r =
      let merged = bent-by a b c w (meet (line_of b c) (line_of a b)) refl in
      rw (edges-bare p q, edges-bare q r) (record { ending-one = merged.ending-one; starting-one = merged.starting-one })
