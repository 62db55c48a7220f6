-- What the entry answers, without the code: each refusal exactly when, and what stands in the answer. Assumes nothing.
use mathlib.Core.Path.{◌≡◌, refl, ◌∙◌}
use mathlib.Core.Logic.{◌↔◌}
use mathlib.Core.Bool.{Bool, true, false}
use Prim.Native.Nat.{ℕ, ◌<◌}
use native.Mathlib.Omega.{arith}
use borrow.Author.Tests.{eqb-true, ne_eqb}
use lib.Dec.{eqb}
use lib.IntN.{ℤ}
use Rattle.shapes.specs.declared.Line.{Line}
use Rattle.shapes.specs.declared.Offset.{Offset}
use Rattle.shapes.specs.Shape.{LineNear, is_line_near}
use Rattle.shapes.specs.Strokes.{Thin, stroke_refusal}
use Rattle.shapes.proofs.Laws.{line-near-iff}
use Rattle.shapes.proofs.Widths.{stroke-three, stroke-four, stroke-none}
use Rattle.extents.specs.Edges.{extents_of}
use Rattle.extents.specs.Entry.{refused_with, accepted, extents_answer}

-- 3 and 4 exactly when 01's table says, else 0
pub record Exactly (k : ℕ) (l : Line) (width : ℤ) (n : ℕ) : Type 0 where
  pub three : (n ≡ 3) ↔ (Thin width → ⊥)
  pub four : (n ≡ 4) ↔ (Thin width × (LineNear k l → ⊥))
  pub none : (n ≡ 0) ↔ (Thin width × LineNear k l)

module _ (k : ℕ) (l : Line) (width : ℤ) (offset : Offset) where
  abbrev number : ℕ
  number = stroke_refusal width (is_line_near k l)

  -- what is answered, by the number of the chain
  pub by-refusal : {n : ℕ} → number ≡ n → (n ≡ 0 → ⊥) → extents_answer k l width offset ≡ refused_with n
  unfolding extents_answer
  by-refusal {n} e some = rw (e, ne_eqb n 0 some)

  pub by-none : number ≡ 0 → extents_answer k l width offset ≡ accepted (extents_of l width offset)
  unfolding extents_answer
  by-none e = rw e

  refusal-by : (t : Bool) → eqb number 0 ≡ t → number ≡ (extents_answer k l width offset).refusal
  unfolding extents_answer
  refusal-by true e = rw e (eqb-true number 0 e)
  refusal-by false e = rw e refl

  refusal_is : number ≡ (extents_answer k l width offset).refusal
  refusal_is = refusal-by (eqb number 0) refl

  pub extents-exactly : Exactly k l width (extents_answer k l width offset).refusal
  extents-exactly =
      let near = line-near-iff k l in
      rw (← refusal_is) (record { three = stroke-three width near; four = stroke-four width near; none = stroke-none width near })

  -- a refusal: its number only, with 0 for every other field
  pub refused-answer : {n : ℕ} → (extents_answer k l width offset).refusal ≡ n → 0 < n → extents_answer k l width offset ≡ refused_with n
  refused-answer e some = by-refusal (refusal_is ∙ e) (λ none. omega arith)

  pub accepted-answer : (extents_answer k l width offset).refusal ≡ 0 → extents_answer k l width offset ≡ accepted (extents_of l width offset)
  accepted-answer e = by-none (refusal_is ∙ e)
