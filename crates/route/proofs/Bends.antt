-- 02's K9: what the entries tell of a route that is refused with 5 is its first join, in the order of the walk, that has a corner beyond the
-- limit. Assumes nothing.
use mathlib.Core.Path.{◌≡◌, refl, sym, ◌∙◌}
use mathlib.Core.Logic.{◌↔◌}
use mathlib.Core.Bool.{Bool}
use mathlib.Core.List.{List}
use Prim.Native.Nat.{ℕ}
use native.Mathlib.Omega.{arith}
use lib.Dec.{eqb}
use lib.IntN.{ℤ}
use Rattle.shapes.specs.declared.limits.Limits.{Limits}
use Rattle.line_join.specs.Words.{BendTold}
use Rattle.line_join.proofs.Named.{chosen-bend, bend-as}
use Rattle.coordinates.specs.Refusal.{route_refusal}
use Rattle.route_joins.specs.Joins.{join_at, join_count, route_bend}
use Rattle.whole.specs.Places.{list_from}
use Rattle.whole.proofs.Tests.{either}
use Rattle.route.specs.Rows.{RowRange}
use Rattle.route.specs.declared.Joins.{Joins}
use Rattle.route.specs.Answers.{ListingValues}
use Rattle.route.specs.Joined.{joins_of, segments_in}
use Rattle.route.specs.Rows.{no_rows, drawn_in, rows_in}
use Rattle.route.specs.Answers.{draw_refusal, rows_answer, whole_answer, refusal_on, answer_on, row_answer}
use Rattle.route.proofs.Refused.{draw-bend, row_before, answer-before}
use Rattle.route.proofs.AllRows.{all-bend, rows-refusal, whole_before}

module _ (limits : Limits) (closed : Bool) (cs : List ℤ) (w : ℤ) where
  abbrev b : ℕ
  b = route_bend limits closed cs w

  abbrev joins : Joins
  joins = joins_of limits.corner closed cs w

  abbrev d : ℕ
  d = draw_refusal limits closed cs w

  -- of an answer of the route with this refusal and this position
  abbrev pub RouteTold : ℕ → ℕ → Type 0
  RouteTold refusal bend = BendTold (route_refusal limits.point closed cs w ≡ 0) limits.corner (join_at closed cs w) (join_count cs) refusal bend

  told-as : {n m : ℕ} → (n ≡ 5) ↔ (d ≡ 5) → m ≡ b → RouteTold n m
  told-as same e = rw e (bend-as limits.corner (join_at closed cs w) (join_count cs) same (draw-bend limits closed cs w))

  -- what is not refused names none
  none : d ≡ 0 → b ≡ 0
  none e = (draw-bend limits closed cs w).other (λ five. omega (arith, e, five))

  rows_is : (rows_answer limits closed cs w).bend ≡ b
  unfolding rows_answer rows_in
  rows_is = chosen-bend {A = RowRange} (λ r. r.bend) d (all-bend (no_rows 0 0) (list_from (drawn_in joins) 0 (segments_in joins)) refl) refl none

  pub rows-bend : RouteTold (rows_answer limits closed cs w).refusal (rows_answer limits closed cs w).bend
  rows-bend = let is = rows-refusal limits closed cs w in told-as (λ e. sym is ∙ e, λ e. is ∙ e) rows_is

  pub whole-bend : RouteTold (whole_answer limits closed cs w).refusal (whole_answer limits closed cs w).bend
  unfolding whole_answer
  whole-bend = told-as (whole_before limits closed cs w (omega arith) (λ e. omega arith)) refl

  module _ (row : ℤ) (len : ℕ) where
    row_is : (row_answer limits closed cs w row len).bend ≡ b
    unfolding row_answer answer_on
    row_is =
        chosen-bend {A = ListingValues} (λ l. l.bend) d (either {A = ListingValues} (λ l. l.bend ≡ 0) (eqb (refusal_on limits.corner joins row) 0) (λ e. refl) (λ e. refl)) refl none

    pub row-bend : RouteTold (row_answer limits closed cs w row len).refusal (row_answer limits closed cs w row len).bend
    row-bend =
        let entry = answer-before limits closed cs w row len {m = 5} (omega arith) (λ e. omega arith) in
        let number = row_before limits closed cs w row {m = 5} (omega arith) (λ e. omega arith) (λ e. omega arith) in
        told-as (λ e. number.0 (entry.0 e), λ e. entry.1 (number.1 e)) row_is
