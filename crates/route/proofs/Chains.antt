-- What the entries know of a route once it is prepared. Assumes nothing.
use mathlib.Core.Path.{◌≡◌, sym, ap, ◌∙◌}
use mathlib.Core.Bool.{Bool, true, cond}
use mathlib.Core.Logic.{◌↔◌, ◌≢◌}
use mathlib.Core.List.{List}
use Prim.Native.Nat.{ℕ}
use native.Mathlib.Omega.{arith}
use borrow.Author.Tests.{eq-eqb, ne_eqb}
use lib.Dec.{lit≤}
use lib.IntN.{ℤ}
use lib.ListN.{length}
use Rattle.shapes.specs.declared.limits.Limits.{Limits}
use Rattle.shapes.specs.Limits.{line_limit, panel, Roomy}
use Rattle.shapes.specs.declared.refusals.Refusal.{Refusal}
use Rattle.shapes.specs.Refusals.{number_of, bend_of}
use Rattle.coordinates.specs.Refusal.{route_refusal}
use Rattle.coordinates.proofs.Laws.{accepted-exactly}
use Rattle.whole.proofs.Tests.{else-false}
use Rattle.shapes.proofs.Numbers.{number-some}
use Rattle.route_joins.specs.Joins.{are_joins_near, near_joins, route_bend}
use Rattle.route_joins.proofs.Near.{joins-exactly}
use Rattle.route_joins.proofs.Bends.{near-all}
use Rattle.route.specs.declared.Joins.{Joins}
use Rattle.route.specs.Joined.{Kept, joins_of}
use Rattle.route.specs.Rows.{no_rows, rows_in, rows_refusal}
use Rattle.route.specs.Answers.{PreparedValues, Verdict, ListingValues, draw_refusal, no_joins, prepared_of, rows_answer, whole_refusal, whole_answer, no_listing, answer_on, list_on, row_answer, row_to}
use Rattle.route.proofs.Kept.{kept-joins, kept_more}
use Rattle.route.proofs.Refused.{draw-none, draw-bend}

pub panel-roomy : Roomy panel
panel-roomy = record { point_room = lit≤ tt; corner_room = lit≤ tt }

module _ (limits : Limits) (closed : Bool) (cs : List ℤ) (w : ℤ) where
  -- the joins of a route that nothing refuses may be drawn
  pub kept-route : draw_refusal limits closed cs w ≡ 0 → Kept limits.corner (joins_of limits.corner closed cs w)
  kept-route e = let a = (draw-none limits closed cs w).0 e in kept-joins limits.corner closed cs w a.0.few ((joins-exactly limits.corner closed cs w).1 a.1)

  -- what `prepare` answers where its list or its width is refused
  pub prepared-stopped : (r : Refusal) → number_of r ≡ route_refusal limits.point closed cs w → bend_of r ≡ 0
      → ◌≡◌ {A = PreparedValues} (record { refusal = number_of r; bend = bend_of r; joins = no_joins }) (prepared_of limits closed cs w)
  unfolding prepared_of draw_refusal route_bend
  prepared-stopped r e none = rw (← e, none, ne_eqb (number_of r) 0 (number-some r))

  -- and once its list and its width are not refused
  module _ (zero : route_refusal limits.point closed cs w ≡ 0) {js : Joins} (made : js ≡ joins_of limits.corner closed cs w) where
    abbrev all : Bool
    all = are_joins_near limits.corner closed cs w

    prepared : prepared_of limits closed cs w ≡ record { refusal = cond all 0 5; bend = cond all 0 (near_joins limits.corner closed cs w); joins = joins_of limits.corner closed cs w }
    unfolding prepared_of draw_refusal route_bend
    prepared = rw zero

    -- all joins are near exactly when as many are as there are
    all_near : (js.near ≡ js.count) ↔ (all ≡ true)
    unfolding joins_of
    all_near = rw made (near-all limits.corner closed cs w)

    pub prepared-near : js.near ≡ js.count → ◌≡◌ {A = PreparedValues} (record { refusal = 0; bend = 0; joins = js }) (prepared_of limits closed cs w)
    prepared-near e = rw (prepared, all_near.0 e, made)

    pub prepared-far : js.near ≢ js.count → ◌≡◌ {A = PreparedValues} (record { refusal = 5; bend = js.near; joins = js }) (prepared_of limits closed cs w)
    unfolding joins_of
    prepared-far other = rw (prepared, else-false all (λ e. other (all_near.1 e)), made)

  -- nothing refuses the route
  pub record Ready (js : Joins) : Type 0 where
    pub draw : draw_refusal limits closed cs w ≡ 0
    pub joins : js ≡ joins_of limits.corner closed cs w
    pub kept : Kept line_limit js

  pub ready : {r : PreparedValues} → Roomy limits → r ≡ prepared_of limits closed cs w → r.refusal ≡ 0 → Ready r.joins
  unfolding prepared_of
  ready {r} roomy e none =
      let draw = sym (ap (λ p. p.refusal) e) ∙ none in
      let taken = (accepted-exactly limits.point closed cs w).1 ((draw-none limits closed cs w).0 draw).0 in
      let joins : r.joins ≡ joins_of limits.corner closed cs w = ap (λ p. p.joins) e ∙ rw (eq-eqb (route_refusal limits.point closed cs w) 0 taken) in
      record { draw = draw; joins = joins; kept = rw joins (kept_more (kept-route draw) roomy.corner_room) }

  pub refused-with : {r : PreparedValues} → r ≡ prepared_of limits closed cs w → draw_refusal limits closed cs w ≡ r.refusal
  unfolding prepared_of
  refused-with e = sym (ap (λ p. p.refusal) e)

  pub named-with : {r : PreparedValues} → r ≡ prepared_of limits closed cs w → route_bend limits closed cs w ≡ r.bend
  unfolding prepared_of
  named-with e = sym (ap (λ p. p.bend) e)

  -- ---- what the entries have to show

  abbrev d : ℕ
  d = draw_refusal limits closed cs w

  module _ {m : ℕ} (e : d ≡ m) (some : m ≢ 0) where
    pub whole-stopped : m ≡ whole_refusal limits closed cs w
    unfolding whole_refusal
    whole-stopped = rw (e, ne_eqb m 0 some)

    module _ {b : ℕ} (at : route_bend limits closed cs w ≡ b) where
      pub rows-stopped : no_rows m b ≡ rows_answer limits closed cs w
      unfolding rows_answer
      rows-stopped = rw (e, at, ne_eqb m 0 some)

      pub verdict-stopped : ◌≡◌ {A = Verdict} (record { refusal = m; bend = b }) (whole_answer limits closed cs w)
      unfolding whole_answer
      verdict-stopped = rw (← whole-stopped, at)

      pub row-stopped : (row : ℤ) (out : List ℤ) {l : ListingValues} → l ≡ no_listing m b → (l ≡ row_answer limits closed cs w row (length out)) × (out ≡ row_to limits closed cs w row out)
      unfolding row_answer row_to
      row-stopped row out is = (rw (e, at, ne_eqb m 0 some) is, rw (e, ne_eqb m 0 some))

  module _ {js : Joins} (r : Ready js) where
    -- so that no bend is named
    none_named : route_bend limits closed cs w ≡ 0
    none_named = (draw-bend limits closed cs w).other (λ five. let none = r.draw in omega (arith, five, none))

    pub rows_made : rows_in js ≡ rows_answer limits closed cs w
    unfolding rows_answer
    rows_made = rw (r.joins, r.draw)

    pub whole-made : rows_refusal js (rows_in js) ≡ whole_refusal limits closed cs w
    unfolding whole_refusal
    whole-made = rw (r.joins, r.draw)

    pub verdict-made : {m : ℕ} → m ≡ rows_refusal js (rows_in js) → ◌≡◌ {A = Verdict} (record { refusal = m; bend = 0 }) (whole_answer limits closed cs w)
    unfolding whole_answer
    verdict-made e = rw (e, whole-made, none_named)

    pub row_made : (row : ℤ) (n : ℕ) → answer_on limits.corner js row n ≡ row_answer limits closed cs w row n
    unfolding row_answer
    row_made row n = rw (r.joins, r.draw)

    pub list-made : (row : ℤ) (out : List ℤ) → list_on limits.corner js row out ≡ row_to limits closed cs w row out
    unfolding row_to
    list-made row out = rw (r.joins, r.draw)
