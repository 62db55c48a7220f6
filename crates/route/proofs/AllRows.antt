-- A route as a whole: its rows go from the first to the last row of the lines that are drawn of the walk's segments, and it is refused as they
-- are, then with 8 exactly when one of these rows has no room. Assumes nothing.
use mathlib.Core.Path.{◌≡◌, refl, sym, ap, ◌∙◌}
use mathlib.Core.Logic.{◌↔◌, ◌≢◌, ◌⊎◌, inl, ⊎_elim}
use mathlib.Core.Bool.{Bool, true, false, cond}
use mathlib.Core.List.{List, [], ◌∷◌}
use Prim.Native.Nat.{ℕ, zero, suc, ◌+◌, ◌<◌}
use native.Mathlib.Nat.{zero-add}
use native.Mathlib.Omega.{arith}
use borrow.Author.Tests.{eqb-true, eq-eqb}
use lib.Dec.{eqb}
use lib.IntN.{ℤ, nat_abs, ◌-ℤ◌}
use Rattle.whole.specs.Places.{list_from}
use Rattle.whole.proofs.Tests.{either}
use Rattle.shapes.specs.declared.limits.Limits.{Limits}
use Rattle.shapes.specs.Refusals.{or_else}
use Rattle.thick_segment.specs.declared.Rows.{Rows}
use Rattle.thick_segment.specs.Rows.{drawn_rows}
use Rattle.coordinates.specs.Points.{segments_of}
use Rattle.coordinates.specs.Neighbours.{Doubled}
use Rattle.coordinates.specs.Refusal.{route_refusal}
use Rattle.route_joins.specs.Joins.{segment_at, segment_count, join_count, route_bend}
use Rattle.route.specs.declared.Joins.{Joins}
use Rattle.route.specs.Rows.{RowRange}
use Rattle.route.specs.Joined.{joins_of, segments_in}
use Rattle.route.specs.Rows.{range_of, with_rows, with_all, drawn_in, no_rows, rows_in, RowsNear, row_count, row_at, first_of, room_at, rows_refusal}
use Rattle.route.specs.Words.{SomeFull}
use Rattle.route.specs.Answers.{draw_refusal, rows_answer, whole_refusal, refusal_on, row_refusal}
use Rattle.route.proofs.Bounds.{Bounds, bounds}
use Rattle.route.proofs.Chains.{kept-route}
use Rattle.shapes.proofs.Choices.{or-free, or-either, or_later, or-before}
use Rattle.route.proofs.Drawn.{room-or-full}
use Rattle.route.proofs.Kept.{segments-all, segment-is}
use Rattle.whole.proofs.Lists.{list_same}
use Rattle.route.proofs.Ranges.{rows-near, row_within, row-between, place_of, count_none}
use Rattle.route.proofs.Refused.{draw-none, draw-most, doubled-later, on-eight, row-eight-exactly}

-- ---- the rows of a route

-- nothing is refused on the way: a field that is 0 in every range of rows stays 0
all-zero : (field : RowRange → ℕ) → ((r : Rows) → field (range_of r) ≡ 0) → (range : RowRange) (rs : List Rows) → field range ≡ 0 → field (with_all range rs) ≡ 0
unfolding with_all with_rows
all-zero field zeros range [] e = e
all-zero field zeros range (r ∷ rs) e = all-zero field zeros (with_rows range r) rs (either (λ g. field g ≡ 0) range.some (λ s. zeros _) (λ s. zeros r))

pub all-refusal : (range : RowRange) (rs : List Rows) → range.refusal ≡ 0 → (with_all range rs).refusal ≡ 0
all-refusal = all-zero (λ r. r.refusal) (λ r. refl)

pub all-bend : (range : RowRange) (rs : List Rows) → range.bend ≡ 0 → (with_all range rs).bend ≡ 0
all-bend = all-zero (λ r. r.bend) (λ r. refl)

module _ (limits : Limits) (closed : Bool) (cs : List ℤ) (w : ℤ) where
  abbrev d : ℕ
  d = draw_refusal limits closed cs w

  abbrev b : ℕ
  b = route_bend limits closed cs w

  abbrev route : Joins
  route = joins_of limits.corner closed cs w

  -- the rows of the walk's segments
  abbrev pub drawn_at : ℕ → Rows
  drawn_at i = drawn_rows (segment_at closed cs w i)

  answer-is : d ≡ 0 → rows_answer limits closed cs w ≡ rows_in route
  unfolding rows_answer
  answer-is e = rw (eq-eqb d 0 e)

  walk_rows : d ≡ 0 → rows_answer limits closed cs w ≡ with_all (no_rows 0 0) (list_from drawn_at 0 (segment_count closed cs))
  unfolding rows_in joins_of
  walk_rows e =
      answer-is e
      ∙ ap (with_all (no_rows 0 0)) (list_same (drawn_in route) drawn_at (segments_of closed (join_count cs)) (λ i h. ap drawn_rows (segment-is limits.corner closed cs w h)))
      ∙ ap (λ m. with_all (no_rows 0 0) (list_from drawn_at 0 m)) (segments-all ((draw-none limits closed cs w).0 e).0)

  pub rows-bounds : d ≡ 0 → 0 < segment_count closed cs → Bounds drawn_at (segment_count closed cs) (rows_answer limits closed cs w)
  rows-bounds e some = rw (walk_rows e) (bounds drawn_at (segment_count closed cs) some)

  -- a route without segments has no rows
  pub rows-none-of : d ≡ 0 → segment_count closed cs ≡ 0 → rows_answer limits closed cs w ≡ no_rows 0 0
  unfolding with_all list_from
  rows-none-of e none = walk_rows e ∙ ap (λ m. with_all (no_rows 0 0) (list_from drawn_at 0 m)) none

  rows-chosen : (t : Bool) → eqb d 0 ≡ t → (cond t (rows_in route) (no_rows d b)).refusal ≡ d
  unfolding rows_in
  rows-chosen true e = all-refusal (no_rows 0 0) (list_from (drawn_in route) 0 (segments_in route)) refl ∙ sym (eqb-true d 0 e)
  rows-chosen false e = refl

  pub rows-refusal : (rows_answer limits closed cs w).refusal ≡ d
  unfolding rows_answer
  rows-refusal = rows-chosen (eqb d 0) refl

  -- refused, every field is 0 but the number and what comes with 5
  pub rows-refused : (rows_answer limits closed cs w).refusal ≢ 0 → rows_answer limits closed cs w ≡ no_rows (rows_answer limits closed cs w).refusal (rows_answer limits closed cs w).bend
  unfolding rows_answer
  rows-refused = by (eqb d 0) refl
    where
      by : (t : Bool) → eqb d 0 ≡ t → (cond t (rows_in route) (no_rows d b)).refusal ≢ 0 → let r = cond t (rows_in route) (no_rows d b) in r ≡ no_rows r.refusal r.bend
      by true e some = absurd (some (rows-chosen true e ∙ eqb-true d 0 e))
      by false e some = refl

-- ---- the first refusal of several

module _ (number : ℕ → ℕ) where
  -- one of `left` from place i on is m
  record Found (i left m : ℕ) : Type 0 where
    at : ℕ
    inside : at < left
    is : number (i + at) ≡ m

  abbrev first : ℕ → ℕ → ℕ
  first i left = first_of (list_from number i left)

  found : (i left : ℕ) {m : ℕ} → 0 < m → first i left ≡ m → Found i left m
  unfolding first_of list_from
  found i zero some e = absurd (omega (arith, some, e))
  found i (suc left) {m} some e =
      ⊎_elim (λ h. record { at = 0; inside = omega arith; is = let same : i + 0 ≡ i = omega arith in rw same h }) (λ h. later (found (suc i) left some h.1))
      ((or-either (number i) (first (suc i) left) some).0 e)
    where
      later : Found (suc i) left m → Found i (suc left) m
      later f = record { at = suc f.at; inside = omega (arith, f.inside); is = let on : i + suc f.at ≡ suc i + f.at = omega arith in rw on f.is }

  abbrev ZeroOrEight : ℕ → ℕ → Type 0
  ZeroOrEight i left = (j : ℕ) → j < left → (number (i + j) ≡ 0) ⊎ (number (i + j) ≡ 8)

  -- where none is another number
  told : (i left : ℕ) → ZeroOrEight i left → Found i left 8 → first i left ≡ 8
  unfolding first_of list_from
  told i zero each f = absurd (omega (arith, f.inside))
  told i (suc left) each f = ⊎_elim (λ none. by f.at f.inside f.is none (λ e g. told (suc i) left e g)) (λ e. (or-either (number i) (first (suc i) left) (omega arith)).1 (inl e)) (rw here at (each 0 (omega arith)))
    where
      here : i + 0 ≡ i
      here = omega arith

      next : (j : ℕ) → i + suc j ≡ suc i + j
      next j = omega arith

      by : (j : ℕ) → j < suc left → number (i + j) ≡ 8 → number i ≡ 0 → (ZeroOrEight (suc i) left → Found (suc i) left 8 → first (suc i) left ≡ 8) → or_else (number i) (first (suc i) left) ≡ 8
      by zero h e none go = let eight = rw here at e in absurd (omega (arith, eight, none))
      by (suc j) h e none go =
          or-free (number i) (first (suc i) left) none
          ∙ go (λ j h. rw (next j) at (each (suc j) (omega arith))) (record { at = j; inside = omega (arith, h); is = rw (next j) at e })

-- ---- a route is refused as a whole

module _ (limits : Limits) (closed : Bool) (cs : List ℤ) (w : ℤ) where
  abbrev k : ℕ
  k = limits.corner

  abbrev n : ℕ
  n = draw_refusal limits closed cs w

  abbrev joins : Joins
  joins = joins_of k closed cs w

  abbrev rows : RowRange
  rows = rows_in joins

  abbrev room : ℕ → ℕ
  room = room_at joins rows

  abbrev all : ℕ
  all = first room 0 (row_count rows)

  each_row : (j : ℕ) → (room j ≡ 0) ⊎ (room j ≡ 8)
  each_row j = room-or-full joins (row_at rows j)

  all-other : {m : ℕ} → 0 < m → m ≢ 8 → all ≡ m → ⊥
  all-other some eight e =
      let f = found room 0 (row_count rows) some e in
      ⊎_elim (λ z. omega (arith, some, z, f.is)) (λ z. eight (sym f.is ∙ z)) (each_row (0 + f.at))

  module _ (e : n ≡ 0) where
    near : RowsNear k rows
    near = rows-near (kept-route limits closed cs w e)

    row_is : {i : ℕ} → i < row_count rows → (room i ≡ 8) ↔ (row_refusal limits closed cs w (row_at rows i) ≡ 8)
    unfolding row_refusal
    row_is {i} h =
        let free = or-free n (refusal_on k joins (row_at rows i)) e in
        let eight = on-eight k joins (row_at rows i) in
        (λ f. free ∙ eight.1 (row_within near h, f), λ f. (eight.0 (sym free ∙ f)).1)

    there-are : {i : ℕ} → i < row_count rows → rows.some ≡ true
    there-are h = by rows.some refl
      where
        by : (t : Bool) → rows.some ≡ t → rows.some ≡ true
        by true f = f
        by false f = absurd (omega (arith, h, count_none rows f))

    full-row : Found room 0 (row_count rows) 8 → SomeFull limits closed cs w
    full-row f =
        let some = there-are f.inside in
        let b = row-between near some f.inside in
        let is = answer-is limits closed cs w e in
        record {
          row = row_at rows f.at;
          inside = record { some = ap (λ r. r.some) is ∙ some; among = rw is (record { from = b.0; to = b.1 }) };
          full = (row_is f.inside).0 (rw (zero-add f.at) at f.is);
        }

    row-full : SomeFull limits closed cs w → Found room 0 (row_count rows) 8
    row-full s =
        let is = answer-is limits closed cs w e in
        let h = rw is at s.inside.among in
        let p = place_of near (ap (λ r. r.some) (sym is) ∙ s.inside.some) h.from h.to in
        let i = nat_abs (s.row -ℤ rows.first) in
        record { at = i; inside = p.0; is = rw (zero-add i) ((row_is p.0).1 (ap (row_refusal limits closed cs w) p.1 ∙ s.full)) }

  -- 8 exactly when one of its rows has no room
  pub whole-eight : (whole_refusal limits closed cs w ≡ 8) ↔ SomeFull limits closed cs w
  unfolding whole_refusal rows_refusal
  whole-eight =
      let later = or_later n all {m = 8} (omega arith) (draw-most limits closed cs w (omega arith) (λ e. omega arith)) in (
        λ e. let h = later.0 e in full-row h.0 (found room 0 (row_count rows) (omega arith) h.1),
        λ s.
            let none = ((row-eight-exactly limits closed cs w s.row).0 s.full).0 in
            later.1 (none, told room 0 (row_count rows) (λ j h. each_row (0 + j)) (row-full none s)),
      )

  -- any other number exactly when its rows are: 1 to 4, 12 and 5
  pub whole_before : {m : ℕ} → 0 < m → m ≢ 8 → (whole_refusal limits closed cs w ≡ m) ↔ (n ≡ m)
  unfolding whole_refusal rows_refusal
  whole_before some eight = or-before n all some (all-other some eight)

  -- with a doubled point 8 is not asked
  pub doubled-whole : Doubled closed cs → whole_refusal limits closed cs w ≡ route_refusal limits.point closed cs w
  unfolding whole_refusal rows_refusal
  doubled-whole = doubled-later limits closed cs w all
