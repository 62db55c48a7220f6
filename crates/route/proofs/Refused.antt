-- Refusals of a route, of its row and of the row's entry, each exactly when 01's table with K6's 12 says, in its order. No accepted list of
-- coordinates is known that meets 5. Assumes nothing.
use mathlib.Core.Path.{◌≡◌, refl, sym, ◌∙◌}
use mathlib.Core.Logic.{◌↔◌, ◌≢◌, ◌⊎◌, inl, inr, ⊎_elim}
use mathlib.Core.Bool.{Bool, true, false, cond}
use mathlib.Core.List.{List}
use Prim.Native.Nat.{ℕ, ◌*◌, ◌≤◌, ◌<◌}
use native.Mathlib.Omega.{arith}
use lib.Dec.{eqb, leb}
use lib.IntN.{ℤ}
use lib.ListN.{length}
use Rattle.whole.specs.Number.{Within, is_within}
use Rattle.whole.proofs.Laws.{within-iff}
use Rattle.whole.proofs.Tests.{replaced, never, bad-first, good-first, good-later, leb-iff}
use Rattle.shapes.specs.declared.limits.Limits.{Limits}
use Rattle.shapes.specs.Refusals.{or_else}
use Rattle.line_join.specs.Caps.{JoinNear}
use Rattle.line_join.specs.Words.{BendTold}
use Rattle.board.specs.declared.Board.{Board}
use Rattle.board.specs.declared.Run.{Run}
use Rattle.board.specs.Boards.{Answer, live, told, listing, not_listed}
use Rattle.board_laws.specs.Histories.{board_after}
use Rattle.coordinates.specs.Refusal.{route_refusal, Accepted}
use Rattle.coordinates.specs.Neighbours.{Doubled}
use Rattle.coordinates.proofs.Laws.{accepted-exactly, refused-most, doubled-refused}
use Rattle.route_joins.specs.Joins.{join_at, join_count, are_joins_near, route_bend}
use Rattle.route_joins.proofs.Near.{joins-exactly}
use Rattle.route_joins.proofs.Bends.{route-bend}
use Rattle.route.specs.declared.Joins.{Joins}
use Rattle.route.specs.Answers.{ListingValues}
use Rattle.route.specs.Joined.{joins_of}
use Rattle.route.specs.Rows.{board_on}
use Rattle.route.specs.Words.{spans_on, offering, Crowded}
use Rattle.route.specs.Answers.{draw_refusal, no_listing, listing_of, refusal_on, answer_on, row_refusal, row_answer}
use Rattle.shapes.proofs.Choices.{or-stopped, or-after, or-either, or_later, or-before}
use Rattle.route.proofs.Drawn.{room-or-full, row-reached, row-eight}

-- ---- 1 to 4, 12 and 5

module _ (limits : Limits) (closed : Bool) (cs : List ℤ) (w : ℤ) where
  abbrev before : ℕ
  before = route_refusal limits.point closed cs w

  abbrev near : Bool
  near = are_joins_near limits.corner closed cs w

  -- every join of the route has all its corners within the limit
  abbrev pub Near : Type 0
  Near = (i : ℕ) → i < join_count cs → JoinNear limits.corner (join_at closed cs w i)

  near-exactly : (near ≡ true) ↔ Near
  near-exactly = joins-exactly limits.corner closed cs w

  taken-exactly : (before ≡ 0) ↔ Accepted limits.point closed cs w
  taken-exactly = accepted-exactly limits.point closed cs w

  pub draw-none : (draw_refusal limits closed cs w ≡ 0) ↔ (Accepted limits.point closed cs w × Near)
  unfolding draw_refusal
  draw-none = replaced taken-exactly (or-after before (cond near 0 5) (λ z no. no z) (bad-first near near-exactly (λ e. omega arith)))

  -- 5 exactly when nothing was refused before, and some join has a corner beyond the limit
  pub draw-five : (draw_refusal limits closed cs w ≡ 5) ↔ (Accepted limits.point closed cs w × (Near → ⊥))
  unfolding draw_refusal
  draw-five =
      replaced taken-exactly
      (or-after before (cond near 0 5) (λ e _. refused-most limits.point closed cs w (omega arith) (λ e. omega arith) e) (good-first near near-exactly (λ e. omega arith)))

  -- with 5 comes the first join, in the order of the walk, that has such a corner
  pub draw-bend : BendTold (before ≡ 0) limits.corner (join_at closed cs w) (join_count cs) (draw_refusal limits closed cs w) (route_bend limits closed cs w)
  unfolding draw_refusal
  draw-bend =
      route-bend limits closed cs w
      (or-after before (cond near 0 5) (λ e _. refused-most limits.point closed cs w (omega arith) (λ e. omega arith) e) (good-first near (λ e. e, λ e. e) (λ e. omega arith)))

  -- any other number exactly when the list and the width are refused with it: 1 to 4, and 12
  pub draw-before : {m : ℕ} → 0 < m → m ≢ 5 → (draw_refusal limits closed cs w ≡ m) ↔ (before ≡ m)
  unfolding draw_refusal
  draw-before some five = or-before before (cond near 0 5) some (never near (λ z. omega (arith, z)) (λ z. five (sym z)))

  -- no other number is given
  pub draw-most : {m : ℕ} → 5 < m → m ≢ 12 → draw_refusal limits closed cs w ≡ m → ⊥
  unfolding draw_refusal
  draw-most high twelve e =
      ⊎_elim (refused-most limits.point closed cs w (omega arith) twelve) (λ s. never near (λ z. omega (arith, z)) (λ z. omega (arith, z)) s.1)
      ((or-either before (cond near 0 5) (omega arith)).0 e)

  -- a route with a doubled point is refused as its list is: 5 is not asked, nor what comes after it
  pub doubled-draw : Doubled closed cs → draw_refusal limits closed cs w ≡ before
  unfolding draw_refusal
  doubled-draw doubled = or-stopped before (cond near 0 5) (doubled-refused limits.point closed cs w doubled)

  pub doubled-later : (later : ℕ) → Doubled closed cs → or_else (draw_refusal limits closed cs w) later ≡ before
  doubled-later later doubled = let told = doubled-draw doubled in rw told (or-stopped before later (doubled-refused limits.point closed cs w doubled))

-- ---- a row of joins that are kept: 6 exactly when it is outside, then 8 exactly when it has no room

module _ (k : ℕ) (route : Joins) (row : ℤ) where
  abbrev full : ℕ
  full = (board_on route row).refusal

  other-room : {m : ℕ} → (0 ≡ m → ⊥) → (8 ≡ m → ⊥) → full ≡ m → ⊥
  other-room zero eight e = ⊎_elim (λ z. zero (sym z ∙ e)) (λ z. eight (sym z ∙ e)) (room-or-full route row)

  on_none : (refusal_on k route row ≡ 0) ↔ (Within row k × (full ≡ 0))
  unfolding refusal_on
  on_none = good-later (is_within k row) (within-iff k row) (λ e. omega arith) (λ e. e, λ e. e)

  on-six : (refusal_on k route row ≡ 6) ↔ (Within row k → ⊥)
  unfolding refusal_on
  on-six = good-first (is_within k row) (within-iff k row) (other-room (λ z. omega arith) (λ z. omega arith))

  pub on-eight : (refusal_on k route row ≡ 8) ↔ (Within row k × (full ≡ 8))
  unfolding refusal_on
  on-eight = good-later (is_within k row) (within-iff k row) (λ e. omega arith) (λ e. e, λ e. e)

  on-most : {m : ℕ} → 0 < m → m ≢ 6 → m ≢ 8 → refusal_on k route row ≡ m → ⊥
  unfolding refusal_on
  on-most some six eight = never (is_within k row) (other-room (λ z. omega (arith, some, z)) (λ z. eight (sym z))) (λ z. six (sym z))

-- ---- a route's row: refused as the route, and then these

module _ (limits : Limits) (closed : Bool) (cs : List ℤ) (w row : ℤ) where
  abbrev d : ℕ
  d = draw_refusal limits closed cs w

  abbrev joins : Joins
  joins = joins_of limits.corner closed cs w

  abbrev on : ℕ
  on = refusal_on limits.corner joins row

  abbrev drawn : Answer
  drawn = board_on joins row

  pub row-six : (row_refusal limits closed cs w row ≡ 6) ↔ ((d ≡ 0) × (Within row limits.corner → ⊥))
  unfolding row_refusal
  row-six = or-after d on (λ e _. draw-most limits closed cs w (omega arith) (λ e. omega arith) e) (on-six limits.corner joins row)

  pub row-eight-exactly : (row_refusal limits closed cs w row ≡ 8) ↔ ((d ≡ 0) × (Within row limits.corner × Crowded (spans_on closed cs w row)))
  unfolding row_refusal
  row-eight-exactly =
      let later = or_later d on {m = 8} (omega arith) (draw-most limits closed cs w (omega arith) (λ e. omega arith)) in
      let eight = on-eight limits.corner joins row in (
        λ e. let z = later.0 e in let h = eight.0 z.1 in (z.0, (h.0, (crowds z.0 h.0).0 h.1)),
        λ h. later.1 (h.0, eight.1 (h.1.0, (crowds h.0 h.1.0).1 h.1.1)),
      )
    where
      crowds : d ≡ 0 → Within row limits.corner → (drawn.refusal ≡ 8) ↔ Crowded (spans_on closed cs w row)
      crowds z inside = let a = (draw-none limits closed cs w).0 z in row-eight limits.corner a.0 ((near-exactly limits closed cs w).1 a.1) row inside

  -- any other number exactly when the route is refused with it: 1 to 4, 12 and 5
  pub row_before : {m : ℕ} → 0 < m → m ≢ 6 → m ≢ 8 → (row_refusal limits closed cs w row ≡ m) ↔ (d ≡ m)
  unfolding row_refusal
  row_before some six eight = or-before d on some (on-most limits.corner joins row some six eight)

  -- not refused: the route is not, the row is inside, and its board has room
  pub row-none : (row_refusal limits closed cs w row ≡ 0) ↔ ((d ≡ 0) × (Within row limits.corner × (drawn.refusal ≡ 0)))
  unfolding row_refusal
  row-none = or-after d on (λ z no. no z) (on_none limits.corner joins row)

  -- with a doubled point 6 and 8 are not asked
  pub doubled-row : Doubled closed cs → row_refusal limits closed cs w row ≡ route_refusal limits.point closed cs w
  unfolding row_refusal
  doubled-row = doubled-later limits closed cs w on

  pub none-reached : row_refusal limits closed cs w row ≡ 0 → drawn.board ≡ board_after limits.corner row (offering (spans_on closed cs w row))
  none-reached e =
      let z = row-none.0 e in
      let a = (draw-none limits closed cs w).0 z.0 in
      row-reached limits.corner a.0 ((near-exactly limits closed cs w).1 a.1) row z.1.0 z.1.1

-- ---- the entry: the same, and 8 as well where the list has fewer than two numbers for each of the final runs

told-number : (b : Board) (len : ℕ) → (told b len).refusal ≡ cond (leb (2 * length (live b)) len) 0 8
unfolding told
told-number b len = by (leb (2 * length (live b)) len)
  where
    by : (t : Bool) → (cond t (listing b) (not_listed 8)).refusal ≡ cond t 0 8
    by true = refl
    by false = refl

pub told_none : (b : Board) (len : ℕ) → ((told b len).refusal ≡ 0) ↔ (2 * length (live b) ≤ len)
told_none b len = rw (told-number b len) (bad-first (leb (2 * length (live b)) len) (leb-iff (2 * length (live b)) len) (λ e. omega arith))

told-eight : (b : Board) (len : ℕ) → ((told b len).refusal ≡ 8) ↔ (2 * length (live b) ≤ len → ⊥)
told-eight b len = rw (told-number b len) (good-first (leb (2 * length (live b)) len) (leb-iff (2 * length (live b)) len) (λ e. omega arith))

-- 0 and 8 are all
pub told-most : (b : Board) (len : ℕ) {m : ℕ} → 0 < m → m ≢ 8 → (told b len).refusal ≡ m → ⊥
told-most b len some eight = rw (told-number b len) (never (leb (2 * length (live b)) len) (λ z. omega (arith, some, z)) (λ z. eight (sym z)))

-- the number of a choice between three answers
chosen-number : (d b m : ℕ) (l : ListingValues) → (cond (eqb d 0) (cond (eqb m 0) l (no_listing m 0)) (no_listing d b)).refusal ≡ or_else (or_else d m) l.refusal
chosen-number d b m l = by (eqb d 0) refl
  where
    second : (u : Bool) → (cond u l (no_listing m 0)).refusal ≡ cond u l.refusal m
    second true = refl
    second false = refl

    by : (t : Bool) → eqb d 0 ≡ t → (cond t (cond (eqb m 0) l (no_listing m 0)) (no_listing d b)).refusal ≡ cond (eqb (cond t m d) 0) l.refusal (cond t m d)
    by true e = second (eqb m 0)
    by false e = rw e

module _ (limits : Limits) (closed : Bool) (cs : List ℤ) (w row : ℤ) (len : ℕ) where
  abbrev r : ℕ
  r = row_refusal limits closed cs w row

  abbrev b : Board
  b = (board_on (joins_of limits.corner closed cs w) row).board

  -- the runs of the row
  abbrev runs : List Run
  runs = live b

  abbrev a : ℕ
  a = (row_answer limits closed cs w row len).refusal

  answer-number : a ≡ or_else r (told b len).refusal
  unfolding row_answer answer_on row_refusal
  answer-number = chosen-number (draw_refusal limits closed cs w) (route_bend limits closed cs w) (refusal_on limits.corner (joins_of limits.corner closed cs w) row) (listing_of (told b len))

  pub answer-none : (a ≡ 0) ↔ ((r ≡ 0) × (2 * length runs ≤ len))
  answer-none = rw answer-number (or-after r (told b len).refusal (λ z no. no z) (told_none b len))

  pub answer-eight : (a ≡ 8) ↔ ((r ≡ 8) ⊎ ((r ≡ 0) × (2 * length runs ≤ len → ⊥)))
  answer-eight = rw (answer-number) (either-by (or-either r (told b len).refusal {m = 8} (omega arith)) (told-eight b len))
    where
      either-by : {P Q R X Y : Type 0} → X ↔ (P ⊎ (Q × Y)) → Y ↔ R → X ↔ (P ⊎ (Q × R))
      either-by f g = (λ x. ⊎_elim (λ p. inl p) (λ q. inr (q.0, g.0 q.1)) (f.0 x), λ y. f.1 (⊎_elim (λ p. inl p) (λ q. inr (q.0, g.1 q.1)) y))

  pub answer-before : {m : ℕ} → 0 < m → m ≢ 8 → (a ≡ m) ↔ (r ≡ m)
  answer-before {m} some eight = rw answer-number (or-before r (told b len).refusal some (told-most b len some eight))
