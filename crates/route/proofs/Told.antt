-- What a route's row leaves in the lent list: not refused, the runs of the union of its segments' spans, with the number of its columns;
-- refused, what was there, and 0 for every other field. Assumes nothing.
use mathlib.Core.Path.{◌≡◌, refl, sym, ap, ◌∙◌}
use mathlib.Core.Logic.{◌≢◌}
use mathlib.Core.Bool.{Bool, true, false, cond}
use mathlib.Core.List.{List}
use Prim.Native.Nat.{ℕ, ◌+◌, ◌*◌, ◌≤◌}
use borrow.Author.Tests.{eq-eqb}
use lib.Dec.{eqb, leb}
use lib.IntN.{ℤ, pos, neg_ℤ}
use lib.ListN.{length}
use Rattle.whole.specs.Number.{Within}
use Rattle.whole.proofs.Columns.{count_same}
use Rattle.shapes.specs.declared.limits.Limits.{Limits}
use Rattle.board.specs.declared.Board.{Board}
use Rattle.board.specs.Runs.{lit, total}
use Rattle.board.specs.Boards.{Sound, live, listing, not_listed, over, told, told_to, listed, listed_to}
use Rattle.board.proofs.Sound.{sound-iff}
use Rattle.board_laws.specs.Histories.{Event, covered, board_after, runs_after, spans_after, runs_in, columns, Demand3}
use Rattle.board_laws.proofs.Demand.{demand-3}
use Rattle.board_laws.proofs.Refused.{list-zero}
use Rattle.route_joins.specs.Joins.{route_bend}
use Rattle.route_joins.proofs.Near.{joins-exactly}
use Rattle.route.specs.Answers.{ListingValues}
use Rattle.route.specs.Joined.{joins_of}
use Rattle.route.specs.Rows.{board_on}
use Rattle.route.specs.Words.{spans_on, offering, RowTold}
use Rattle.route.specs.Answers.{draw_refusal, refusal_on, row_refusal, no_listing, listing_of, answer_on, list_on, row_answer, row_to}
use Rattle.shapes.proofs.Choices.{or-none}
use Rattle.route.proofs.Drawn.{drawn-sound, row-covered}
use Rattle.route.proofs.Chains.{kept-route}
use Rattle.route.proofs.Refused.{draw-none, row-none, none-reached, answer-none}

-- ---- of a sound board

listed-told : {k : ℕ} {b : Board} (n : ℕ) → Sound k b → listed k b n ≡ told b n
unfolding listed
listed-told {k} {b} n sound = rw ((sound-iff k b).1 sound)

listed-told-to : {k : ℕ} {b : Board} (out : List ℤ) → Sound k b → listed_to k b out ≡ told_to b out
unfolding listed_to
listed-told-to {k} {b} out sound = rw ((sound-iff k b).1 sound)

-- ---- of a row that is not refused

module _ (limits : Limits) (closed : Bool) (cs : List ℤ) (w row : ℤ) (free : row_refusal limits closed cs w row ≡ 0) where
  inside : Within row limits.corner
  inside = ((row-none limits closed cs w row).0 free).1.0

  demand : Demand3 limits.corner row (offering (spans_on closed cs w row))
  demand = demand-3 limits.corner row inside (offering (spans_on closed cs w row))

  -- what the accepted spans cover is what all spans cover
  union : (x : ℤ) → covered (spans_after limits.corner row (offering (spans_on closed cs w row))) x ≡ covered (spans_on closed cs w row) x
  union =
      let z = (row-none limits closed cs w row).0 free in
      let a = (draw-none limits closed cs w).0 z.0 in
      row-covered limits.corner a.0 ((joins-exactly limits.corner closed cs w).1 a.1) row inside z.1.1

  -- the total of its runs is the number of columns that its segments' spans cover
  pub row-columns : total (live (board_on (joins_of limits.corner closed cs w) row).board) ≡ pos (columns limits.corner (covered (spans_on closed cs w row)))
  row-columns =
      ap (λ b. total (live b)) (none-reached limits closed cs w row free) ∙ demand.pixels
      ∙ ap pos (count_same (covered (spans_after limits.corner row (offering (spans_on closed cs w row)))) (covered (spans_on closed cs w row)) (neg_ℤ (pos limits.corner)) (2 * limits.corner + 1) (λ x l. union x))

-- ---- of the lent list

module _ (limits : Limits) (closed : Bool) (cs : List ℤ) (w row : ℤ) (out : List ℤ) where
  abbrev k : ℕ
  k = limits.corner

  abbrev d : ℕ
  d = draw_refusal limits closed cs w

  abbrev on : ℕ
  on = refusal_on k (joins_of k closed cs w) row

  abbrev drawn : Board
  drawn = (board_on (joins_of k closed cs w) row).board

  abbrev history : List Event
  history = offering (spans_on closed cs w row)

  abbrev b : Board
  b = board_after k row history

  -- ---- not refused

  module _ (e : (row_answer limits closed cs w row (length out)).refusal ≡ 0) where
    none : (row_refusal limits closed cs w row ≡ 0) × (2 * length (live drawn) ≤ length out)
    none = (answer-none limits closed cs w row (length out)).0 e

    parts : (d ≡ 0) × (on ≡ 0)
    unfolding row_refusal
    parts = (or-none d on).0 none.0

    sound : Sound k drawn
    sound = let z = (row-none limits closed cs w row).0 none.0 in drawn-sound (kept-route limits closed cs w z.0) z.1.0

    same : drawn ≡ b
    same = none-reached limits closed cs w row none.0

    answer-is : row_answer limits closed cs w row (length out) ≡ listing_of (listed k b (length out))
    unfolding row_answer answer_on
    answer-is = rw (eq-eqb d 0 parts.0, eq-eqb on 0 parts.1) (ap listing_of (sym (listed-told (length out) sound) ∙ ap (λ c. listed k c (length out)) same))

    list-is : row_to limits closed cs w row out ≡ listed_to k b out
    unfolding row_to list_on
    list-is = rw (eq-eqb d 0 parts.0, eq-eqb on 0 parts.1) (sym (listed-told-to out sound) ∙ ap (λ c. listed_to k c out) same)

    pub row_told : RowTold limits closed cs w row out
    row_told =
        let demand = demand limits closed cs w row none.0 in
        let room = (list-zero k b (length out)).1 (rw same at sound, rw same at none.1) in
        let written : runs_in (row_answer limits closed cs w row (length out)).count (row_to limits closed cs w row out) ≡ runs_after k row history = rw (answer-is, list-is) (demand.written out room) in
        let count = ap (λ l. l.count) answer-is ∙ demand.counted out room in
        record {
          counted = count ∙ ap length (sym written);
          beyond = rw (count, list-is) (demand.beyond out);
          lights = λ x. ap (λ rs. lit rs x) written ∙ demand.exact x ∙ union limits closed cs w row none.0 x;
          apart = rw written demand.apart;
          pixels = ap (λ l. l.total) answer-is ∙ demand.summed out room ∙ ap total (demand.written out room) ∙ ap (λ c. total (live c)) (sym same) ∙ row-columns limits closed cs w row none.0;
        }

  -- ---- refused

  abbrev answer : ListingValues
  answer = row_answer limits closed cs w row (length out)

  told-refused : (t : Bool) → let a = listing_of (cond t (listing drawn) (not_listed 8)) in a.refusal ≢ 0 → (a ≡ no_listing a.refusal a.bend) × (cond t (over out (live drawn)) out ≡ out)
  told-refused true some = absurd (some refl)
  told-refused false some = (refl, refl)

  -- the number and what comes with 5 alone, and the list as it was
  pub row-refused : answer.refusal ≢ 0 → (answer ≡ no_listing answer.refusal answer.bend) × (row_to limits closed cs w row out ≡ out)
  unfolding row_answer row_to answer_on list_on told told_to
  row-refused = by (eqb d 0) (eqb on 0)
    where
      by : (t u : Bool) → let a = cond t (cond u (listing_of (told drawn (length out))) (no_listing on 0)) (no_listing d (route_bend limits closed cs w)) in
          a.refusal ≢ 0 → (a ≡ no_listing a.refusal a.bend) × (cond t (cond u (told_to drawn out) out) out ≡ out)
      by true true some = told-refused (leb (2 * length (live drawn)) (length out)) some
      by true false some = (refl, refl)
      by false u some = (refl, refl)
