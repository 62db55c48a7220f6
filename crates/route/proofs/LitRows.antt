-- Which rows of a route are lit: none outside its rows, and its first and its last are. Assumes nothing.
use mathlib.Core.Path.{◌≡◌, refl, ap, ◌∙◌}
use mathlib.Core.Bool.{Bool, true, false, ◌&&◌}
use mathlib.Core.List.{List, []}
use Prim.Native.Nat.{ℕ, zero, suc, ◌+◌, ◌<◌}
use native.Mathlib.Nat.{zero-add}
use native.Mathlib.Omega.{arith}
use borrow.Author.Tests.{le-leb}
use lib.IntN.{ℤ, pos}
use lib.ListN.{length}
use lib.Signed.{le_z, ◌≤ℤ◌}
use Rattle.whole.specs.Number.{Within}
use Rattle.whole.specs.Columns.{between}
use Rattle.whole.specs.Places.{list_from}
use Rattle.whole.proofs.Columns.{between-yes}
use Rattle.whole.proofs.Laws.{within-true}
use Rattle.whole.proofs.Orders.{ordered}
use Rattle.whole.proofs.Tests.{and-iff, clash, else-true, le_iff, or-second}
use Rattle.shapes.specs.declared.limits.Limits.{Limits}
use Rattle.shapes.specs.declared.Span.{Span}
use Rattle.shapes.specs.Shape.{point_of}
use Rattle.shapes.specs.Spans.{is_empty}
use Rattle.thick_segment.specs.Segments.{span_on}
use Rattle.thick_segment.specs.declared.Rows.{Rows}
use Rattle.thick_segment.specs.Rows.{drawn_rows}
use Rattle.thick_segment.specs.Words.{HasRow, Holds}
use Rattle.thick_segment.proofs.Laws.{span-ends}
use Rattle.thick_segment.proofs.Lit.{holds_row, point-row, ends-lit, row-dark, row-bright}
use Rattle.board.specs.declared.Board.{Board}
use Rattle.board.specs.Runs.{lit, total, flat}
use Rattle.board.specs.Boards.{board_of, answer_of, told, told_to, over}
use Rattle.board_laws.specs.Histories.{covered, runs_in}
use Rattle.board_laws.proofs.Offers.{live_of}
use Rattle.route_joins.specs.Joins.{segment_at, segment_count}
use Rattle.route_joins.proofs.Near.{joins-exactly}
use Rattle.route.specs.Rows.{RowRange}
use Rattle.route.specs.Joined.{joins_of}
use Rattle.route.specs.Rows.{ends, offer_all, board_on}
use Rattle.route.specs.Words.{spans_on, Inside, Drawn}
use Rattle.route.specs.Answers.{draw_refusal, rows_answer, no_listing, listing_of, refusal_on, answer_on, list_on, row_answer, row_to}
use Rattle.route.proofs.AllRows.{rows-bounds}
use Rattle.route.proofs.Drawn.{row-draws}
use Rattle.route.proofs.Offers.{offer-none, offer-empty}
use Rattle.route.proofs.Refused.{draw-none}
use Rattle.route.proofs.Told.{row_told}

-- spans that are all empty light nothing
none-offered : (b : Board) (at : ℕ → Span) (left i : ℕ) → ((d : ℕ) → d < left → is_empty (at (i + d)) ≡ true) → offer_all b (list_from at i left) ≡ answer_of 0 b
unfolding list_from
none-offered b at zero i all = offer-none b
none-offered b at (suc left) i all =
    let here : i + 0 ≡ i = omega arith in
    offer-empty b (at i) (list_from at (suc i) left) (rw here at (all 0 (omega arith)))
    ∙ none-offered b at left (suc i) (λ d h. let on : suc i + d ≡ i + suc d = omega arith in rw on (all (suc d) (omega arith)))

-- a fresh board has no run to list
fresh-listed : (row : ℤ) (out : List ℤ) → (told (board_of row []) (length out) ≡ record { refusal = 0; count = 0; total = pos 0 }) × (told_to (board_of row []) out ≡ out)
unfolding told told_to over total flat
fresh-listed row out = (rw (live_of row [], le-leb 0 (length out) (omega arith)), rw (live_of row [], le-leb 0 (length out) (omega arith)))

-- a span that is not empty covers its first column
first-between : (t : Span) → is_empty t ≡ false → between t.start t.end t.start ≡ true
unfolding is_empty
first-between t e = between-yes t.start t.end t.start (omega ordered) (omega ordered)

first-covered : (at : ℕ → Span) (n i d : ℕ) → d < n → is_empty (at (i + d)) ≡ false → covered (list_from at i n) (at (i + d)).start ≡ true
unfolding list_from covered
first-covered at zero i d h e = absurd (omega arith)
first-covered at (suc n) i zero h e = let here : i + 0 ≡ i = omega arith in rw (here, first-between (at i) (rw here at e))
first-covered at (suc n) i (suc d) h e =
    let on : i + suc d ≡ suc i + d = omega arith in
    or-second (between (at i).start (at i).end (at (i + suc d)).start) (covered (list_from at (suc i) n) (at (i + suc d)).start) (rw on (first-covered at n (suc i) d (omega arith) (rw on at e)))

-- ---- a row has a drawn point exactly where some segment has a column on it

module _ {closed : Bool} {cs : List ℤ} {w row : ℤ} where
  pub drawn-lit : (d : Drawn closed cs w row) → is_empty (span_on (segment_at closed cs w d.place) row) ≡ false
  drawn-lit d = row-bright (segment_at closed cs w d.place) row d.lit

  pub lit-drawn : (i : ℕ) → i < segment_count closed cs → is_empty (span_on (segment_at closed cs w i) row) ≡ false → Drawn closed cs w row
  lit-drawn i h some =
      let s = segment_at closed cs w i in
      record { place = i; placed = h; lit = record { point = point_of (span_on s row).start row; among = (span-ends s row some).0; on_row = refl } }

-- where it does the entry lists a run, unless the row is refused
module _ (limits : Limits) (closed : Bool) (cs : List ℤ) (w row : ℤ) (out : List ℤ) (free : (row_answer limits closed cs w row (length out)).refusal ≡ 0) where
  pub drawn-listed : Drawn closed cs w row → 0 < (row_answer limits closed cs w row (length out)).count
  unfolding spans_on runs_in lit
  drawn-listed d = by (row_answer limits closed cs w row (length out)).count refl
    where
      column : ℤ
      column = (span_on (segment_at closed cs w d.place) row).start

      bright : lit (runs_in (row_answer limits closed cs w row (length out)).count (row_to limits closed cs w row out)) column ≡ true
      bright =
          (row_told limits closed cs w row out free).lights column
          ∙ rw (zero-add d.place) at (first-covered (λ k. span_on (segment_at closed cs w k) row) (segment_count closed cs) 0 d.place d.placed (rw (zero-add d.place) (drawn-lit d)))

      by : (n : ℕ) → (row_answer limits closed cs w row (length out)).count ≡ n → 0 < n
      by zero e = absurd (clash (rw e at bright) refl)
      by (suc n) e = omega arith

-- ---- the rows of a route that nothing refuses

module _ (limits : Limits) (closed : Bool) (cs : List ℤ) (w : ℤ) (free : draw_refusal limits closed cs w ≡ 0) where
  abbrev rows : RowRange
  rows = rows_answer limits closed cs w

  -- the rows of each segment are among them
  segment-inside : {i : ℕ} {row : ℤ} → i < segment_count closed cs → HasRow (drawn_rows (segment_at closed cs w i)) row → Inside rows row
  segment-inside {i} h on = let b = rows-bounds limits closed cs w free (omega (arith, h)) in record { some = b.some; among = holds_row (b.holds i h) on }

  -- wherever a drawn line has a point, the row is one of them
  pub drawn-inside : {row : ℤ} → Drawn closed cs w row → Inside rows row
  drawn-inside d = segment-inside d.placed (rw d.lit.on_row at (point-row (segment_at closed cs w d.place) d.lit.among))

  -- the first and the last have one
  module _ (some : 0 < segment_count closed cs) where
    pub first-drawn : Drawn closed cs w rows.first
    first-drawn =
        let m = (rows-bounds limits closed cs w free some).first-met in
        record { place = m.at; placed = m.inside; lit = rw (m.is, zero-add m.at) (ends-lit (segment_at closed cs w m.at)).first_lit }

    pub last-drawn : Drawn closed cs w rows.last
    last-drawn =
        let m = (rows-bounds limits closed cs w free some).last-met in
        record { place = m.at; placed = m.inside; lit = rw (m.is, zero-add m.at) (ends-lit (segment_at closed cs w m.at)).last_lit }

    -- so they are the least: others outside of which no segment has a column begin no later, and end no earlier
    pub rows-least : (r : Rows) → ((row : ℤ) → (HasRow r row → ⊥) → (i : ℕ) → i < segment_count closed cs → is_empty (span_on (segment_at closed cs w i) row) ≡ true) → Holds r (ends rows)
    rows-least r dark = record { from = (between first-drawn).0; to = (between last-drawn).1 }
      where
        between : {row : ℤ} → Drawn closed cs w row → (r.first ≤ℤ row) × (row ≤ℤ r.last)
        between {row} d =
            let test = and-iff (le_z r.first row) (le_z row r.last) (le_iff r.first row) (le_iff row r.last) in
            test.0 (else-true (le_z r.first row && le_z row r.last) (λ out. clash (dark row (λ on. clash (test.1 (on.from, on.to)) out) d.place d.placed) (drawn-lit d)))

  -- ---- a row that is none of them

  module _ {row : ℤ} (off : Inside rows row → ⊥) where
    -- no segment has a column there
    pub outside-empty : {i : ℕ} → i < segment_count closed cs → is_empty (span_on (segment_at closed cs w i) row) ≡ true
    outside-empty {i} h = row-dark (segment_at closed cs w i) row (λ on. off (segment-inside h on))

    -- so its board is the fresh one
    pub outside-board : board_on (joins_of limits.corner closed cs w) row ≡ answer_of 0 (board_of row [])
    unfolding spans_on
    outside-board =
        let a = (draw-none limits closed cs w).0 free in
        row-draws limits.corner a.0 ((joins-exactly limits.corner closed cs w).1 a.1) row
        ∙ none-offered (board_of row []) (λ k. span_on (segment_at closed cs w k) row) (segment_count closed cs) 0 (λ d h. rw (zero-add d) (outside-empty h))

    -- and the entry lists no run, whatever list is lent
    pub outside-listed : Within row limits.corner → (out : List ℤ) → (row_answer limits closed cs w row (length out) ≡ no_listing 0 0) × (row_to limits closed cs w row out ≡ out)
    unfolding row_answer row_to answer_on list_on refusal_on
    outside-listed inside out =
        let fresh = fresh-listed row out in
        (rw (free, within-true inside, outside-board) (ap listing_of fresh.0), rw (free, within-true inside, outside-board) fresh.1)
