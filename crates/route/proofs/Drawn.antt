-- A row of a route that nothing refuses, drawn of its kept joins, offers the span of each segment in walk order. Assumes nothing.
use mathlib.Core.Path.{◌≡◌, sym, ap, ◌∙◌}
use mathlib.Core.Logic.{◌↔◌, ◌⊎◌}
use mathlib.Core.Bool.{Bool, true}
use mathlib.Core.List.{List, []}
use Prim.Native.Nat.{ℕ}
use native.Mathlib.Nat.{zero-add}
use lib.IntN.{ℤ}
use Rattle.whole.specs.Number.{Within}
use Rattle.whole.specs.Places.{list_from}
use Rattle.thick_segment.specs.declared.Segment.{Segment}
use Rattle.thick_segment.specs.Segments.{SegmentNear, span_on}
use Rattle.thick_segment.proofs.Laws.{span-least, span-sound}
use Rattle.board.specs.Boards.{Answer, Sound, board_of}
use Rattle.board_laws.specs.Histories.{covered, board_after, spans_after}
use Rattle.board_laws.specs.Offers.{Proper}
use Rattle.coordinates.specs.Points.{segments_of}
use Rattle.coordinates.specs.Refusal.{Accepted}
use Rattle.route_joins.specs.Joins.{join_count, segment_at, are_joins_near}
use Rattle.route.specs.declared.Joins.{Joins}
use Rattle.route.specs.Joined.{Kept, joins_of, segments_in}
use Rattle.route.specs.Rows.{offer_all, span_in, board_on}
use Rattle.route.specs.Words.{spans_on, offering, Crowded}
use Rattle.whole.proofs.Lists.{list_same}
use Rattle.route.proofs.Kept.{segment-near, segments-all, segment-is, kept-joins}
use Rattle.route.proofs.Offers.{AllFit, fit-list, board-is, covered-is, eight-exactly, all-or-full, all_sound}

-- a segment's span on a row may be offered to a board of the row
span-proper : {k : ℕ} {s : Segment} (row : ℤ) → SegmentNear k s → Proper k row (span_on s row)
span-proper {s} row near = record { same_row = (span-least s row).row; inside = span-sound s row near }

-- ---- of joins that are kept

spans_fit : {k : ℕ} {route : Joins} (row : ℤ) → Kept k route → AllFit k row (list_from (span_in route row) 0 (segments_in route))
spans_fit {route} row kept = fit-list (span_in route row) (segments_in route) 0 (λ d h. rw (zero-add d) (span-proper row (segment-near kept h)))

-- the board is sound, refused or not
pub drawn-sound : {k : ℕ} {route : Joins} {row : ℤ} → Kept k route → Within row k → Sound k (board_on route row).board
unfolding board_on
drawn-sound {k} {route} {row} kept near = all_sound k row near (list_from (span_in route row) 0 (segments_in route)) (spans_fit row kept)

pub room-or-full : (route : Joins) (row : ℤ) → ((board_on route row).refusal ≡ 0) ⊎ ((board_on route row).refusal ≡ 8)
unfolding board_on
room-or-full route row = all-or-full (board_of row []) (list_from (span_in route row) 0 (segments_in route))

-- ---- of a route that nothing refuses

module _ (k : ℕ) {j : ℕ} {closed : Bool} {cs : List ℤ} {w : ℤ} (a : Accepted j closed cs w) (near : are_joins_near k closed cs w ≡ true) (row : ℤ) where
  abbrev drawn : Answer
  drawn = board_on (joins_of k closed cs w) row

  spans-are : list_from (span_in (joins_of k closed cs w) row) 0 (segments_of closed (join_count cs)) ≡ spans_on closed cs w row
  unfolding spans_on
  spans-are =
      list_same (span_in (joins_of k closed cs w) row) (λ i. span_on (segment_at closed cs w i) row) (segments_of closed (join_count cs)) (λ i h. ap (λ s. span_on s row) (segment-is k closed cs w h))
      ∙ ap (list_from (λ i. span_on (segment_at closed cs w i) row) 0) (segments-all a)

  -- the board of the row is that of the spans of the walk's segments, offered in walk order to a fresh board
  pub row-draws : drawn ≡ offer_all (board_of row []) (spans_on closed cs w row)
  unfolding board_on joins_of
  row-draws = ap (offer_all (board_of row [])) spans-are

  walk-fit : AllFit k row (spans_on closed cs w row)
  unfolding joins_of
  walk-fit = rw (sym spans-are) (spans_fit row (kept-joins k closed cs w a.few near))

  module _ (inside : Within row k) where
    -- where there is room, the board is the one that the history of these offers comes to, and they are the spans that it accepted
    module _ (e : drawn.refusal ≡ 0) where
      room : (offer_all (board_of row []) (spans_on closed cs w row)).refusal ≡ 0
      room = ap (λ b. b.refusal) (sym row-draws) ∙ e

      pub row-reached : drawn.board ≡ board_after k row (offering (spans_on closed cs w row))
      row-reached = ap (λ b. b.board) row-draws ∙ board-is k row inside (spans_on closed cs w row) walk-fit room

      pub row-covered : (x : ℤ) → covered (spans_after k row (offering (spans_on closed cs w row))) x ≡ covered (spans_on closed cs w row) x
      row-covered = covered-is k row inside (spans_on closed cs w row) walk-fit room

    -- 8 exactly when after some segment the union needs more than 32 runs
    pub row-eight : (drawn.refusal ≡ 8) ↔ Crowded (spans_on closed cs w row)
    row-eight =
        let same = ap (λ b. b.refusal) row-draws in
        let exactly = eight-exactly k row inside (spans_on closed cs w row) walk-fit in
        (λ e. exactly.0 (sym same ∙ e), λ c. same ∙ exactly.1 c)
