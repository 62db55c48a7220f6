use Rattle.std.proofs.Common.{◌≡◌, ℕ, ℤ, ◌-◌, ◌+◌, ◌≤◌, ◌<◌, ◌∷◌, List, true, sym, ap, ◌∙◌, arith, to_z, of_z, w64}
use mathlib.Core.Logic.{⊎_elim}
use lib.Dec.{lit≤}
use mir.Facts.{to_z-of_z}
use Rattle.whole.specs.Places.{list_from}
use Rattle.whole.proofs.Places.{list-end, list-next}
use Rattle.shapes.specs.declared.Span.{Span}
use Rattle.shapes.specs.declared.refusals.Refusal.{Refusal}
use Rattle.shapes.specs.Refusals.{number_of, room_refused}
use Rattle.shapes.specs.Limits.{board_runs}
use Rattle.shapes.specs.Spans.{is_empty}
use Rattle.board.specs.declared.Board.{Board}
use Rattle.board.specs.Boards.{Answer, answer_of, added, board_of}
use Rattle.route.specs.declared.Joins.{Joins}
use Rattle.route.specs.Joined.{segments_in}
use Rattle.route.specs.Rows.{span_in, offer_all, board_on}
use Rattle.board_laws.proofs.Offers.{added-either}
use Rattle.route.proofs.Kept.{segment-near}
use Rattle.route.proofs.Offers.{added-few, offer-none, offer-on, offer-stop, offer-empty}
use Rattle.shapes.proofs.Numbers.{number-some}
use Rattle.route.proofs.inner.row_board.Goals as goal
use Rattle.route.proofs.inner.row_board.Goals.{then-not-is_empty+in-Ok, else-not-is_empty}

-- the board so far; the spans that are left, offered to it, give what all give
record Goes (rest : List Span) (all : Answer) (b : Board) : Type 0 where
  few : b.count ≤ board_runs
  on : offer_all b rest ≡ all

-- a span offered to it
module _ (b : Board) (s : Span) (rest : List Span) (all : Answer) (held : Goes (s ∷ rest) all b) where
  passed-over : is_empty s ≡ true → Goes rest all b
  passed-over e = record { few = held.few; on = sym (offer-empty b s rest e) ∙ held.on }

  taken : (c : Board) → answer_of 0 c ≡ added b s → Goes rest all c
  taken c e =
      let is : c ≡ (added b s).board = ap (λ a. a.board) e in
      rw is (record { few = added-few b s held.few; on = sym (offer-on b s rest (sym (ap (λ a. a.refusal) e))) ∙ held.on })

  -- the span is refused with 8
  full : (c : Board) (r : Refusal) → answer_of (number_of r) c ≡ added b s → number_of r ≡ room_refused
  full c r e = ⊎_elim (λ z. absurd (number-some r (ap (λ a. a.refusal) e ∙ z))) (λ z. ap (λ a. a.refusal) e ∙ ap (λ a. a.refusal) z) (added-either b s)

  stopped : (c : Board) (r : Refusal) → answer_of (number_of r) c ≡ added b s → answer_of room_refused c ≡ all
  stopped c r e =
      ap (λ n. answer_of n c) (sym (full c r e)) ∙ e ∙ sym (offer-stop b s rest (λ z. number-some r (ap (λ a. a.refusal) e ∙ z))) ∙ held.on

-- the spans that are left begin with that of the place
begun : (route : Joins) (row : ℤ) (k : ℕ) (b : Board) → k < segments_in route → b.count ≤ board_runs
    → offer_all b (list_from (span_in route row) k (segments_in route - k)) ≡ board_on route row
    → Goes (span_in route row k ∷ list_from (span_in route row) (k + 1) (segments_in route - (k + 1))) (board_on route row) b
begun route row k b h few on = record { few = few; on = ap (offer_all b) (sym (list-next (span_in route row) (segments_in route) k h)) ∙ on }

pub loop-k-init : goal.loop-k-init
unfolding board_on board_of
loop-k-init c =
    let all : segments_in c.args.route.now - 0 ≡ segments_in c.args.route.now = omega arith in
    record { few = rw c.empty_board-board.ensures (lit≤ tt); on = rw (c.empty_board-board.ensures, all) }

pub span-lit-requires : goal.span-lit-requires
span-lit-requires c = rw c.segment.ensures (segment-near c.requires (omega arith))

pub returns-in_default : goal.returns-in_default
returns-in_default c =
    let held = begun c.args.route.now (to_z w64 (of_z w64 c.args.row)) c.loop-k.k c.loop-k.board (omega arith) c.loop-k.invariant.few c.loop-k.invariant.on in
    let e = rw (c.span-lit.ensures, c.segment.ensures) at c.in_default.ensures in
    rw (to_z-of_z c.ranges.row) at (stopped _ _ _ _ held _ _ e)

pub loop-k-preserved : goal.loop-k-preserved
loop-k-preserved c =
    let held = begun c.args.route.now (to_z w64 (of_z w64 c.args.row)) c.loop-k.k c.loop-k.board (omega arith) c.loop-k.invariant.few c.loop-k.invariant.on in
    elim c.if-not-is_empty.branch [
      | then-not-is_empty+in-Ok w ↦
          let e = rw (c.span-lit.ensures, c.segment.ensures) at w.in-Ok.ensures in
          let g = taken _ _ _ _ held _ e in
          rw w.board-is (record { few = g.few; on = g.on })
      | else-not-is_empty w ↦
          let e = rw (c.span-lit.ensures, c.segment.ensures) at c.is_empty.ensures in
          let g = passed-over _ _ _ _ held (sym e ∙ w.if-not-is_empty.false) in
          rw w.board-is (record { few = g.few; on = g.on })
    ]

pub returns : goal.returns
returns c =
    let lit-at = span_in c.args.route.now (to_z w64 (of_z w64 c.args.row)) in
    sym (ap (offer_all c.loop-k.board) (list-end lit-at (segments_in c.args.route.now) c.loop-k.k (omega arith)) ∙ offer-none c.loop-k.board) ∙ c.loop-k.invariant.on
    ∙ ap (board_on c.args.route.now) (to_z-of_z c.ranges.row)
