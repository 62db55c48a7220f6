use Rattle.std.proofs.Common.{◌≡◌, ◌-◌, ◌≤◌}
use Rattle.whole.specs.Places.{list_from}
use Rattle.shapes.specs.Limits.{board_runs}
use Rattle.route.specs.Joined.{segments_in}
use Rattle.route.specs.Rows.{span_in, offer_all, board_on}
use Rattle.route.proofs.inner.row_board.Given as goal

-- the spans that are left, offered to the board so far, give what all give to a fresh board
abbrev pub invariant-loop-k : goal.invariant-loop-k
invariant-loop-k l =
    record {
      few : l.board.count ≤ board_runs;
      on : offer_all l.board (list_from (span_in l.route l.row) l.k (segments_in l.route - l.k)) ≡ board_on l.route l.row;
    }
