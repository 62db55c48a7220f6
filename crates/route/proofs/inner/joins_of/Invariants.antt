use Rattle.std.proofs.Common.{◌≡◌, ◌≤◌}
use Rattle.whole.specs.Places.{list_from}
use Rattle.whole.proofs.Places.{Counted}
use Rattle.line_join.specs.Caps.{is_join_near}
use Rattle.board.proofs.Arrays.{partly}
use Rattle.route_joins.specs.Joins.{join_at, join_count, near_joins}
use Rattle.route.specs.Joined.{no_join}
use Rattle.route.proofs.inner.joins_of.Given as goal

-- the array holds the joins so far; those counted so far, with those that are left, come to the number of all
abbrev pub invariant-loop-i : goal.invariant-loop-i
invariant-loop-i l =
    record {
      all : l.count ≡ join_count l.coordinates;
      held : l.joins ≡ partly 256 no_join (list_from (join_at l.closed l.coordinates l.width) 0 l.count) l.i;
      most : l.near ≤ l.i;
      counted : Counted (λ j. is_join_near l.limit (join_at l.closed l.coordinates l.width j)) l.count l.near l.i ≡ near_joins l.limit l.closed l.coordinates l.width;
    }
