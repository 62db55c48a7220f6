use Rattle.std.proofs.Common.{◌≡◌, ◌-◌}
use Rattle.whole.specs.Places.{list_from}
use Rattle.route.specs.Joined.{segments_in}
use Rattle.route.specs.Rows.{range_values, with_all, drawn_in, rows_in}
use Rattle.route.proofs.inner.rows_of.Given as goal

-- the rows so far, widened by those that are left, are all rows
abbrev pub invariant-loop-k : goal.invariant-loop-k
invariant-loop-k l = with_all (range_values l.rows) (list_from (drawn_in l.route) l.k (segments_in l.route - l.k)) ≡ rows_in l.route
