use Rattle.std.proofs.Common.{◌≡◌, ◌-◌}
use Rattle.whole.specs.Places.{list_from}
use Rattle.route.specs.Rows.{range_of, row_count, first_of, room_at, rows_refusal}
use Rattle.route.proofs.inner.check_rows.Given as goal

-- the rows that are left are refused with what all are
abbrev pub invariant-loop-i : goal.invariant-loop-i
invariant-loop-i l = first_of (list_from (room_at l.route (range_of l.rows)) l.i (row_count (range_of l.rows) - l.i)) ≡ rows_refusal l.route (range_of l.rows)
