use Rattle.std.proofs.Common.{◌≡◌, ◌-◌, ◌*◌, ◌+ℤ◌}
use Rattle.whole.specs.Number.{Within}
use Rattle.whole.specs.Places.{list_from}
use Rattle.route.specs.Rows.{range_of, row_count, first_of, room_at}
use Rattle.row_text.specs.Pixels.{sum_from, lit_at, lit_in}
use Rattle.row_text.proofs.Laws.{most}
use Rattle.row_text.proofs.inner.print_rows.Given as goal

-- the pixels so far, with those of the rows that are left, are all pixels, and none of the rows that are left is refused
abbrev pub invariant-loop-i : goal.invariant-loop-i
invariant-loop-i l =
    let rows = range_of l.rows in
    let left = row_count rows - l.i in
    record {
      small : Within l.total (most * l.i);
      all : l.total +ℤ sum_from (lit_at l.route rows) l.i left ≡ lit_in l.route rows;
      none : first_of (list_from (room_at l.route rows) l.i left) ≡ 0;
    }
