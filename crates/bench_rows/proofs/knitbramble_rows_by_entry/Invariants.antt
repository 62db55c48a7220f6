use Rattle.std.proofs.Common.{◌≡◌, length}
use Rattle.shapes.specs.Limits.{panel}
use Rattle.route.specs.Answers.{listing_values}
use Rattle.bench_rows.proofs.Laws.{Left}
use Rattle.bench_rows.proofs.knitbramble_rows_by_entry.Given as goal

-- the rows that are left leave what all leave
abbrev pub invariant-loop-row : goal.invariant-loop-row
invariant-loop-row l =
    record { long : length l.out ≡ length l.initial.out; left : Left panel l.closed l.coordinates l.width l.rows l.initial.out l.row-index (listing_values l.last) l.out }
