use Rattle.std.proofs.Common.{ℕ, ◌+◌, ◌*◌, ◌^◌, ◌<◌, pos, arith}
use lib.Dec.{lt→ltb}
use Rattle.whole.proofs.Machine.{Hold, hold, fits, literal, fits-add, hold-add}
use Rattle.shapes.specs.Limits.{line_limit}
use Rattle.thick_segment.specs.declared.Rows.{Rows}
use Rattle.route.specs.Rows.{range_of, RowsNear, row_count, row_at}
use Rattle.route.proofs.Ranges.{count_small}
use Rattle.route.proofs.inner.row_at.Goals as goal

-- the place of a row, as the machine holds it
place : {rows : Rows} {i : ℕ} → RowsNear line_limit (range_of rows) → i < row_count (range_of rows) → Hold i (pos i) (2 * line_limit + 1)
place {rows} {i} near h = let small = count_small near in record { is = (literal i (lt→ltb i (2 ^ 63) (omega (arith, small, h)))).is; small = record { bound = omega (arith, small, h) } }

pub overflow_cast-result : goal.overflow_cast-result
overflow_cast-result c = fits (2 * line_limit + 1) (place c.requires.rows_near c.requires.i_bound).small tt

pub overflow_add-result : goal.overflow_add-result
overflow_add-result c = fits-add (hold c.requires.rows_near.first_near tt) (place c.requires.rows_near c.requires.i_bound) tt

pub returns : goal.returns
unfolding row_at
returns c = (hold-add (hold c.requires.rows_near.first_near tt) (place c.requires.rows_near c.requires.i_bound) tt).is
