use Rattle.std.proofs.Common.{◌≡◌, ℕ, ◌+◌, ◌*◌, ◌-◌, ◌<◌, refl, sym, ap, ◌∙◌, arith, rules, to_z, w64}
use mir.Facts.{to_z-of_z}
use Rattle.whole.specs.Places.{list_from}
use Rattle.whole.proofs.Places.{list-next}
use Rattle.whole.proofs.Bounds.{within_more, within-add}
use Rattle.whole.proofs.Machine.{Hold, hold-as, hold-add, fits-add}
use Rattle.shapes.proofs.Choices.{or-none}
use Rattle.route.specs.declared.Joins.{Joins}
use Rattle.route.specs.Rows.{RowRange, range_of, board_on, row_count, first_of, room_at, rows_refusal}
use Rattle.route.proofs.Ranges.{count_small, row_within}
use Rattle.row_text.specs.Pixels.{sum_from, lit_on, lit_at, lit_in}
use Rattle.row_text.proofs.Sums.{sum-begun, sum-turn, sum_done}
use Rattle.row_text.proofs.Laws.{most, place-pixels}
use Rattle.row_text.proofs.inner.print_rows.Goals as goal

-- the row at a place is not refused, nor is one of those after it
none-refused : (route : Joins) (rows : RowRange) (i : ℕ) → i < row_count rows → first_of (list_from (room_at route rows) i (row_count rows - i)) ≡ 0
    → (room_at route rows i ≡ 0) × (first_of (list_from (room_at route rows) (i + 1) (row_count rows - (i + 1))) ≡ 0)
unfolding first_of
none-refused route rows i h none =
    (or-none (room_at route rows i) (first_of (list_from (room_at route rows) (i + 1) (row_count rows - (i + 1))))).0
    (ap first_of (sym (list-next (room_at route rows) (row_count rows) i h)) ∙ none)

pub returns-in_default : goal.returns-in_default
unfolding lit_in row_count sum_from
returns-in_default c = rw c.in_default.is

pub loop-i-init : goal.loop-i-init
unfolding lit_in rows_refusal
loop-i-init c =
    let rows = range_of c.in-Some.rows in
    let all : row_count rows - 0 ≡ row_count rows = omega arith in
    record {
      small = record { bound = omega arith };
      all = sum-begun (lit_at c.args.route.now rows) (row_count rows);
      none = rw (c.in-Some.is, ← all) at c.requires.rows_value;
    }

pub print_row-total-requires-clause-within : goal.print_row-total-requires-clause-within
print_row-total-requires-clause-within c =
    let at = to_z-of_z {w = w64} {z = c.row_at-row.result} (search rules) ∙ c.row_at-row.ensures in
    rw at (row_within (rw c.in-Some.is at c.requires.rows_near) (omega arith))

pub print_row-total-requires-clause-row_value : goal.print_row-total-requires-clause-row_value
print_row-total-requires-clause-row_value c =
    let at = to_z-of_z {w = w64} {z = c.row_at-row.result} (search rules) ∙ c.row_at-row.ensures in
    ap (λ y. (board_on c.args.route.now y).refusal) at ∙ (none-refused c.args.route.now (range_of c.in-Some.rows) c.loop-i.i (omega arith) c.loop-i.invariant.none).0

pub overflow_add-total : goal.overflow_add-total
unfolding lit_at
overflow_add-total c =
    let at = to_z-of_z {w = w64} {z = c.row_at-row.result} (search rules) ∙ c.row_at-row.ensures in
    let near = rw c.in-Some.is at c.requires.rows_near in
    let more : c.loop-i.i < row_count (range_of c.in-Some.rows) = omega arith in
    let few : c.loop-i.i < most = omega (arith, more, count_small near) in
    let sum : Hold c.loop-i.total-bits (to_z w64 c.loop-i.total-bits) (most * most) = record { is = refl; small = within_more c.loop-i.invariant.small (omega (arith, few)) } in
    fits-add sum (hold-as (c.print_row-total.ensures ∙ ap (lit_on c.args.route.now) at) (place-pixels c.requires.kept near more) tt) tt

pub loop-i-preserved : goal.loop-i-preserved
unfolding lit_at
loop-i-preserved c =
    let rows = range_of c.in-Some.rows in
    let at = to_z-of_z {w = w64} {z = c.row_at-row.result} (search rules) ∙ c.row_at-row.ensures in
    let near = rw c.in-Some.is at c.requires.rows_near in
    let more : c.loop-i.i < row_count rows = omega arith in
    let few : c.loop-i.i < most = omega (arith, more, count_small near) in
    let sum : Hold c.loop-i.total-bits (to_z w64 c.loop-i.total-bits) (most * most) = record { is = refl; small = within_more c.loop-i.invariant.small (omega (arith, few)) } in
    let pixels = hold-as (c.print_row-total.ensures ∙ ap (lit_on c.args.route.now) at) (place-pixels c.requires.kept near more) tt in
    let next = (hold-add sum pixels tt).is in
    record {
      small = rw next (within_more (within-add c.loop-i.invariant.small pixels.small) (omega arith));
      all = rw next (sum-turn (lit_at c.args.route.now rows) (to_z w64 c.loop-i.total-bits) _ (row_count rows) c.loop-i.i c.loop-i.invariant.all more);
      none = (none-refused c.args.route.now rows c.loop-i.i more c.loop-i.invariant.none).1;
    }

pub returns : goal.returns
returns c =
    let rows = range_of c.in-Some.rows in
    rw c.in-Some.is (sum_done (lit_at c.args.route.now rows) (to_z w64 c.loop-i.total-bits) _ (row_count rows) c.loop-i.i c.loop-i.invariant.all (omega arith))
