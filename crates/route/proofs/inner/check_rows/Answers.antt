use Rattle.std.proofs.Common.{◌≡◌, ℕ, ◌+◌, ◌-◌, ◌<◌, ◌≢◌, sym, ap, ◌∙◌, arith, w64, rules}
use mir.Facts.{to_z-of_z}
use Rattle.std.proofs.lemmas.Result.{err_from_is_err_and}
use Rattle.whole.specs.Places.{list_from}
use Rattle.whole.proofs.Places.{list-end, list-next}
use Rattle.shapes.specs.Refusals.{or_else}
use Rattle.shapes.proofs.Choices.{or-free, or-stopped}
use Rattle.route.specs.declared.Joins.{Joins}
use Rattle.route.specs.Rows.{RowRange, range_of, board_on, row_count, first_of, room_at, rows_refusal}
use Rattle.shapes.specs.declared.refusals.Refusal.TheVariants.{Room}
use Rattle.shapes.proofs.Numbers.{number-some}
use Rattle.route.proofs.inner.check_rows.Goals as goal

-- the row at a place, and those that are left after it
module _ (route : Joins) (rows : RowRange) (i : ℕ) (h : i < row_count rows) (all : first_of (list_from (room_at route rows) i (row_count rows - i)) ≡ rows_refusal route rows) where
  left : or_else (room_at route rows i) (first_of (list_from (room_at route rows) (i + 1) (row_count rows - (i + 1)))) ≡ rows_refusal route rows
  unfolding first_of
  left = ap first_of (sym (list-next (room_at route rows) (row_count rows) i h)) ∙ all

  stops : {m : ℕ} → m ≢ 0 → m ≡ room_at route rows i → m ≡ rows_refusal route rows
  stops some e = e ∙ sym (or-stopped _ _ (λ z. some (e ∙ z))) ∙ left

  goes : 0 ≡ room_at route rows i → first_of (list_from (room_at route rows) (i + 1) (row_count rows - (i + 1))) ≡ rows_refusal route rows
  goes e = sym (or-free _ _ (sym e)) ∙ left

pub returns-in_default-clause-number : goal.returns-in_default-clause-number
unfolding rows_refusal row_count first_of list_from
returns-in_default-clause-number c = rw c.in_default.is

pub loop-i-init : goal.loop-i-init
unfolding rows_refusal
loop-i-init c = let all : row_count (range_of c.in-Some.rows) - 0 ≡ row_count (range_of c.in-Some.rows) = omega arith in rw all

pub returns-in_err-row_board-clause-number : goal.returns-in_err-row_board-clause-number
returns-in_err-row_board-clause-number c =
    let p = err_from_is_err_and c.from_residual.result c.from_residual.ensures.1 in
    let at = to_z-of_z {w = w64} {z = c.row_at.result} (search rules) ∙ c.row_at.ensures in
    let is = ap (λ a. a.refusal) c.in_err-row_board.ensures ∙ ap (λ y. (board_on c.args.route.now y).refusal) at in
    rw (p.1, p.2, c.in-Some.is) (stops c.args.route.now (range_of c.in-Some.rows) c.loop-i.i (omega arith) c.loop-i.invariant (number-some Room) is)

pub loop-i-preserved : goal.loop-i-preserved
loop-i-preserved c =
    let at = to_z-of_z {w = w64} {z = c.row_at.result} (search rules) ∙ c.row_at.ensures in
    let is = ap (λ a. a.refusal) c.in_ok-row_board.ensures ∙ ap (λ y. (board_on c.args.route.now y).refusal) at in
    goes c.args.route.now (range_of c.in-Some.rows) c.loop-i.i (omega arith) c.loop-i.invariant is

pub returns-clause-number : goal.returns-clause-number
unfolding first_of
returns-clause-number c =
    rw c.in-Some.is
    (sym (ap first_of (list-end (room_at c.args.route.now (range_of c.in-Some.rows)) (row_count (range_of c.in-Some.rows)) c.loop-i.i (omega arith))) ∙ c.loop-i.invariant)
