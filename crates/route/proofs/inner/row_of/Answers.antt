use Rattle.std.proofs.Common.{sym, ap, ◌∙◌, refl, arith}
use mir.Facts.{to_z-of_z}
use Rattle.std.proofs.lemmas.Result.{err_from_is_err_and}
use Rattle.whole.proofs.Laws.{true-within}
use Rattle.route.proofs.Drawn.{drawn-sound}
use Rattle.shapes.specs.declared.refusals.Refusal.TheVariants.{Room}
use Rattle.shapes.proofs.Numbers.{number-some}
use Rattle.route.proofs.RowLists.{refused-on, listed-on, outside, inside, told-as}
use Rattle.route.proofs.inner.row_of.Goals as goal

pub returns-then-not-within-clause-value : goal.returns-then-not-within-clause-value
returns-then-not-within-clause-value c =
    let e = rw (to_z-of_z c.ranges.row) at c.within.ensures in
    (refused-on _ _ _ c.args.out.now refl (outside _ c.args.route.now _ c.args.out.now (sym e ∙ c.if-not-within.true)) (λ z. omega (arith, z))).0

pub returns-then-not-within-clause-list : goal.returns-then-not-within-clause-list
returns-then-not-within-clause-list c =
    let e = rw (to_z-of_z c.ranges.row) at c.within.ensures in
    (refused-on _ _ _ c.args.out.now refl (outside _ c.args.route.now _ c.args.out.now (sym e ∙ c.if-not-within.true)) (λ z. omega (arith, z))).1

pub returns-in_err-board-clause-value : goal.returns-in_err-board-clause-value
returns-in_err-board-clause-value c =
    let p = err_from_is_err_and c.from_residual.result c.from_residual.ensures.1 in
    let row = to_z-of_z c.ranges.row in
    let w = rw row at c.within.ensures in
    let b = rw row at c.in_err-board.ensures in
    let number = inside _ c.args.route.now _ c.args.out.now (sym w ∙ c.if-not-within.false) ∙ sym (ap (λ a. a.refusal) b) in
    rw (p.1, p.2) (refused-on _ _ _ c.args.out.now refl number (number-some Room)).0

pub returns-in_err-board-clause-list : goal.returns-in_err-board-clause-list
returns-in_err-board-clause-list c =
    let row = to_z-of_z c.ranges.row in
    let w = rw row at c.within.ensures in
    let b = rw row at c.in_err-board.ensures in
    let number = inside _ c.args.route.now _ c.args.out.now (sym w ∙ c.if-not-within.false) ∙ sym (ap (λ a. a.refusal) b) in
    (refused-on _ _ _ c.args.out.now refl number (number-some Room)).1

pub list_sound-requires : goal.list_sound-requires
list_sound-requires c =
    let row = to_z-of_z c.ranges.row in
    let near = true-within c.args.limit c.args.row (sym (rw row at c.within.ensures) ∙ c.if-not-within.false) in
    let drawn = ap (λ a. a.board) (rw row at c.in_ok-board.ensures) in
    rw drawn (drawn-sound c.requires.kept (record { bound = omega (arith, near.bound, c.requires.limit_le_line_limit) }))

pub returns-clause-value : goal.returns-clause-value
returns-clause-value c =
    let row = to_z-of_z c.ranges.row in
    let w = rw row at c.within.ensures in
    let b = rw row at c.in_ok-board.ensures in
    let number = inside _ c.args.route.now _ c.args.out.now (sym w ∙ c.if-not-within.false) ∙ sym (ap (λ a. a.refusal) b) in
    rw (told-as _ _ _ c.list_sound.ensures.0) (listed-on _ _ _ c.args.out.now number (ap (λ a. a.board) b) c.list_sound.ensures.0 c.list_sound.ensures.1).0

pub returns-clause-list : goal.returns-clause-list
returns-clause-list c =
    let row = to_z-of_z c.ranges.row in
    let w = rw row at c.within.ensures in
    let b = rw row at c.in_ok-board.ensures in
    let number = inside _ c.args.route.now _ c.args.out.now (sym w ∙ c.if-not-within.false) ∙ sym (ap (λ a. a.refusal) b) in
    (listed-on _ _ _ c.args.out.now number (ap (λ a. a.board) b) c.list_sound.ensures.0 c.list_sound.ensures.1).1
