use Rattle.std.proofs.Common.{◌≡◌, w64, to_z, of_z, Err, rules}
use lib.Dec.{lit≤}
use mir.Facts.{to_z-of_z}
use Rattle.shapes.specs.Limits.{point_limit, corner_limit}
use Rattle.shapes.specs.Shape.{line_of, is_line_near}
use Rattle.shapes.proofs.Laws.{near-more, true-line-near}
use Rattle.line_join.specs.Answers.{start_answer}
use Rattle.line_join.proofs.Answers.{admitted, answer-made, answer-refused}
use Rattle.line_join.proofs.start.Goals as goal

pub returns-in_err-check_stroke : goal.returns-in_err-check_stroke
unfolding start_answer
returns-in_err-check_stroke c =
    let a = c.args in
    let width : to_z w64 (of_z w64 a.width) ≡ a.width = to_z-of_z {w = w64} {z = a.width} (search rules) in
    let is : c.from_residual.result ≡ Err c.in_err-check_stroke.field-0.0 = search rules in
    rw is (answer-refused corner_limit a.width (is_line_near point_limit (line_of a.a a.b)) _ (rw (width, c.is_line_near.ensures) at c.in_err-check_stroke.ensures) _)

pub start-requires-clause-near : goal.start-requires-clause-near
start-requires-clause-near c =
    let a = c.args in
    near-more (true-line-near point_limit (line_of a.a a.b) (admitted _ _ (rw c.is_line_near.ensures at c.in_ok-check_stroke.ensures)).1).start_near (lit≤ tt)

pub start-requires-clause-near_2 : goal.start-requires-clause-near_2
start-requires-clause-near_2 c =
    let a = c.args in
    near-more (true-line-near point_limit (line_of a.a a.b) (admitted _ _ (rw c.is_line_near.ensures at c.in_ok-check_stroke.ensures)).1).end_near (lit≤ tt)

pub start-requires-clause-thin : goal.start-requires-clause-thin
start-requires-clause-thin c = (admitted _ _ c.in_ok-check_stroke.ensures).0

pub returns : goal.returns
unfolding start_answer
returns c =
    let a = c.args in
    let width : to_z w64 (of_z w64 a.width) ≡ a.width = to_z-of_z {w = w64} {z = a.width} (search rules) in
    let none = rw (width, c.is_line_near.ensures) at c.in_ok-check_stroke.ensures in
    rw (c.checked.ensures, c.start.ensures, width) (answer-made a.width (is_line_near point_limit (line_of a.a a.b)) none corner_limit _)
