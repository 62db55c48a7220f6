use Rattle.std.proofs.Common.{◌≡◌, Bool, true, false, ◌&&◌, w64, to_z, of_z, Err, rules, sym, ◌∙◌}
use lib.Dec.{lit≤}
use mir.Facts.{to_z-of_z}
use Rattle.shapes.specs.declared.Point.{Point}
use Rattle.shapes.specs.Limits.{point_limit, corner_limit, panel}
use Rattle.shapes.specs.Shape.{Near, LineNear, line_of, is_near, is_line_near}
use Rattle.shapes.proofs.Laws.{near-more}
use Rattle.line_join.specs.Answers.{points_answer}
use Rattle.line_join.proofs.Answers.{admitted, answer-made, answer-refused, points-iff}
use Rattle.line_join.proofs.from_points.Goals as goal
use Rattle.line_join.proofs.from_points.Goals.{then-is_line_near, else-is_line_near}

-- both tests, of which the second is left out where the first fails
held : {x y t a b : Bool} → x ≡ y → y ≡ b → t ≡ a → t ≡ true → x ≡ (a && b)
held e f g h = rw (← g, h) (e ∙ f)

failed : {x t a : Bool} (b : Bool) → x ≡ t → t ≡ a → t ≡ false → x ≡ (a && b)
failed b e g h = rw (← g, h) (e ∙ h)

abbrev are_near : Point → Point → Point → Bool
are_near a b c = is_line_near point_limit (line_of a b) && is_near point_limit c

pub returns-in_err-check_stroke : goal.returns-in_err-check_stroke
unfolding points_answer
returns-in_err-check_stroke c =
    let a = c.args in
    let width : to_z w64 (of_z w64 a.width) ≡ a.width = to_z-of_z {w = w64} {z = a.width} (search rules) in
    let near : c.if-is_line_near.check_stroke ≡ are_near a.a a.b a.c = elim c.if-is_line_near.branch [
      | then-is_line_near w ↦ held w.check_stroke-is w.is_near.ensures c.is_line_near.ensures w.if-is_line_near.true
      | else-is_line_near w ↦ failed _ w.check_stroke-is c.is_line_near.ensures w.if-is_line_near.false
    ] in
    let is : c.from_residual.result ≡ Err c.in_err-check_stroke.field-0.0 = search rules in
    rw is (answer-refused corner_limit a.width (are_near a.a a.b a.c) _ (rw (width, near) at c.in_err-check_stroke.ensures) _)

-- what is not refused is inside the limits
inside : (c : goal.In_ok-check_stroke) → LineNear point_limit (line_of c.args.a c.args.b) × Near point_limit c.args.c
inside c =
    let a = c.args in
    let near : c.if-is_line_near.check_stroke ≡ are_near a.a a.b a.c = elim c.if-is_line_near.branch [
      | then-is_line_near w ↦ held w.check_stroke-is w.is_near.ensures c.is_line_near.ensures w.if-is_line_near.true
      | else-is_line_near w ↦ failed _ w.check_stroke-is c.is_line_near.ensures w.if-is_line_near.false
    ] in
    (points-iff panel a.a a.b a.c).0 (sym near ∙ (admitted _ _ c.in_ok-check_stroke.ensures).1)

pub from_points-requires-clause-near : goal.from_points-requires-clause-near
from_points-requires-clause-near c = near-more (inside c).0.start_near (lit≤ tt)

pub from_points-requires-clause-near_2 : goal.from_points-requires-clause-near_2
from_points-requires-clause-near_2 c = near-more (inside c).0.end_near (lit≤ tt)

pub from_points-requires-clause-near_3 : goal.from_points-requires-clause-near_3
from_points-requires-clause-near_3 c = near-more (inside c).1 (lit≤ tt)

pub from_points-requires-clause-thin : goal.from_points-requires-clause-thin
from_points-requires-clause-thin c = (admitted _ _ c.in_ok-check_stroke.ensures).0

pub returns : goal.returns
unfolding points_answer
returns c =
    let a = c.args in
    let width : to_z w64 (of_z w64 a.width) ≡ a.width = to_z-of_z {w = w64} {z = a.width} (search rules) in
    let near : c.if-is_line_near.check_stroke ≡ are_near a.a a.b a.c = elim c.if-is_line_near.branch [
      | then-is_line_near w ↦ held w.check_stroke-is w.is_near.ensures c.is_line_near.ensures w.if-is_line_near.true
      | else-is_line_near w ↦ failed _ w.check_stroke-is c.is_line_near.ensures w.if-is_line_near.false
    ] in
    let none = rw (width, near) at c.in_ok-check_stroke.ensures in
    rw (c.checked.ensures, c.standing_at.ensures, c.from_points.ensures, width) (answer-made a.width (are_near a.a a.b a.c) none corner_limit _)
