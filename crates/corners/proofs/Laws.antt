-- 01's corners with numbers hold. Assumes nothing.
use mathlib.Core.Path.{◌≡◌, refl, ap, ◌∙◌}
use mathlib.Core.Bool.{Bool, true, false}
use lib.IntN.{pos, nat_abs, ◌*ℤ◌, zero-*ℤ, *ℤ-zero}
use lib.Signed.{lt_z}
use Rattle.std.specs.Prelude.{Ok}
use Rattle.whole.specs.Number.{is_within, lesser, greater}
use Rattle.whole.specs.Rounded.{rounded}
use Rattle.whole.specs.Divided.{division_of}
use Rattle.shapes.specs.declared.Point.{Point}
use Rattle.shapes.specs.declared.Line.{Line}
use Rattle.shapes.specs.Limits.{crossing_limit}
use Rattle.shapes.specs.Shape.{LineNear, point_of, line_of, is_near, is_line_near, minus, quarter_turn, determinant, dot_product, delta}
use Rattle.shapes.specs.Spans.{is_empty, is_span_sound}
use Rattle.shapes.proofs.Laws.{true-line-near}
use Rattle.linear_equation.specs.Equation.{equation_of, distance_of, is_on_side, are_inside, side_answer}
use Rattle.intersection_params.specs.declared.Crossed.{Crossed}
use Rattle.intersection_params.specs.declared.Crossed.TheVariants.{Colinear}
use Rattle.intersection_params.specs.Crossing.{cramer_of, solution_of, side_of, drawn_of, divisions_of, found_of, nearly_colinear, are_lines_near, crossing_values, crossing_answer}
use Rattle.intersection_params.specs.Words.{bend}
use Rattle.intersection_params.proofs.Laws.{determinant-directions, crossing-chosen, nearly-chosen}
use Rattle.intersection_params.proofs.Divisions.{found-colinear}
use Rattle.board.specs.Runs.{with_run, joined, follows, is_ascending, total, flat}
use Rattle.board.specs.Boards.{live, padded, board_of, is_sound, begun, added, offered, told, listed, over, told_to, listed_to}
use Rattle.board_laws.specs.Histories.{after, reached}
use Rattle.corners.proofs.Legs.{legs-of-216}
use Rattle.corners.specs.Cases.{nearly, Holds, Every, cases}

-- a line from (3,3) to (3,3) has no direction
abbrev still : Line
still = line_of (point_of (pos 3) (pos 3)) (point_of (pos 3) (pos 3))

still-near : LineNear crossing_limit still
unfolding is_line_near is_near is_within
still-near = true-line-near crossing_limit still refl

still-first : (b : Line) → bend still b ≡ pos 0
unfolding determinant delta minus
still-first b = simp zero-*ℤ

still-second : (b : Line) → bend b still ≡ pos 0
unfolding determinant delta minus
still-second b = simp *ℤ-zero

with-any : (b : Line) → LineNear crossing_limit b → (crossing_answer crossing_limit still b ≡ crossing_values (Ok Colinear)) × (crossing_answer crossing_limit b still ≡ crossing_values (Ok Colinear))
with-any b h = (
  (crossing-chosen crossing_limit still b).holds (still-near, h) ∙ ap (λ (r : Crossed). crossing_values (Ok r)) ((found-colinear still b).1 (still-first b)),
  (crossing-chosen crossing_limit b still).holds (h, still-near) ∙ ap (λ (r : Crossed). crossing_values (Ok r)) ((found-colinear b still).1 (still-second b)),
)

-- the near-colinear test knows the deltas alone
by-deltas : (p q : Point) (t : Bool) → lt_z (determinant p q *ℤ determinant p q) (pos (nat_abs (dot_product p q))) ≡ t → Holds (nearly p q t)
unfolding Holds nearly_colinear
by-deltas p q t e a b ha hb da db = (nearly-chosen crossing_limit a b).holds (ha, hb) ∙ simp (determinant-directions a b, da, db, e)

pub corners : Every cases
unfolding cases Every Holds crossing_answer crossing_values are_lines_near is_line_near is_near is_within found_of divisions_of division_of drawn_of side_of rounded solution_of cramer_of equation_of determinant dot_product quarter_turn delta minus side_answer are_inside is_on_side distance_of reached after begun offered added with_run joined is_empty is_span_sound follows is_sound is_ascending live padded board_of listed told listed_to told_to over flat total greater lesser
corners =
    (refl, (refl, (refl, (refl, (refl, (with-any, (by-deltas _ _ false refl, (by-deltas _ _ true refl, ((refl, refl), ((refl, refl), (legs-of-216, ((refl, refl), ((refl, refl), tt)))))))))))))
