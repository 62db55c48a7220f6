-- 01's P10, which a square in 32 bits gets wrong: the bend of two legs of 216 keeps its miter. Assumes nothing.
use mathlib.Core.Path.{◌≡◌, refl}
use mathlib.Core.Bool.{false}
use mathlib.Core.List.{List, [], ◌∷◌}
use Prim.Native.Nat.{ℕ, suc}
use lib.IntN.{pos, negsuc}
use Rattle.shapes.specs.declared.Point.{Point}
use Rattle.shapes.specs.declared.Line.{Line}
use Rattle.shapes.specs.declared.Side.TheVariants.{Left, Right}
use Rattle.shapes.specs.declared.Offset.TheVariants.{None}
use Rattle.parallels.specs.declared.Parallel.{Parallel}
use Rattle.shapes.specs.Strokes.{is_thin, stroke_refusal}
use Rattle.line_join.specs.Answers.{join_values, if_near, made_of, join_answer, points_answer}
use Rattle.line_join.specs.Miter.{miter_limit, reaches}
use Rattle.line_join.specs.Caps.{is_corners_near, is_join_near}
use Rattle.line_join.specs.Origins.{origin_of}
use Rattle.line_join.specs.Join.{meet, overlapping, bent_at, bent_of, start_of, join_of}
use Rattle.extents.specs.Edges.{seen, lasts, closed, extents_of}
use Rattle.parallels.specs.Parallels.{bent, turn_of, next_parallel, aimed, thickness, plan_along, plan_of, parallels_start, is_done, grown, yield_of, parallels_from, spare, parallels, parallels_of}
use Rattle.shapes.specs.Shape.{same_point, point_of, line_of, is_near, is_line_near, plus, minus, quarter_turn, determinant, dot_product, squared_length, delta}
use Rattle.bresenham.specs.Walk.{place_of, direction_of, along, parameters_along, parameters_of, next_all, previous_all, increased, decreased}
use Rattle.intersection_params.specs.Crossing.{cramer_of, solution_of, side_of, drawn_of, crossing_of, divisions_of, nearly_colinear}
use Rattle.linear_equation.specs.Equation.{equation_of, distance_of, is_on_side}
use Rattle.whole.specs.Number.{is_within}
use Rattle.whole.specs.Rounded.{rounded}
use Rattle.whole.specs.Divided.{division_of}
use Rattle.corners.specs.Cases.{Holds, legs_of216}

-- the legs
abbrev first : Line
first = line_of (point_of (pos 0) (pos 0)) (point_of (pos 216) (pos 0))

abbrev second : Line
second = line_of (point_of (pos 216) (pos 0)) (point_of (pos 216) (pos 216))

-- three Normal parallels: the line itself on the right, then one on either side
abbrev three : Point → Point → Point → List Parallel
three a b c = record { side = Right; start = place_of a (pos 0); extra = false } ∷ record { side = Left; start = place_of b (pos 0); extra = false } ∷ record { side = Right; start = place_of c (pos 0); extra = false } ∷ []

-- however many more there may be: after the third the accumulator is above the threshold
first_three : (n : ℕ) → parallels_from (suc (suc (suc (suc n)))) (plan_of first (pos 3) None) (parallels_start (plan_of first (pos 3) None) (point_of (pos 0) (pos 0))) ≡ three (point_of (pos 0) (pos 0)) (point_of (pos 0) (negsuc 0)) (point_of (pos 0) (pos 1))
unfolding bent turn_of next_parallel same_point aimed thickness plan_along plan_of parallels_start is_done grown yield_of parallels_from direction_of along parameters_along parameters_of next_all previous_all increased decreased is_near is_line_near plus minus quarter_turn determinant dot_product squared_length delta is_within rounded
first_three n = refl

second-three : (n : ℕ) → parallels_from (suc (suc (suc (suc n)))) (plan_of second (pos 3) None) (parallels_start (plan_of second (pos 3) None) (point_of (pos 216) (pos 0))) ≡ three (point_of (pos 216) (pos 0)) (point_of (pos 217) (pos 0)) (point_of (pos 215) (pos 0))
unfolding bent turn_of next_parallel same_point aimed thickness plan_along plan_of parallels_start is_done grown yield_of parallels_from direction_of along parameters_along parameters_of next_all previous_all increased decreased is_near is_line_near plus minus quarter_turn determinant dot_product squared_length delta is_within rounded
second-three n = refl

-- the bound on their number, 36 · 216² + 1 - 216 = 1,679,401, is four more than this
first-parallels : parallels_of first (pos 3) None ≡ three (point_of (pos 0) (pos 0)) (point_of (pos 0) (negsuc 0)) (point_of (pos 0) (pos 1))
unfolding bent turn_of next_parallel same_point aimed thickness plan_along plan_of parallels_start is_done grown yield_of spare parallels parallels_of direction_of along parameters_along parameters_of next_all previous_all increased decreased is_near is_line_near plus minus quarter_turn determinant dot_product squared_length delta is_within rounded
first-parallels = first_three 1679397

second-parallels : parallels_of second (pos 3) None ≡ three (point_of (pos 216) (pos 0)) (point_of (pos 217) (pos 0)) (point_of (pos 215) (pos 0))
unfolding bent turn_of next_parallel same_point aimed thickness plan_along plan_of parallels_start is_done grown yield_of spare parallels parallels_of direction_of along parameters_along parameters_of next_all previous_all increased decreased is_near is_line_near plus minus quarter_turn determinant dot_product squared_length delta is_within rounded
second-parallels = second-three 1679397

-- so the edges are one pixel to either side
first-edges : extents_of first (pos 3) None ≡ record { left = line_of (point_of (pos 0) (negsuc 0)) (point_of (pos 216) (negsuc 0)); right = line_of (point_of (pos 0) (pos 1)) (point_of (pos 216) (pos 1)) }
unfolding seen lasts closed extents_of bent turn_of next_parallel same_point aimed thickness plan_along plan_of parallels_start is_done grown yield_of direction_of along parameters_along parameters_of next_all previous_all increased decreased is_near is_line_near plus minus quarter_turn determinant dot_product squared_length delta is_within rounded
first-edges = rw first-parallels

second-edges : extents_of second (pos 3) None ≡ record { left = line_of (point_of (pos 217) (pos 0)) (point_of (pos 217) (pos 216)); right = line_of (point_of (pos 215) (pos 0)) (point_of (pos 215) (pos 216)) }
unfolding seen lasts closed extents_of bent turn_of next_parallel same_point aimed thickness plan_along plan_of parallels_start is_done grown yield_of direction_of along parameters_along parameters_of next_all previous_all increased decreased is_near is_line_near plus minus quarter_turn determinant dot_product squared_length delta is_within rounded
second-edges = rw second-parallels

pub legs-of-216 : Holds legs_of216
unfolding Holds legs_of216 join_values made_of if_near join_answer points_answer is_thin stroke_refusal miter_limit reaches is_corners_near is_join_near meet origin_of divisions_of division_of overlapping bent_at bent_of start_of join_of cramer_of solution_of side_of drawn_of crossing_of nearly_colinear equation_of distance_of is_on_side is_near is_line_near plus minus quarter_turn determinant dot_product squared_length delta is_within rounded
legs-of-216 = rw (first-edges, second-edges)
