-- The cases worked out by hand hold, by computation. Assumes nothing.
use mathlib.Core.Path.{refl}
use Rattle.whole.specs.Number.{is_within, lesser, greater}
use Rattle.whole.specs.Places.{some_from}
use Rattle.whole.specs.Rounded.{rounded}
use Rattle.whole.specs.Divided.{division_of}
use Rattle.shapes.specs.Shape.{same_point, is_near, is_line_near, plus, minus, quarter_turn, determinant, dot_product, squared_length, delta, midpoint}
use Rattle.shapes.specs.Strokes.{is_thin, stroke_refusal}
use Rattle.linear_equation.specs.Equation.{equation_of, distance_of, is_on_side}
use Rattle.intersection_params.specs.Crossing.{cramer_of, solution_of, side_of, drawn_of, crossing_of, divisions_of, found_of, nearly_colinear, are_lines_near, crossing_values, crossing_answer}
use Rattle.bresenham.specs.Walk.{direction_of, along, parameters_along, next_all, previous_all, increased, decreased}
use Rattle.parallels.specs.Parallels.{bent, turn_of, next_parallel, aimed, thickness, plan_along, plan_of, parallels_start, is_done, grown, yield_of, parallels_from, spare, parallels, parallels_of}
use Rattle.extents.specs.Edges.{seen, lasts, closed, extents_of}
use Rattle.extents.specs.Entry.{extents_answer}
use Rattle.line_join.specs.Answers.{join_values, caps_values, if_near, made_of, join_answer, points_answer, start_caps_answer, end_caps_answer}
use Rattle.line_join.specs.Miter.{miter_limit, reaches}
use Rattle.line_join.specs.Caps.{is_corners_near, is_join_near, filler_of, cap_of, start_caps_of, end_caps_of}
use Rattle.line_join.specs.Origins.{origin_of}
use Rattle.line_join.specs.Join.{meet, overlapping, bent_at, bent_of, start_of, join_of}
use Rattle.thick_segment.specs.Segments.{is_segment_near, far_bend, is_skeleton, edges_of, least, most, box_of, union, bounding_box, drawn}
use Rattle.thick_segment.specs.Rows.{around, with_lines, drawn_rows}
use Rattle.thick_segment.specs.Answers.{skeleton_answer, box_answer, drawn_rows_answer}
use Rattle.coordinates.specs.Points.{point_at, point_count, place_after, place_before, segments_of}
use Rattle.coordinates.specs.Neighbours.{is_doubled}
use Rattle.coordinates.specs.Refusal.{is_odd, is_miscounted, are_within, route_refusal}
use Rattle.route_joins.specs.Joins.{bend_at, closed_join, join_on, end_place, segment_of, segment_count}
use Rattle.route_joins.specs.Steps.{step_values, checked, step_at, route_step, place_from}
use Rattle.closed_thick_segment_iter.specs.Walks.{closed_start, closed_step, after_closed}
use Rattle.corners.specs.Cases.{Walks, Holds, Every}
use Rattle.corners.specs.Worked.{rounded_both, half_below, even_width, odd_width, turned_round, at_threshold, diagonal, left_only, right_only, bevel_left, bevel_right, degenerate, half_miter, rounded_bevel, near_miter, short_turn, odd_filler, skeleton, cut_corner, start_too_far, end_too_far, both_too_far, out_and_back, worked}

pub worked-hold : Every worked
unfolding Every Holds worked rounded_both half_below even_width odd_width turned_round at_threshold diagonal left_only right_only bevel_left bevel_right degenerate half_miter rounded_bevel near_miter short_turn odd_filler skeleton cut_corner start_too_far end_too_far both_too_far out_and_back skeleton_answer far_bend box_answer bounding_box union box_of most least drawn_rows_answer drawn_rows with_lines around drawn edges_of is_skeleton lesser greater Walks closed_start closed_step after_closed route_step step_at checked step_values place_from is_segment_near segment_count segment_of segments_of end_place join_on closed_join bend_at route_refusal is_doubled some_from are_within is_miscounted is_odd point_at point_count place_after place_before start_caps_answer end_caps_answer caps_values start_caps_of end_caps_of cap_of filler_of midpoint join_values made_of if_near join_answer points_answer is_join_near is_corners_near join_of start_of bent_of bent_at overlapping meet origin_of divisions_of division_of found_of crossing_answer crossing_values are_lines_near reaches miter_limit crossing_of nearly_colinear drawn_of side_of solution_of cramer_of equation_of distance_of is_on_side rounded quarter_turn determinant extents_answer extents_of closed lasts seen parallels_of parallels spare parallels_from yield_of grown is_done parallels_start plan_of plan_along thickness aimed next_parallel turn_of bent increased decreased next_all previous_all parameters_along along direction_of stroke_refusal is_thin is_line_near is_near is_within same_point plus minus dot_product squared_length delta
worked-hold =
    (refl, (refl, ((refl, refl), ((refl, refl), ((refl, refl), ((refl, refl), ((refl, refl), ((refl, refl), ((refl, refl), (refl, (refl, (refl, (refl, (refl, (refl, (refl, ((refl, refl), ((refl, refl), ((refl, refl), (refl, (refl, (refl, ((refl, (refl, (refl, refl))), tt)))))))))))))))))))))))
