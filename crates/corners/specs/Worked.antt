-- Cases worked out by hand from 01's rules W1 to W5 and its modules 4 and 5, and from 02's K4 and K8, in one list: what the P cases leave to definitions.
use Rattle.std.specs.Prelude.{true, false, List, [], ◌∷◌, ℕ, ℤ, pos, negsuc}
use Rattle.whole.specs.declared.Division.TheVariants.{Exact, Half, Rounded}
use Rattle.shapes.specs.declared.Side.{Side}
use Rattle.shapes.specs.declared.Side.TheVariants.{Left, Right}
use Rattle.shapes.specs.declared.Offset.TheVariants as offset
use Rattle.shapes.specs.Shape.{point_of}
use Rattle.bresenham.specs.Walk.{place_of}
use Rattle.parallels.specs.declared.Parallel.{Parallel}
use Rattle.intersection_params.specs.declared.Crossed.TheVariants.{At}
use Rattle.line_join.specs.declared.Join.{Join}
use Rattle.line_join.specs.declared.Kind.TheVariants.{Miter, Bevel, Degenerate, Colinear, Start, End}
use Rattle.line_join.specs.declared.Caps.TheVariants.{Two}
use Rattle.line_join.specs.declared.Origin.TheVariants.{Crossing, NotACrossing}
use Rattle.line_join.specs.Origins.{no_crossings, origins_of}
use Rattle.line_join.specs.Join.{corners_of, alike}
use Rattle.line_join.specs.Standing.{standing_at}
use Rattle.thick_segment.specs.declared.Rectangle.{Rectangle}
use Rattle.thick_segment.specs.Rows.{rows_from}
use Rattle.corners.specs.Cases.{Case, crossing, joins, stroked, capped, rowed, too_far, closed, line, divided}

-- ---- crossings that are not whole

-- y = x/3 and y = 1 - x: (3/4, 1/4). Determinant 3·(-1) - 1·1 = -4: Left.
unfoldable pub rounded_both : Case
rounded_both = crossing (line (pos 0) (pos 0) (pos 3) (pos 1)) (line (pos 0) (pos 1) (pos 1) (pos 0)) (At (point_of (pos 1) (pos 0)) Left (divided Rounded Rounded))

-- x = -3 and y = -2 - x/2: (-3, -1/2). Determinant 0·(-1) - (-4)·2 = 8, so that the numerators are negative: Right.
unfoldable pub half_below : Case
half_below = crossing (line (negsuc 2) (pos 0) (negsuc 2) (negsuc 3)) (line (negsuc 3) (pos 0) (negsuc 1) (negsuc 0)) (At (point_of (negsuc 2) (negsuc 0)) Right (divided Exact Half))

-- ---- parallels and edges

-- a parallel's side, first point and error
abbrev normal : Side → ℤ → ℤ → ℤ → Parallel
normal s x y e = record { side = s; start = place_of (point_of x y) e; extra = false }

abbrev extra : Side → ℤ → ℤ → ℤ → Parallel
extra s x y e = record { side = s; start = place_of (point_of x y) e; extra = true }

-- (0,0)-(3,1) at width 4. Along the line a = 3, b = 1: major (1,0), minor (0,1), 2b = 2, 2a = 6. Its perpendicular has the delta (1,-3): major
-- (0,-1), minor (1,0), and the same numbers; its minor is not the line's major turned round, so errors rise on the left and fall on the
-- right. The accumulator starts at (6+2)/2 = 4, the threshold is 8² · 10 = 640. The left side skips (0,0), and is at (0,-1) with error 2.
--   right  (0,0)   0 > -3: Normal, error 0; then (0,1) with -2.     Accumulator 10, square 100
--   left   (0,-1)  2 ≤ 3: Normal, error 0; then (0,-2) with 4.      16, 256
--   right  (0,1)   -2 > -3: Normal, error 0; then (0,2) with -4.    22, 484
--   left   (0,-2)  4 > 3: Extra; 0 + 2 = 2 is not above 3: no carry, passed over; then (1,-2) with -2
--          (1,-2)  -2 ≤ 3: Normal, error 2.                         28, 784 > 640: the end
-- The edges begin at the last of each side, and both are Normal: (1,-2) + (3,1) = (4,-1) and (0,1) + (3,1) = (3,2).
unfoldable pub even_width : Case
even_width =
    stroked (line (pos 0) (pos 0) (pos 3) (pos 1)) (pos 4) offset.None
    (normal Right (pos 0) (pos 0) (pos 0) ∷ normal Left (pos 0) (negsuc 0) (pos 0) ∷ normal Right (pos 0) (pos 1) (pos 0) ∷ normal Left (pos 1) (negsuc 1) (pos 2) ∷ [])
    (record { left = line (pos 1) (negsuc 1) (pos 4) (negsuc 0); right = line (pos 0) (pos 1) (pos 3) (pos 2) })

-- (0,0)-(3,2) at width 3. a = 3, b = 2: 2b = 4, 2a = 6, the same steps as above. Accumulator (6+4)/2 = 5, threshold 6² · 13 = 468. The left
-- side skips (0,0), and is at (0,-1) with error 4.
--   right  (0,0)   0 > -3: Normal, error 0; then (0,1) with -4.                                  Accumulator 11, square 121
--   left   (0,-1)  4 > 3: Extra; 0 + 4 is above 3: -2 and a carry, error -2; then (1,-1) with -2.  15, 225
--   right  (0,1)   -4 ≤ -3: Extra; 0 - 4 ≤ -3: 2 and a carry, error 0 as it was before it fell.    19, 361
--   left   (1,-1)  -2 ≤ 3: Normal, error -2.                                                       25, 625 > 468: the end
-- The left edge ends at (1,-1) + (3,2) = (4,1), the right one, being Extra, at (0,1) + (3,2) - (1,0) - (0,1) = (2,2).
unfoldable pub odd_width : Case
odd_width =
    stroked (line (pos 0) (pos 0) (pos 3) (pos 2)) (pos 3) offset.None
    (normal Right (pos 0) (pos 0) (pos 0) ∷ extra Left (pos 0) (negsuc 0) (negsuc 1) ∷ extra Right (pos 0) (pos 1) (pos 0) ∷ normal Left (pos 1) (negsuc 0) (negsuc 1) ∷ [])
    (record { left = line (pos 1) (negsuc 0) (pos 4) (pos 1); right = line (pos 0) (pos 1) (pos 2) (pos 2) })

-- (0,0)-(-3,2) at width 3. The line's major is (-1,0), the perpendicular's delta (2,3): major (0,1), minor (1,0), the line's major turned
-- round. So errors fall on the left and rise on the right; else as before. The left side begins at (0,1) with error 4.
--   right  (0,0)   Normal, error 0; then (0,-1) with -4.                                11, 121
--   left   (0,1)   4 > 3: Extra; 0 - 4 ≤ -3: 2 and a carry, error 0; then (1,1) with -2.  15, 225
--   right  (0,-1)  -4 ≤ -3: Extra; 0 + 4 > 3: -2 and a carry, error -2.                   19, 361
--   left   (1,1)   Normal, error 2.                                                       25, 625
-- Left edge to (1,1) + (-3,2) = (-2,3); right edge to (0,-1) + (-3,2) - (-1,0) - (0,1) = (-2,0).
unfoldable pub turned_round : Case
turned_round =
    stroked (line (pos 0) (pos 0) (negsuc 2) (pos 2)) (pos 3) offset.None
    (normal Right (pos 0) (pos 0) (pos 0) ∷ extra Left (pos 0) (pos 1) (pos 0) ∷ extra Right (pos 0) (negsuc 0) (negsuc 1) ∷ normal Left (pos 1) (pos 1) (pos 2) ∷ [])
    (record { left = line (pos 1) (pos 1) (negsuc 1) (pos 3); right = line (pos 0) (negsuc 0) (negsuc 1) (pos 0) })

-- (0,0)-(2,1) at width 4, where errors come to a and to -a themselves. a = 2, b = 1: 2b = 2, 2a = 4, the steps of (0,0)-(3,1). Accumulator
-- (4+2)/2 = 3, threshold 8² · 5 = 320. The left side skips (0,0), and is at (0,-1) with error 2.
--   right  (0,0)   0 > -2: Normal, error 0; then (0,1) with -2.                                                      Accumulator 7, square 49
--   left   (0,-1)  2 is not above 2: Normal, error 0; then (0,-2) with 4.                                            11, 121
--   right  (0,1)   -2 ≤ -2: Extra; 0 - 2 ≤ -2: 2 and a carry, error 0 as it was before it fell; then (-1,1) with 2.  13, 169
--   left   (0,-2)  4 > 2: Extra; 0 + 2 = 2 is not above 2: no carry, passed over; then (1,-2) with 0
--          (1,-2)  0 ≤ 2: Normal, error 2.                                                                           17, 289
--   right  (-1,1)  2 > -2: Normal, error 2.                                                                          21, 441 > 320: the end
-- Both edges are Normal: (1,-2) + (2,1) = (3,-1) and (-1,1) + (2,1) = (1,2).
unfoldable pub at_threshold : Case
at_threshold =
    stroked (line (pos 0) (pos 0) (pos 2) (pos 1)) (pos 4) offset.None
    (normal Right (pos 0) (pos 0) (pos 0) ∷ normal Left (pos 0) (negsuc 0) (pos 0) ∷ extra Right (pos 0) (pos 1) (pos 0) ∷ normal Left (pos 1) (negsuc 1) (pos 2) ∷ normal Right (negsuc 0) (pos 1) (pos 2) ∷ [])
    (record { left = line (pos 1) (negsuc 1) (pos 3) (negsuc 0); right = line (negsuc 0) (pos 1) (pos 1) (pos 2) })

-- (0,0)-(2,2) at width 3. a = b = 2, a tie, so that x is major: (1,0), minor (0,1), 2b = 2a = 4. The perpendicular's delta (2,-2) is a tie
-- too: major (1,0), minor (0,-1), which is not (-1,0): errors rise on the left. Accumulator (4+4)/2 = 4, threshold 6² · 8 = 288. The left
-- side skips (0,0), and is at (1,0) with error 4.
--   right  (0,0)   0 > -2: Normal, error 0; then (-1,0) with -4.                                 Accumulator 8, square 64
--   left   (1,0)   4 > 2: Extra; 0 + 4 is above 2: 0 and a carry, error 0; then (1,-1) with 0.   12, 144
--   right  (-1,0)  -4 ≤ -2: Extra; 0 - 4 ≤ -2: 0 and a carry, error 0 as it was before it fell.  16, 256
--   left   (1,-1)  0 ≤ 2: Normal, error 0.                                                       20, 400 > 288: the end
-- The left edge ends at (1,-1) + (2,2) = (3,1), the right one, being Extra, at (-1,0) + (2,2) - (1,0) - (0,1) = (0,1).
unfoldable pub diagonal : Case
diagonal =
    stroked (line (pos 0) (pos 0) (pos 2) (pos 2)) (pos 3) offset.None
    (normal Right (pos 0) (pos 0) (pos 0) ∷ extra Left (pos 1) (pos 0) (pos 0) ∷ extra Right (negsuc 0) (pos 0) (pos 0) ∷ normal Left (pos 1) (negsuc 0) (pos 0) ∷ [])
    (record { left = line (pos 1) (negsuc 0) (pos 3) (pos 1); right = line (negsuc 0) (pos 0) (pos 0) (pos 1) })

-- (0,0)-(3,1) at width 4 with offset Left: the numbers of `even_width`, and each parallel on the left, from the line itself on.
--   (0,0)   0 ≤ 3: Normal, error 0; then (0,-1) with 2.             Accumulator 10, square 100
--   (0,-1)  2 ≤ 3: Normal, error 0; then (0,-2) with 4.             16, 256
--   (0,-2)  4 > 3: Extra; 0 + 2 = 2 is not above 3: no carry, passed over; then (1,-2) with -2
--   (1,-2)  -2 ≤ 3: Normal, error 2; then (1,-3) with 0.            22, 484
--   (1,-3)  0 ≤ 3: Normal, error 2.                                 28, 784 > 640: the end
-- The left edge ends at (1,-3) + (3,1) = (4,-2); the right one, which no parallel replaces, is the line.
unfoldable pub left_only : Case
left_only =
    stroked (line (pos 0) (pos 0) (pos 3) (pos 1)) (pos 4) offset.Left
    (normal Left (pos 0) (pos 0) (pos 0) ∷ normal Left (pos 0) (negsuc 0) (pos 0) ∷ normal Left (pos 1) (negsuc 1) (pos 2) ∷ normal Left (pos 1) (negsuc 2) (pos 2) ∷ [])
    (record { left = line (pos 1) (negsuc 2) (pos 4) (negsuc 1); right = line (pos 0) (pos 0) (pos 3) (pos 1) })

-- The same with offset Right, where errors fall.
--   (0,0)   0 > -3: Normal, error 0; then (0,1) with -2.            10, 100
--   (0,1)   -2 > -3: Normal, error 0; then (0,2) with -4.           16, 256
--   (0,2)   -4 ≤ -3: Extra; 0 - 2 = -2 is above -3: no carry, passed over; then (-1,2) with 2
--   (-1,2)  2 > -3: Normal, error -2; then (-1,3) with 0.           22, 484
--   (-1,3)  0 > -3: Normal, error -2.                               28, 784
-- The right edge ends at (-1,3) + (3,1) = (2,4); the left one is the line.
unfoldable pub right_only : Case
right_only =
    stroked (line (pos 0) (pos 0) (pos 3) (pos 1)) (pos 4) offset.Right
    (normal Right (pos 0) (pos 0) (pos 0) ∷ normal Right (pos 0) (pos 1) (pos 0) ∷ normal Right (negsuc 0) (pos 2) (negsuc 1) ∷ normal Right (negsuc 0) (pos 3) (negsuc 1) ∷ [])
    (record { left = line (pos 0) (pos 0) (pos 3) (pos 1); right = line (negsuc 0) (pos 3) (pos 2) (pos 4) })

-- ---- joins at width 3: three Normal parallels, so that the edges are one pixel to either side along the line's minor axis

-- (0,0), (6,0), (-3,3). First edges: left (0,-1)-(6,-1), right (0,1)-(6,1); second: left (6,1)-(-3,4), right (6,-1)-(-3,2). The left ones
-- cross at (12,-1), the right ones at (0,1). Determinant (-9)·0 - 3·6 = -18: Left is the outer side; 18² is not below the dot product
-- 54. (-3,2) is on the right of y = 1: no overlap. (12,-1) is 6²+1² = 37 from (6,0), above 6² = 36: cut at (6,-1) and (6,1). The
-- corner on the right is the true crossing.
unfoldable pub bevel_left : Case
bevel_left =
    joins (point_of (pos 0) (pos 0)) (point_of (pos 6) (pos 0)) (point_of (negsuc 2) (pos 3)) (pos 3) offset.None
    (record { kind = Bevel Left; ending = corners_of (point_of (pos 6) (negsuc 0)) (point_of (pos 0) (pos 1)); starting = corners_of (point_of (pos 6) (pos 1)) (point_of (pos 0) (pos 1)); origins = origins_of NotACrossing (Crossing (divided Exact Exact)); position = 1 })

-- (0,0), (6,0), (-3,-3). Second edges: left (6,1)-(-3,-2), right (6,-1)-(-3,-4). Crossings (0,-1) and (12,1), determinant 18: Right.
-- (-3,-2) is on the left of y = -1: no overlap. (12,1) is 37 from (6,0): cut at (6,1) and (6,-1). The left corner is the true crossing.
unfoldable pub bevel_right : Case
bevel_right =
    joins (point_of (pos 0) (pos 0)) (point_of (pos 6) (pos 0)) (point_of (negsuc 2) (negsuc 2)) (pos 3) offset.None
    (record { kind = Bevel Right; ending = corners_of (point_of (pos 0) (negsuc 0)) (point_of (pos 6) (pos 1)); starting = corners_of (point_of (pos 0) (negsuc 0)) (point_of (pos 6) (negsuc 0)); origins = origins_of (Crossing (divided Exact Exact)) NotACrossing; position = 1 })

-- (0,0), (4,0), (-2,1). Second edges: left (4,1)-(-2,2), right (4,-1)-(-2,0). Determinant -4: Left; 16 is below the dot product 24, so
-- both crossings are replaced by the first edges' ends. (-2,0) is on the left of y = 1: overlap. The edges end and start where they are.
unfoldable pub degenerate : Case
degenerate =
    joins (point_of (pos 0) (pos 0)) (point_of (pos 4) (pos 0)) (point_of (negsuc 1) (pos 1)) (pos 3) offset.None
    (record { kind = Degenerate Left; ending = corners_of (point_of (pos 4) (negsuc 0)) (point_of (pos 4) (pos 1)); starting = corners_of (point_of (pos 4) (pos 1)) (point_of (pos 4) (negsuc 0)); origins = no_crossings; position = 1 })

-- (-12,0), (0,0), (-9,4). First edges: left (-12,-1)-(0,-1), right (-12,1)-(0,1); second: left (0,1)-(-9,5), right (0,-1)-(-9,3). The left
-- ones cross at (9/2, -1), the right ones at (-9/2, 1): both columns go away from zero. Determinant (-9)·0 - 4·12 = -48: Left; 48² is not
-- below the dot product 108. (-9,3) is on the right of y = 1: no overlap. (5,-1) is 26 from (0,0): kept.
unfoldable pub half_miter : Case
half_miter =
    let tip = corners_of (point_of (pos 5) (negsuc 0)) (point_of (negsuc 4) (pos 1)) in
    joins (point_of (negsuc 11) (pos 0)) (point_of (pos 0) (pos 0)) (point_of (negsuc 8) (pos 4)) (pos 3) offset.None
    (record { kind = Miter; ending = tip; starting = tip; origins = origins_of (Crossing (divided Half Exact)) (Crossing (divided Half Exact)); position = 1 })

-- (-12,0), (0,0), (-10,3). Second edges: left (0,1)-(-10,4), right (0,-1)-(-10,2). The left ones cross at (20/3, -1), the right ones at
-- (-20/3, 1). Determinant -36: Left; 36² is not below 120. (-10,2) is on the right of y = 1: no overlap. (7,-1) is 50 from (0,0): cut at
-- (0,-1) and (0,1). The corner on the right is near the true crossing, and is not that.
unfoldable pub rounded_bevel : Case
rounded_bevel =
    joins (point_of (negsuc 11) (pos 0)) (point_of (pos 0) (pos 0)) (point_of (negsuc 9) (pos 3)) (pos 3) offset.None
    (record { kind = Bevel Left; ending = corners_of (point_of (pos 0) (negsuc 0)) (point_of (negsuc 6) (pos 1)); starting = corners_of (point_of (pos 0) (pos 1)) (point_of (negsuc 6) (pos 1)); origins = origins_of NotACrossing (Crossing (divided Rounded Exact)); position = 1 })

-- (0,0), (4,0), (10,1). Second edges: left (4,-1)-(10,0), right (4,1)-(10,2). Determinant 6·0 - 1·4 = -4: Left; 16 is below the dot product
-- 24, so both crossings are replaced by the first edges' ends. (10,2) is on the right of y = 1: no overlap. (4,-1) is 1 from (4,0): kept.
unfoldable pub near_miter : Case
near_miter =
    let tip = corners_of (point_of (pos 4) (negsuc 0)) (point_of (pos 4) (pos 1)) in
    joins (point_of (pos 0) (pos 0)) (point_of (pos 4) (pos 0)) (point_of (pos 10) (pos 1)) (pos 3) offset.None
    (record { kind = Miter; ending = tip; starting = tip; origins = no_crossings; position = 1 })

-- ---- a join at width 7: seven Normal parallels, so that the edges are three pixels to either side; and its caps

-- (0,0), (0,6), (-2,6). Along an axis b = 0, the accumulator goes from a on by 2a, and after 13a it is above 14a: seven parallels. First
-- edges: left (3,0)-(3,6), right (-3,0)-(-3,6); second: left (0,9)-(-2,9), right (0,3)-(-2,3). The left ones cross at (3,9), the right
-- ones at (-3,3). Determinant (-2)·6 - 0·0 = -12: Left is the outer side; 12² is not below the dot product 0. (-2,3) is on the left of
-- x = -3: overlap. The edges end and start where they are.
abbrev stub : Join
stub = record { kind = Degenerate Left; ending = corners_of (point_of (pos 3) (pos 6)) (point_of (negsuc 2) (pos 6)); starting = corners_of (point_of (pos 0) (pos 9)) (point_of (pos 0) (pos 3)); origins = no_crossings; position = 1 }

unfoldable pub short_turn : Case
short_turn = joins (point_of (pos 0) (pos 0)) (point_of (pos 0) (pos 6)) (point_of (negsuc 1) (pos 6)) (pos 7) offset.None stub

-- The filler line is (3,6)-(0,9), its delta (-3,3). Half of it, truncated toward zero, is (-1,1), so that the midpoint is (2,7). The caps
-- go by way of it: (0,9) to (0,3) where the second line starts, and (3,6) to (-3,6) where the first one ends.
unfoldable pub odd_filler : Case
odd_filler =
    capped stub
    (Two (line (pos 0) (pos 9) (pos 2) (pos 7)) (line (pos 2) (pos 7) (pos 0) (pos 3)))
    (Two (line (pos 3) (pos 6) (pos 2) (pos 7)) (line (pos 2) (pos 7) (negsuc 2) (pos 6)))

-- ---- segments whose drawn lines have rows that the box of their edges has not

abbrev box : ℤ → ℤ → ℤ → ℤ → Rectangle
box x y u v = record { first = point_of x y; last = point_of u v }

-- A skeleton, as its start join ends the edge before at one point, (-1,-1). The left edge is (3,-5)-(-1,-1), and the box is that of its
-- ends; the right one, (-1,-1)-(6,-7), is drawn. It is the second segment of the closed walk (-5,-3), (-1,-1), (3,-5) at width 2, offset Right.
unfoldable pub skeleton : Case
skeleton =
    rowed
    (record {
      start = alike Miter (corners_of (point_of (negsuc 0) (negsuc 0)) (point_of (negsuc 0) (negsuc 0)));
      end = alike Miter (corners_of (point_of (pos 3) (negsuc 4)) (point_of (pos 6) (negsuc 6)));
    })
    (box (negsuc 0) (negsuc 4) (pos 3) (negsuc 0)) (rows_from (negsuc 6) (negsuc 0))

-- A segment that begins with a cut corner. The filler line is (0,-8)-(4,0), its midpoint (2,-4): the caps of the start are (4,0)-(2,-4) and
-- (2,-4)-(0,2). That of the end is (10,0)-(10,2), the edges are (0,2)-(10,2) and (10,0)-(4,0), and so the row -4 is that of the caps alone.
unfoldable pub cut_corner : Case
cut_corner =
    rowed
    (record {
      start = record { kind = Bevel Left; ending = corners_of (point_of (pos 0) (negsuc 7)) (point_of (pos 0) (pos 2)); starting = corners_of (point_of (pos 4) (pos 0)) (point_of (pos 0) (pos 2)); origins = no_crossings; position = 0 };
      end = alike End (corners_of (point_of (pos 10) (pos 0)) (point_of (pos 10) (pos 2)));
    })
    (box (pos 0) (pos 0) (pos 10) (pos 2)) (rows_from (negsuc 3) (pos 2))

-- ---- segments that are refused with 5: the start join is looked at first, whatever the positions are

-- a join at (x,0) whose four corners are that point
abbrev standing : ℕ → ℤ → Join
standing p x = standing_at p (alike Miter (corners_of (point_of x (pos 0)) (point_of x (pos 0))))

unfoldable pub start_too_far : Case
start_too_far = too_far (record { start = standing 7 (pos 4096); end = standing 3 (pos 0) }) 7

unfoldable pub end_too_far : Case
end_too_far = too_far (record { start = standing 7 (pos 4095); end = standing 3 (negsuc 4095) }) 3

unfoldable pub both_too_far : Case
both_too_far = too_far (record { start = standing 7 (pos 4096); end = standing 3 (negsuc 4095) }) 7

-- ---- a closed route of two points, (0,0) and (4,0), at width 3: out and back

-- the first join is the start of (0,0)-(4,0)
abbrev out : Join
out = alike Start (corners_of (point_of (pos 0) (negsuc 0)) (point_of (pos 0) (pos 1)))

-- the second is that of (0,0), (4,0), (0,0), whose determinant is 0. The way back has its left at y = 1
abbrev back : Join
back = record { kind = Colinear; ending = corners_of (point_of (pos 4) (negsuc 0)) (point_of (pos 4) (pos 1)); starting = corners_of (point_of (pos 4) (pos 1)) (point_of (pos 4) (negsuc 0)); origins = no_crossings; position = 1 }

-- two segments
unfoldable pub out_and_back : Case
out_and_back = closed (pos 0 ∷ pos 0 ∷ pos 4 ∷ pos 0 ∷ []) (pos 3) (record { start = out; end = back } ∷ record { start = back; end = out } ∷ [])

unfoldable pub worked : List Case
worked = rounded_both ∷ half_below ∷ even_width ∷ odd_width ∷ turned_round ∷ at_threshold ∷ diagonal ∷ left_only ∷ right_only ∷ bevel_left ∷ bevel_right ∷ degenerate ∷ half_miter ∷ rounded_bevel ∷ near_miter ∷ short_turn ∷ odd_filler ∷ skeleton ∷ cut_corner ∷ start_too_far ∷ end_too_far ∷ both_too_far ∷ out_and_back ∷ []
