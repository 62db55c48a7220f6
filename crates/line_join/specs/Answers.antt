-- 01, line_join.rs: the answers of the entries, with the refusals in 01's order, for any limits; with 02's K4 and K9.
use Rattle.std.specs.Prelude.{Bool, false, ◌&&◌, cond, ℕ, eqb, ℤ, Result, Ok, Err, Option, Some, None}
use Rattle.shapes.specs.declared.Point.{Point}
use Rattle.shapes.specs.declared.Line.{Line}
use Rattle.shapes.specs.declared.Side.{Side}
use Rattle.shapes.specs.declared.Side.TheVariants.{Left, Right}
use Rattle.shapes.specs.declared.Offset.{Offset}
use Rattle.shapes.specs.declared.limits.Limits.{Limits}
use Rattle.shapes.specs.declared.refusals.Refusal.{Refusal}
use Rattle.shapes.specs.declared.refusals.Refusal.TheVariants.{Corner}
use Rattle.shapes.specs.Refusals.{number_of, bend_of}
use Rattle.shapes.specs.Shape.{line_of, no_point, no_line, is_near, is_line_near}
use Rattle.line_join.specs.declared.Kind.{Kind}
use Rattle.line_join.specs.declared.Kind.TheVariants as kind
use Rattle.line_join.specs.Sides.{Corners}
use Rattle.line_join.specs.Sides.{Origins}
use Rattle.line_join.specs.declared.Join.{Join}
use Rattle.line_join.specs.declared.Caps.{Caps}
use Rattle.line_join.specs.declared.Caps.TheVariants as caps
use Rattle.shapes.specs.Strokes.{stroke_refusal}
use Rattle.line_join.specs.Origins.{no_crossings}
use Rattle.line_join.specs.Standing.{standing_at}
use Rattle.line_join.specs.Join.{corners_of, start_of, end_of, join_of}
use Rattle.line_join.specs.Caps.{is_join_near, filler_of, start_caps_of, end_caps_of, is_degenerate}

-- ---- values: each answer in 01's numbers, 0 where there are none, and no crossing on either side

abbrev pub no_corners : Corners
no_corners = corners_of no_point no_point

-- the refusal; the position of the join that is refused with 5; the kind's number, 0 for a refusal; the corners; where they come from;
-- and the position of the join that is made
pub record JoinValues : Type 0 where
  pub refusal : ℕ
  pub bend : ℕ
  pub kind : ℕ
  pub ending : Corners
  pub starting : Corners
  pub origins : Origins
  pub position : ℕ

abbrev pub on_side : Side → ℕ → ℕ → ℕ
on_side Left m n = m
on_side Right m n = n

abbrev pub kind_number : Kind → ℕ
kind_number kind.Miter = 1
kind_number (kind.Bevel s) = on_side s 2 3
kind_number (kind.Degenerate s) = on_side s 4 5
kind_number kind.Colinear = 6
kind_number kind.Start = 7
kind_number kind.End = 8

-- what stands for no join: the refusal, and what comes with 5, with 0 in every other value, and no crossing on either side
abbrev pub refused_join : ℕ → ℕ → JoinValues
refused_join n b = record { refusal = n; bend = b; kind = 0; ending = no_corners; starting = no_corners; origins = no_crossings; position = 0 }

abbrev pub no_join_values : JoinValues
no_join_values = refused_join 0 0

unfoldable pub join_values : Result Join Refusal → JoinValues
join_values (Ok j) =
    record { refusal = 0; bend = 0; kind = kind_number j.kind; ending = j.ending; starting = j.starting; origins = j.origins; position = j.position }
join_values (Err r) = refused_join (number_of r) (bend_of r)

-- the refusal, and the position of the join then; 1 for no line, 2 for one, 0 for a refusal; and the line
pub record FillerValues : Type 0 where
  pub refusal : ℕ
  pub bend : ℕ
  pub found : ℕ
  pub line : Line

unfoldable pub filler_values : Result (Option Line) Refusal → FillerValues
filler_values (Ok (Some l)) = record { refusal = 0; bend = 0; found = 2; line = l }
filler_values (Ok None) = record { refusal = 0; bend = 0; found = 1; line = no_line }
filler_values (Err r) = record { refusal = number_of r; bend = bend_of r; found = 0; line = no_line }

-- the refusal, and the position of the join then; the number of lines, 0 for a refusal; and the lines
pub record CapsValues : Type 0 where
  pub refusal : ℕ
  pub bend : ℕ
  pub count : ℕ
  pub first : Line
  pub second : Line

unfoldable pub caps_values : Result Caps Refusal → CapsValues
caps_values (Ok (caps.One l)) = record { refusal = 0; bend = 0; count = 1; first = l; second = no_line }
caps_values (Ok (caps.Two l m)) = record { refusal = 0; bend = 0; count = 2; first = l; second = m }
caps_values (Err r) = record { refusal = number_of r; bend = bend_of r; count = 0; first = no_line; second = no_line }

-- the refusal, and the position of the join then; and whether the lines overlap, false for a refusal
pub record Judged : Type 0 where
  pub refusal : ℕ
  pub bend : ℕ
  pub degenerate : Bool

unfoldable pub degenerate_values : Result Bool Refusal → Judged
degenerate_values (Ok b) = record { refusal = 0; bend = 0; degenerate = b }
degenerate_values (Err r) = record { refusal = number_of r; bend = bend_of r; degenerate = false }

-- ---- 5 for a corner beyond k, with the join's position

unfoldable pub if_near : {A : Type 0} → ℕ → Join → A → Result A Refusal
if_near k j a = cond (is_join_near k j) (Ok a) (Err (Corner j.position))

-- ---- the constructors: 3 and 4 of the input, then 5 of the join, else the join

unfoldable pub made_of : ℕ → Join → Result Join Refusal
made_of k j = if_near k j j

-- `near` says whether the points are inside their limit
unfoldable pub join_answer : ℕ → ℤ → Bool → Join → JoinValues
join_answer k w near j =
    let n = stroke_refusal w near in
    cond (eqb n 0) (join_values (made_of k j)) (refused_join n 0)

-- each counts its own two or three points as the list: a start has position 0, the others 1
unfoldable pub start_answer : Limits → Point → Point → ℤ → Offset → JoinValues
start_answer limits a b w o = join_answer limits.corner w (is_line_near limits.point (line_of a b)) (start_of a b w o)

unfoldable pub end_answer : Limits → Point → Point → ℤ → Offset → JoinValues
end_answer limits a b w o = join_answer limits.corner w (is_line_near limits.point (line_of a b)) (standing_at 1 (end_of a b w o))

unfoldable pub points_answer : Limits → Point → Point → Point → ℤ → Offset → JoinValues
points_answer limits a b c w o = join_answer limits.corner w (is_line_near limits.point (line_of a b) && is_near limits.point c) (standing_at 1 (join_of a b c w o))

-- ---- on a join handed in

unfoldable pub filler_answer : ℕ → Join → FillerValues
filler_answer k j = filler_values (if_near k j (filler_of j))

unfoldable pub start_caps_answer : ℕ → Join → CapsValues
start_caps_answer k j = caps_values (if_near k j (start_caps_of j))

unfoldable pub end_caps_answer : ℕ → Join → CapsValues
end_caps_answer k j = caps_values (if_near k j (end_caps_of j))

unfoldable pub degenerate_answer : ℕ → Join → Judged
degenerate_answer k j = degenerate_values (if_near k j (is_degenerate j.kind))
