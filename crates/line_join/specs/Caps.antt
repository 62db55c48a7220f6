-- 01, line_join.rs: bounds of a join's corners, its filler line and its cap lines.
use Rattle.std.specs.Prelude.{Bool, true, false, ◌&&◌, ℕ, Option, Some, None}
use Rattle.shapes.specs.declared.Line.{Line}
use Rattle.shapes.specs.declared.Side.{Side}
use Rattle.shapes.specs.Shape.{Near, is_near, line_of, midpoint}
use Rattle.line_join.specs.declared.Kind.{Kind}
use Rattle.line_join.specs.declared.Kind.TheVariants.{Miter, Bevel, Degenerate, Colinear, Start, End}
use Rattle.line_join.specs.Sides.{Corners}
use Rattle.line_join.specs.declared.Join.{Join}
use Rattle.line_join.specs.declared.Caps.{Caps}
use Rattle.line_join.specs.declared.Caps.TheVariants.{One, Two}
use Rattle.line_join.specs.Join.{outer}

-- ---- bounds

pub record CornersNear (k : ℕ) (c : Corners) : Type 0 where
  pub left_near : Near k c.left
  pub right_near : Near k c.right

-- all four corners
pub record JoinNear (k : ℕ) (j : Join) : Type 0 where
  pub ending_near : CornersNear k j.ending
  pub starting_near : CornersNear k j.starting

-- the tests for that
unfoldable pub is_corners_near : ℕ → Corners → Bool
is_corners_near k c = is_near k c.left && is_near k c.right

unfoldable pub is_join_near : ℕ → Join → Bool
is_join_near k j = is_corners_near k j.ending && is_corners_near k j.starting

-- ---- the filler line

-- the line between the corners of the outer side
abbrev pub between : Side → Corners → Corners → Line
between s ending starting = line_of (outer s ending) (outer s starting)

-- a bevel and a degenerate join have one, on the outer side
abbrev pub filler_by : Kind → Corners → Corners → Option Line
filler_by Miter ending starting = None
filler_by (Bevel s) ending starting = Some (between s ending starting)
filler_by (Degenerate s) ending starting = Some (between s ending starting)
filler_by Colinear ending starting = None
filler_by Start ending starting = None
filler_by End ending starting = None

unfoldable pub filler_of : Join → Option Line
filler_of j = filler_by j.kind j.ending j.starting

-- ---- the cap lines

-- one line from the left to the right corner, or two by way of the filler line's midpoint
abbrev pub capped_by : Option Line → Corners → Caps
capped_by (Some l) c = Two (line_of c.left (midpoint l)) (line_of (midpoint l) c.right)
capped_by None c = One (line_of c.left c.right)

unfoldable pub cap_of : Join → Corners → Caps
cap_of j c = capped_by (filler_of j) c

unfoldable pub start_caps_of : Join → Caps
start_caps_of j = cap_of j j.starting

unfoldable pub end_caps_of : Join → Caps
end_caps_of j = cap_of j j.ending

-- ---- whether it is degenerate

abbrev pub is_degenerate : Kind → Bool
is_degenerate Miter = false
is_degenerate (Bevel s) = false
is_degenerate (Degenerate s) = true
is_degenerate Colinear = false
is_degenerate Start = false
is_degenerate End = false
