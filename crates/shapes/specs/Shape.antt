-- What is worked out of points and lines: 01's W1, differences, products, the midpoint of W5, and bounds.
use Rattle.std.specs.Prelude.{Bool, ◌&&◌, ℕ, ℤ, pos, neg_ℤ, ◌+ℤ◌, ◌-ℤ◌, ◌*ℤ◌}
use Rattle.std.specs.Int.Signed.{quot_z}
use Rattle.whole.specs.Number.{Within, is_within, eq_z}
use Rattle.shapes.specs.declared.Point.{Point}
use Rattle.shapes.specs.declared.Line.{Line}

abbrev pub point_of : ℤ → ℤ → Point
point_of x y = record { x = x; y = y }

abbrev pub line_of : Point → Point → Line
line_of a b = record { start = a; end = b }

-- what stands for nothing in a refusal
abbrev pub no_point : Point
no_point = point_of (pos 0) (pos 0)

abbrev pub no_line : Line
no_line = line_of no_point no_point

-- ---- bounds

-- both coordinates are from -k to k
pub record Near (k : ℕ) (p : Point) : Type 0 where
  pub x_near : Within p.x k
  pub y_near : Within p.y k

pub record LineNear (k : ℕ) (l : Line) : Type 0 where
  pub start_near : Near k l.start
  pub end_near : Near k l.end

-- the tests for that
unfoldable pub is_near : ℕ → Point → Bool
is_near k p = is_within k p.x && is_within k p.y

unfoldable pub is_line_near : ℕ → Line → Bool
is_line_near k l = is_near k l.start && is_near k l.end

-- ---- points

unfoldable pub same_point : Point → Point → Bool
same_point a b = eq_z a.x b.x && eq_z a.y b.y

unfoldable pub plus : Point → Point → Point
plus a b = point_of (a.x +ℤ b.x) (a.y +ℤ b.y)

unfoldable pub minus : Point → Point → Point
minus a b = point_of (a.x -ℤ b.x) (a.y -ℤ b.y)

-- W1: a quarter turn takes (x, y) to (-y, x)
unfoldable pub quarter_turn : Point → Point
quarter_turn p = point_of (neg_ℤ p.y) p.x

-- W1: the determinant of a and b
unfoldable pub determinant : Point → Point → ℤ
determinant a b = a.x *ℤ b.y -ℤ a.y *ℤ b.x

unfoldable pub dot_product : Point → Point → ℤ
dot_product a b = a.x *ℤ b.x +ℤ a.y *ℤ b.y

unfoldable pub squared_length : Point → ℤ
squared_length p = dot_product p p

-- ---- lines

-- the direction of a line: its end less its start
unfoldable pub delta : Line → Point
delta l = minus l.end l.start

-- W1: the same start, and (y, -x) of its delta
unfoldable pub perpendicular : Line → Line
perpendicular l = line_of l.start (plus l.start (point_of (delta l).y (neg_ℤ (delta l).x)))

-- W5: start plus half the delta, truncated toward zero
unfoldable pub midpoint : Line → Point
midpoint l = plus l.start (point_of (quot_z (delta l).x (pos 2)) (quot_z (delta l).y (pos 2)))
