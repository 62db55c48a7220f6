-- 01, "Numbers that bound the work": each once, by name.
use Rattle.std.specs.Prelude.{ℕ, ◌^◌, ◌≤◌}
use Rattle.shapes.specs.declared.limits.Limits.{Limits}

-- a route point's coordinate is from -511 to 511
abbrev pub point_limit : ℕ
point_limit = 511

-- a coordinate at the crossing's own entry is from -1,023 to 1,023
abbrev pub crossing_limit : ℕ
crossing_limit = 1023

-- a stroke's width is from 0 to 64
abbrev pub width_limit : ℕ
width_limit = 64

-- a route has at most 256 points
abbrev pub route_points : ℕ
route_points = 256

-- a join's corner, a row and a column are from -4,095 to 4,095
abbrev pub corner_limit : ℕ
corner_limit = 4095

-- the three that a definition takes as an argument, together
abbrev pub panel : Limits
panel = record { point = point_limit; crossing = crossing_limit; corner = corner_limit }

-- a board holds at most 32 runs
abbrev pub board_runs : ℕ
board_runs = 32

-- ---- no limits of 01, but of the machine: what inner functions ask, so that nothing wraps

-- coordinates whose products and their sums 64 bits hold
abbrev pub product_limit : ℕ
product_limit = 2 ^ 30

-- coordinates of lines whose equations and crossings 64 bits hold
abbrev pub line_limit : ℕ
line_limit = 2 ^ 14

-- points whose thick lines have edges within line_limit, for every width
abbrev pub stroke_limit : ℕ
stroke_limit = 2 ^ 13

-- widths whose thresholds 64 bits hold, for every line within line_limit
abbrev pub thick_limit : ℕ
thick_limit = 2 ^ 10

-- limits that the machine has room for
pub record Roomy (limits : Limits) : Type 0 where
  pub point_room : limits.point ≤ stroke_limit
  pub corner_room : limits.corner ≤ line_limit
