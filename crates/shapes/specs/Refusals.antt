-- 01, "What each number says", and K6's 12: each once, by name, in the order in which they are tested. 0 is none.
use Rattle.std.specs.Prelude.{cond, ℕ, eqb, Result, Ok, Err}
use Rattle.shapes.specs.declared.refusals.Refusal.{Refusal}
use Rattle.shapes.specs.declared.refusals.Refusal.TheVariants.{Form, Odd, Points, Width, Coordinate, Doubled, Corner, Row, Column, Room}

-- the route file's form is wrong
abbrev pub form_refused : ℕ
form_refused = 9

-- a list of coordinates has odd length
abbrev pub odd_refused : ℕ
odd_refused = 1

-- more than 256 points, or a closed route of one point
abbrev pub points_refused : ℕ
points_refused = 2

-- width outside 0 to 64
abbrev pub width_refused : ℕ
width_refused = 3

-- a coordinate is outside its limit
abbrev pub coordinate_refused : ℕ
coordinate_refused = 4

-- two consecutive points of a route are equal, of a closed one also the last and the first
abbrev pub doubled_refused : ℕ
doubled_refused = 12

-- some join of the walk has one of its four corners outside 4,095
abbrev pub corner_refused : ℕ
corner_refused = 5

-- row outside 4,095, a board handed in is none that a fresh board can come to, an offered span's row is not the board's,
-- or two spans to be joined differ in row
abbrev pub row_refused : ℕ
row_refused = 6

-- a non-empty span has a column outside 4,095, or a column to be added is outside
abbrev pub column_refused : ℕ
column_refused = 7

-- no room
abbrev pub room_refused : ℕ
room_refused = 8

-- the first of two that is a refusal
abbrev pub or_else : ℕ → ℕ → ℕ
or_else first second = cond (eqb first 0) second first

-- ---- the number of a refusal, and the position that comes with 5

abbrev pub number_of : Refusal → ℕ
number_of Form = form_refused
number_of Odd = odd_refused
number_of Points = points_refused
number_of Width = width_refused
number_of Coordinate = coordinate_refused
number_of Doubled = doubled_refused
number_of (Corner p) = corner_refused
number_of Row = row_refused
number_of Column = column_refused
number_of Room = room_refused

abbrev pub bend_of : Refusal → ℕ
bend_of Form = 0
bend_of Odd = 0
bend_of Points = 0
bend_of Width = 0
bend_of Coordinate = 0
bend_of Doubled = 0
bend_of (Corner p) = p
bend_of Row = 0
bend_of Column = 0
bend_of Room = 0

-- the number of what is refused, 0 of what is answered
abbrev pub refusal_in : {A : Type 0} → Result A Refusal → ℕ
refusal_in (Ok a) = 0
refusal_in (Err r) = number_of r

-- the position that comes with 5, in every other case 0
abbrev pub bend_in : {A : Type 0} → Result A Refusal → ℕ
bend_in (Ok a) = 0
bend_in (Err r) = bend_of r
