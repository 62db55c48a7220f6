-- 01, "The route file" and the numbers 9 and 8: what each entry answers.
use Rattle.std.specs.Prelude.{true, false, cond, ◌&&◌, List, [], ◌++◌, ℕ, ◌*◌, eqb, leb, ltb, ℤ, pos, length, drop, Result, Ok, Err, Option, Some, None, Bool}
use Rattle.shapes.specs.declared.refusals.Refusal.{Refusal}
use Rattle.shapes.specs.Refusals.{form_refused, room_refused, number_of}
use Rattle.route_file.specs.declared.Described.{Described}
use Rattle.route_file.specs.declared.inner.Entry.{Entry}
use Rattle.route_file.specs.Numbers.{signed_from}
use Rattle.route_file.specs.Form.{route_count, entry_at, is_formed}

-- 9: "the route file's form is wrong"
unfoldable pub form_refusal : List ℕ → ℕ
form_refusal f = cond (is_formed f) 0 form_refused

-- ---- the number of routes

pub record Counted : Type 0 where
  pub refusal : ℕ
  pub count : ℕ

-- a number that was asked for, or a refusal and 0
abbrev pub count_values : Result ℕ Refusal → Counted
count_values (Ok n) = record { refusal = 0; count = n }
count_values (Err r) = record { refusal = number_of r; count = 0 }

unfoldable pub counted : List ℕ → Counted
counted f = record { refusal = form_refusal f; count = cond (is_formed f) (route_count f) 0 }

-- ---- the k-th entry

-- `found` is false where the file has no such route; it and all that follows is 0 or false then, and in a refusal
pub record DescribedValues : Type 0 where
  pub refusal : ℕ
  pub found : Bool
  pub points : ℕ
  pub width : ℤ
  pub closed : Bool

abbrev pub nothing : ℕ → DescribedValues
nothing n = record { refusal = n; found = false; points = 0; width = pos 0; closed = false }

abbrev pub described_by : Entry → DescribedValues
described_by e = record { refusal = 0; found = true; points = e.points; width = pos e.width; closed = eqb e.closed 1 }

abbrev pub described_values : Result (Option Described) Refusal → DescribedValues
described_values (Ok (Some d)) = record { refusal = 0; found = true; points = d.points; width = d.width; closed = d.closed }
described_values (Ok None) = nothing 0
described_values (Err r) = nothing (number_of r)

unfoldable pub described : List ℕ → ℕ → DescribedValues
described f k = cond (is_formed f && ltb k (route_count f)) (described_by (entry_at f k)) (nothing (form_refusal f))

-- ---- the k-th route's points

-- "Then points, x and y signed": two numbers for each; a route that the file does not have has none
unfoldable pub coordinates : List ℕ → ℕ → List ℤ
coordinates f k = cond (ltb k (route_count f)) (signed_from f (entry_at f k).offset (2 * (entry_at f k).points)) []

-- n is the length of the lent list
unfoldable pub points_refusal : List ℕ → ℕ → ℕ → ℕ
points_refusal f k n = cond (is_formed f) (cond (leb (length (coordinates f k)) n) 0 room_refused) form_refused

unfoldable pub pointed : List ℕ → ℕ → ℕ → Counted
pointed f k n =
    record { refusal = points_refusal f k n; count = cond (eqb (points_refusal f k n) 0) (length (coordinates f k)) 0 }

-- what the lent list holds afterwards: the numbers, and then what was there
unfoldable pub pointed_to : List ℕ → ℕ → List ℤ → List ℤ
pointed_to f k out =
    cond (eqb (points_refusal f k (length out)) 0) (coordinates f k ++ drop (length (coordinates f k)) out) out
