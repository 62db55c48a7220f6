-- 01's file, read: one route, with the points (0,0) and (3,0), of width 3, and open. Assumes nothing.
use mathlib.Core.Path.{◌≡◌, refl}
use mathlib.Core.Bool.{true, false}
use mathlib.Core.List.{List, [], ◌∷◌}
use Prim.Native.Nat.{ℕ}
use lib.IntN.{pos}
use Rattle.route_file.specs.Numbers.{number_at, signed, signed_from}
use Rattle.route_file.specs.Form.{route_count, said_length, entry_at, is_entry_formed, are_formed, is_formed}
use Rattle.route_file.specs.Answers.{form_refusal, counted, described, coordinates}

-- 01 00 14 00 0C 00 02 00 03 00 00 00 00 00 00 00 03 00 00 00
abbrev printed : List ℕ
printed = 1 ∷ 0 ∷ 20 ∷ 0 ∷ 12 ∷ 0 ∷ 2 ∷ 0 ∷ 3 ∷ 0 ∷ 0 ∷ 0 ∷ 0 ∷ 0 ∷ 0 ∷ 0 ∷ 3 ∷ 0 ∷ 0 ∷ 0 ∷ []

pub printed-count : counted printed ≡ record { refusal = 0; count = 1 }
unfolding counted form_refusal is_formed are_formed is_entry_formed entry_at route_count said_length number_at
printed-count = refl

pub printed-entry : described printed 0 ≡ record { refusal = 0; found = true; points = 2; width = pos 3; closed = false }
unfolding described form_refusal is_formed are_formed is_entry_formed entry_at route_count said_length number_at
printed-entry = refl

pub printed-points : coordinates printed 0 ≡ pos 0 ∷ pos 0 ∷ pos 3 ∷ pos 0 ∷ []
unfolding coordinates entry_at route_count signed_from signed number_at
printed-points = refl
