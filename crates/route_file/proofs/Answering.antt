-- What the entries answer, by the form and by what a route has, in the form of the code's tests. Assumes nothing.
use mathlib.Core.Path.{◌≡◌, refl, ap, ◌∙◌}
use mathlib.Core.Bool.{true, false}
use mathlib.Core.List.{List, ◌++◌}
use Prim.Native.Nat.{ℕ, ◌*◌, ◌≤◌, ◌<◌}
use native.Mathlib.Nat.{zero-add}
use native.Mathlib.Omega.{arith}
use borrow.Author.Tests.{le-leb, lt-ltb, le-ltb}
use lib.IntN.{ℤ}
use lib.ListN.{length, drop}
use lib.Seq.{sets, sets-eq}
use Rattle.shapes.specs.Refusals.{form_refused}
use Rattle.route_file.specs.Answers.{Counted}
use Rattle.route_file.specs.Numbers.{signed_from}
use Rattle.route_file.specs.Form.{route_count, entry_at, is_formed}
use Rattle.route_file.specs.Answers.{form_refusal, nothing, described_by, described, points_refusal, pointed, pointed_to}
use Rattle.route_file.proofs.Reading.{from-length}
use Rattle.route_file.proofs.Laws.{coordinates-known, coordinates-none}

-- ---- an entry

module _ (f : List ℕ) (k : ℕ) where
  pub entry-nine : is_formed f ≡ false → nothing form_refused ≡ described f k
  unfolding described form_refusal
  entry-nine h = rw h

  pub entry-none : is_formed f ≡ true → route_count f ≤ k → nothing 0 ≡ described f k
  unfolding described form_refusal
  entry-none h none = rw (h, le-ltb k (route_count f) none)

  pub entry_found : is_formed f ≡ true → k < route_count f → described_by (entry_at f k) ≡ described f k
  unfolding described
  entry_found h known = rw (h, lt-ltb k (route_count f) known)

-- ---- points: r is the answer, and after what the lent list holds

abbrev pub answer : ℕ → ℕ → Counted
answer n count = record { refusal = n; count = count }

abbrev pub Answers : List ℕ → ℕ → List ℤ → Counted → List ℤ → Type 0
Answers f k out r after = (r ≡ pointed f k (length out)) × (after ≡ pointed_to f k out)

module _ (f : List ℕ) (k : ℕ) (out : List ℤ) where
  pub points_none : is_formed f ≡ true → route_count f ≤ k → Answers f k out (answer 0 0) out
  unfolding pointed pointed_to points_refusal
  points_none h none = rw (h, coordinates-none f k none, le-leb 0 (length out) (omega arith)) (refl, refl)

  module _ (h : is_formed f ≡ true) (known : k < route_count f) where
    pub points-all : 2 * (entry_at f k).points ≤ length out
        → Answers f k out (answer 0 (2 * (entry_at f k).points)) (sets out 0 (signed_from f (entry_at f k).offset (2 * (entry_at f k).points)))
    unfolding pointed pointed_to points_refusal
    points-all room =
        let n = 2 * (entry_at f k).points in
        let ns = signed_from f (entry_at f k).offset n in
        let long = from-length f (entry_at f k).offset n in
        rw (h, coordinates-known f k known, long, le-leb n (length out) room)
        (refl, sets-eq ns out 0 (omega arith) ∙ ap (λ m. ns ++ drop m out) (zero-add (length ns) ∙ long))
