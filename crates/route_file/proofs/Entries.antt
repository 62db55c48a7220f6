-- What 01 says of the three entries' answers: 0 exactly when the form is right, and 0 for every other field of a file that is refused or of
-- a route that it does not have. Assumes nothing.
use mathlib.Core.Path.{◌≡◌, refl, sym}
use mathlib.Core.Bool.{Bool, true, false, cond}
use mathlib.Core.List.{List}
use mathlib.Core.Logic.{◌↔◌}
use Prim.Native.Nat.{ℕ, ◌+◌, ◌*◌, ◌≤◌, ◌<◌}
use native.Mathlib.Omega.{arith}
use borrow.Author.Tests.{leb-true, le-leb}
use lib.Dec.{leb, eqb}
use lib.IntN.{ℤ, pos}
use lib.ListN.{length}
use Rattle.whole.proofs.Tests.{else-false, good-later}
use Rattle.route_file.specs.Numbers.{number_at}
use Rattle.route_file.specs.Form.{route_count, entry_at, Formed, is_formed}
use Rattle.route_file.specs.Answers.{form_refusal, counted, described, coordinates, points_refusal, pointed, pointed_to}
use Rattle.route_file.proofs.Laws.{true-formed, formed-true, formed-exactly, entry-refusal}
use Rattle.route_file.proofs.Answering.{entry-nine, entry-none, entry_found, points_none}

-- a test's number is 0 exactly where it passes
free_of : {P : Type 0} (t : Bool) {n : ℕ} → 0 < n → (t ≡ true) ↔ P → (cond t 0 n ≡ 0) ↔ P
free_of true some e = (λ _. e.0 refl, λ _. refl)
free_of false some e = (λ h. absurd (omega (arith, h)), λ p. cc (e.1 p))

module _ (f : List ℕ) where
  wrong : (Formed f → ⊥) → is_formed f ≡ false
  wrong h = else-false (is_formed f) (λ e. h (true-formed f e))

  -- ---- the number of routes

  pub count-free : ((counted f).refusal ≡ 0) ↔ Formed f
  unfolding counted form_refusal
  count-free = free_of (is_formed f) (omega arith) (formed-exactly f)

  pub count-refused : (Formed f → ⊥) → counted f ≡ record { refusal = 9; count = 0 }
  unfolding counted form_refusal
  count-refused h = rw (wrong h)

  -- ---- an entry

  module _ (k : ℕ) where
    pub entry_free : ((described f k).refusal ≡ 0) ↔ Formed f
    unfolding counted
    entry_free = rw (entry-refusal f k) count-free

    pub entry-refused : (Formed f → ⊥) → described f k ≡ record { refusal = 9; found = false; points = 0; width = pos 0; closed = false }
    entry-refused h = sym (entry-nine f k (wrong h))

    pub entry-unknown : Formed f → route_count f ≤ k → described f k ≡ record { refusal = 0; found = false; points = 0; width = pos 0; closed = false }
    entry-unknown h none = sym (entry-none f k (formed-true h) none)

    -- the width is unsigned: from 32,768 on it is no number below 0
    pub entry_known : Formed f → k < route_count f
        → described f k ≡ record { refusal = 0; found = true; points = number_at f (6 + 8 * k); width = pos (number_at f (8 + 8 * k)); closed = eqb (number_at f (10 + 8 * k)) 1 }
    unfolding entry_at
    entry_known h known =
        let points : 4 + 8 * k + 2 ≡ 6 + 8 * k = omega arith in
        let width : 4 + 8 * k + 4 ≡ 8 + 8 * k = omega arith in
        let closed : 4 + 8 * k + 6 ≡ 10 + 8 * k = omega arith in
        rw (← entry_found f k (formed-true h) known, points, width, closed)

    -- ---- the points of a route

    pub points-free : (n : ℕ) → ((pointed f k n).refusal ≡ 0) ↔ (Formed f × (length (coordinates f k) ≤ n))
    unfolding pointed points_refusal
    points-free n =
        let all = length (coordinates f k) in
        good-later (is_formed f) (formed-exactly f) (λ e. omega (arith, e)) (free_of (leb all n) (omega arith) (leb-true all n, le-leb all n))

    pub points-unknown : (out : List ℤ) → Formed f → route_count f ≤ k → (pointed f k (length out) ≡ record { refusal = 0; count = 0 }) × (pointed_to f k out ≡ out)
    points-unknown out h none = let is = points_none f k out (formed-true h) none in (sym is.0, sym is.1)
