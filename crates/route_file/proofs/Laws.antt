-- What 01 says of the route file, of the definitions: the form, refusal 9, and where each handed-out number stands. Assumes nothing.
use mathlib.Core.Path.{◌≡◌, refl, ap, ◌∙◌}
use mathlib.Core.Bool.{Bool, true, false, cond, ◌&&◌}
use mathlib.Core.List.{List, []}
use mathlib.Core.Logic.{◌↔◌}
use Prim.Native.Nat.{ℕ, zero, suc, ◌+◌, ◌*◌, ◌≤◌, ◌<◌}
use native.Mathlib.Nat.{zero-add, add-zero}
use native.Mathlib.Omega.{arith}
use borrow.Author.Tests.{leb-true, leb-false, le-leb, eqb-true, eq-eqb, ne_eqb, ltb-true, ltb-false, lt-ltb, le-ltb}
use lib.Dec.{leb, ltb, eqb, lit≤}
use lib.IntN.{ℤ, pos, negsuc}
use lib.ListN.{length, get_or}
use lib.Signed.{◌≤ℤ◌}
use Rattle.whole.proofs.Linear.{linear, diff}
use Rattle.whole.proofs.Tests.{and_left, and_right, chosen, chosen-exactly, never, good-first, good-later}
use Rattle.shapes.specs.Refusals.{form_refused, room_refused}
use Rattle.route_file.specs.declared.inner.Entry.{Entry}
use Rattle.route_file.specs.Numbers.{number_at, signed, signed_at, signed_from}
use Rattle.route_file.specs.Form.{most_routes, route_count, said_length, entries_end, entry_at, EntryFormed, Formed, is_entry_formed, are_formed, is_formed}
use Rattle.route_file.specs.Answers.{form_refusal, nothing, described_by, described, coordinates, points_refusal, pointed, pointed_to}
use Rattle.route_file.proofs.Reading.{from-length, from_at}

-- what has no refusal passes
none-refused : (t : Bool) (n : ℕ) → 0 ≡ cond t 0 (suc n) → t ≡ true
none-refused true n e = refl
none-refused false n e = absurd (omega (arith, e))

-- ---- the form: the test passes exactly where it is right

true-entry : (end size : ℕ) (e : Entry) → is_entry_formed end size e ≡ true → EntryFormed end size e
unfolding is_entry_formed
true-entry end size e h =
    let t = leb e.closed 1 in
    let u = leb end e.offset in
    let v = leb (e.offset + 4 * e.points) size in
    record {
      flag = leb-true e.closed 1 (and_left t (u && v) h);
      after_entries = leb-true end e.offset (and_left u v (and_right t (u && v) h));
      inside = leb-true (e.offset + 4 * e.points) size (and_right u v (and_right t (u && v) h));
    }

entry-true : {end size : ℕ} {e : Entry} → EntryFormed end size e → is_entry_formed end size e ≡ true
unfolding is_entry_formed
entry-true {end} {size} {e} h =
    rw (le-leb e.closed 1 h.flag, le-leb end e.offset h.after_entries, le-leb (e.offset + 4 * e.points) size h.inside)

module _ (end : ℕ) (f : List ℕ) where
  abbrev At : ℕ → Type 0
  At k = EntryFormed end (length f) (entry_at f k)

  true-each : (k n : ℕ) → are_formed end f k n ≡ true → (i : ℕ) → i < n → At (k + i)
  unfolding are_formed
  true-each k zero h i lt = absurd (omega arith)
  true-each k (suc n) h zero lt = rw (add-zero k) (true-entry end (length f) (entry_at f k) (and_left (is_entry_formed end (length f) (entry_at f k)) (are_formed end f (k + 1) n) h))
  true-each k (suc n) h (suc i) lt =
      let next : k + suc i ≡ k + 1 + i = omega arith in
      rw next (true-each (k + 1) n (and_right (is_entry_formed end (length f) (entry_at f k)) (are_formed end f (k + 1) n) h) i (omega arith))

  each-true : (k n : ℕ) → ((i : ℕ) → i < n → At (k + i)) → are_formed end f k n ≡ true
  unfolding are_formed
  each-true k zero h = refl
  each-true k (suc n) h =
      let here = rw (add-zero k) at (h 0 (omega arith)) in
      let rest : (i : ℕ) → i < n → At (k + 1 + i) = λ i lt. let next : k + suc i ≡ k + 1 + i = omega arith in rw next at (h (suc i) (omega arith)) in
      rw (entry-true here, each-true (k + 1) n rest)

pub true-formed : (f : List ℕ) → is_formed f ≡ true → Formed f
unfolding is_formed
true-formed f h =
    let t = leb 4 (length f) in
    let u = leb (route_count f) most_routes in
    let v = eqb (said_length f) (length f) in
    let w = leb (entries_end f) (length f) in
    let x = are_formed (entries_end f) f 0 (route_count f) in
    let h₁ = and_right t (u && (v && (w && x))) h in
    let h₂ = and_right u (v && (w && x)) h₁ in
    let h₃ = and_right v (w && x) h₂ in
    record {
      header = leb-true 4 (length f) (and_left t (u && (v && (w && x))) h);
      few = leb-true (route_count f) most_routes (and_left u (v && (w && x)) h₁);
      said = eqb-true (said_length f) (length f) (and_left v (w && x) h₂);
      entries = leb-true (entries_end f) (length f) (and_left w x h₃);
      each = λ k lt. rw (zero-add k) at (true-each (entries_end f) f 0 (route_count f) (and_right w x h₃) k lt);
    }

pub formed-true : {f : List ℕ} → Formed f → is_formed f ≡ true
unfolding is_formed
formed-true {f} h =
    rw (
      le-leb 4 (length f) h.header,
      le-leb (route_count f) most_routes h.few,
      eq-eqb (said_length f) (length f) h.said,
      le-leb (entries_end f) (length f) h.entries,
    ) (each-true (entries_end f) f 0 (route_count f) (λ k lt. rw (zero-add k) (h.each k lt)))

pub formed_of : (f : List ℕ) → 0 ≡ form_refusal f → Formed f
unfolding form_refusal
formed_of f e = true-formed f (none-refused (is_formed f) 8 e)

-- what an entry knows of a file whose form is right
pub header_inside : (f : List ℕ) → 0 ≡ form_refusal f → 4 ≤ length f
header_inside f e = (formed_of f e).header

pub entry_inside : (f : List ℕ) (k : ℕ) → 0 ≡ form_refusal f → k < route_count f → 12 + 8 * k ≤ length f
entry_inside f k e known = omega (arith, (formed_of f e).entries)

pub points_inside : (f : List ℕ) (k : ℕ) (e : Entry) → 0 ≡ form_refusal f → k < route_count f → e ≡ entry_at f k → e.offset + 2 * (2 * e.points) ≤ length f
points_inside f k e g known is = rw is (omega (arith, (formed_of f g).each k known))

pub formed-exactly : (f : List ℕ) → (is_formed f ≡ true) ↔ Formed f
formed-exactly f = (true-formed f, formed-true)

-- 9 is given exactly when the form is wrong
pub nine-exactly : (f : List ℕ) → (form_refusal f ≡ form_refused) ↔ (Formed f → ⊥)
unfolding form_refusal
nine-exactly f = chosen-exactly (λ n. n) refl refl (lit≤ tt) (chosen (is_formed f) 0 form_refused (formed-exactly f))

-- ---- an entry: refused by its form alone, and found exactly when the file has it

refusal-of : (t u : Bool) (e : Entry) → (cond (t && u) (described_by e) (nothing (cond t 0 form_refused))).refusal ≡ cond t 0 form_refused
refusal-of true true e = refl
refusal-of true false e = refl
refusal-of false u e = refl

found_of : (t u : Bool) (e : Entry) (n : ℕ) → ((cond (t && u) (described_by e) (nothing n)).found ≡ true) ↔ ((t ≡ true) × (u ≡ true))
found_of true true e n = (λ h. (refl, refl), λ h. refl)
found_of true false e n = (λ h. (refl, h), λ h. h.1)
found_of false u e n = (λ h. (h, cc), λ h. h.0)

module _ (f : List ℕ) (k : ℕ) where
  pub entry-refusal : (described f k).refusal ≡ form_refusal f
  unfolding described form_refusal
  entry-refusal = refusal-of (is_formed f) (ltb k (route_count f)) (entry_at f k)

  pub found-exactly : ((described f k).found ≡ true) ↔ (Formed f × (k < route_count f))
  unfolding described
  found-exactly =
      let is = found_of (is_formed f) (ltb k (route_count f)) (entry_at f k) (form_refusal f) in (
        λ e. (true-formed f (is.0 e).0, ltb-true k (route_count f) (is.0 e).1),
        λ h. is.1 (formed-true h.0, lt-ltb k (route_count f) h.1),
      )

-- ---- the points of a route: 9 exactly when the form is wrong, 8 exactly when it is right and the list has not enough numbers

short-of : (m n : ℕ) (t : Bool) → leb m n ≡ t → (cond t 0 room_refused ≡ room_refused) ↔ (n < m)
short-of m n true e = (λ h. absurd (omega (arith, h)), λ h. absurd (omega (arith, h, leb-true m n e)))
short-of m n false e = (λ h. leb-false m n e, λ h. refl)

module _ (f : List ℕ) (k n : ℕ) where
  pub points-nine-exactly : (points_refusal f k n ≡ form_refused) ↔ (Formed f → ⊥)
  unfolding points_refusal
  points-nine-exactly = good-first (is_formed f) (formed-exactly f) (never (leb (length (coordinates f k)) n) (λ e. omega (arith, e)) (λ e. omega (arith, e)))

  pub points-eight-exactly : (points_refusal f k n ≡ room_refused) ↔ (Formed f × (n < length (coordinates f k)))
  unfolding points_refusal
  points-eight-exactly = good-later (is_formed f) (formed-exactly f) (λ e. omega (arith, e)) (short-of (length (coordinates f k)) n (leb (length (coordinates f k)) n) refl)

-- a refusal writes nothing and counts nothing
module _ (f : List ℕ) (k : ℕ) (out : List ℤ) (refused : 0 < points_refusal f k (length out)) where
  not_none : eqb (points_refusal f k (length out)) 0 ≡ false
  not_none = ne_eqb (points_refusal f k (length out)) 0 (λ e. absurd (omega arith))

  pub refused-kept : pointed_to f k out ≡ out
  unfolding pointed_to
  refused-kept = rw not_none

  pub refused_none : (pointed f k (length out)).count ≡ 0
  unfolding pointed
  refused_none = rw not_none

-- ---- the points that are handed out are those of the bytes

module _ (f : List ℕ) (k : ℕ) (known : k < route_count f) where
  pub coordinates-known : coordinates f k ≡ signed_from f (entry_at f k).offset (2 * (entry_at f k).points)
  unfolding coordinates
  coordinates-known = rw (lt-ltb k (route_count f) known)

  pub coordinates-length : length (coordinates f k) ≡ 2 * (entry_at f k).points
  coordinates-length = ap length coordinates-known ∙ from-length f (entry_at f k).offset (2 * (entry_at f k).points)

  -- the i-th number
  pub coordinates-at : (i : ℕ) → i < 2 * (entry_at f k).points → get_or (coordinates f k) i (pos 0) ≡ signed_at f ((entry_at f k).offset + 2 * i)
  coordinates-at i h = rw coordinates-known (from_at f (entry_at f k).offset (2 * (entry_at f k).points) i h)

  -- both bytes of it stand after the entries and within the file
  pub coordinates-inside : Formed f → (i : ℕ) → i < 2 * (entry_at f k).points
      → (entries_end f ≤ (entry_at f k).offset + 2 * i) × ((entry_at f k).offset + 2 * i + 1 < length f)
  coordinates-inside h i lt = let e = h.each k known in (omega arith, omega arith)

pub coordinates-none : (f : List ℕ) (k : ℕ) → route_count f ≤ k → coordinates f k ≡ []
unfolding coordinates
coordinates-none f k h = rw (le-ltb k (route_count f) h)

-- ---- what a two-byte number can be

pub number_small : (f : List ℕ) (at : ℕ) → get_or f at 0 < 256 → get_or f (at + 1) 0 < 256 → number_at f at < 65536
unfolding number_at
number_small f at low high = omega arith

-- a coordinate is from -32,768 to 32,767
signed_by : (n : ℕ) (t : Bool) → ltb n 32768 ≡ t → n < 65536 → (negsuc 32767 ≤ℤ signed n) × (signed n ≤ℤ pos 32767)
unfolding signed
signed_by n true e h = let low = ltb-true n 32768 e in rw e (omega linear, omega linear)
signed_by n false e h = let high = ltb-false n 32768 e in rw e (omega (linear, diff (pos n) (pos 65536)), omega (linear, diff (pos n) (pos 65536)))

pub signed_range : (n : ℕ) → n < 65536 → (negsuc 32767 ≤ℤ signed n) × (signed n ≤ℤ pos 32767)
signed_range n h = signed_by n (ltb n 32768) refl h

-- a file is no longer than its two-byte length can say: 65,536 bytes and more have a wrong form
pub formed-short : {f : List ℕ} → Formed f → ((i : ℕ) → get_or f i 0 < 256) → length f < 65536
unfolding said_length
formed-short {f} h small = omega (arith, h.said, number_small f 2 (small 2) (small 3))

-- a list of 32,768 numbers has room for the points of every route
enough-by : (f : List ℕ) (k : ℕ) (t : Bool) → ltb k (route_count f) ≡ t → Formed f → ((i : ℕ) → get_or f i 0 < 256) → length (coordinates f k) ≤ 32768
enough-by f k true e h small =
    let known = ltb-true k (route_count f) e in
    omega (arith, coordinates-length f k known, (h.each k known).inside, formed-short h small)
enough-by f k false e h small = let none = coordinates-none f k (ltb-false k (route_count f) e) in rw none (lit≤ tt)

pub enough : (f : List ℕ) (k : ℕ) → Formed f → ((i : ℕ) → get_or f i 0 < 256) → length (coordinates f k) ≤ 32768
enough f k h small = enough-by f k (ltb k (route_count f)) refl h small

-- what the entries' code needs
pub ruleset inside = (header_inside, entry_inside, points_inside, coordinates-none, coordinates-length)
