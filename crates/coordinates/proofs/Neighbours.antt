-- The test for doubled points says what K6 says. Assumes nothing.
use mathlib.Core.Path.{◌≡◌, refl, sym, ap, ◌∙◌}
use mathlib.Core.Logic.{◌↔◌, inl, inr}
use mathlib.Core.Bool.{Bool, true, false, ◌&&◌}
use mathlib.Core.List.{List}
use Prim.Native.Nat.{ℕ, ◌+◌, ◌-◌, ◌<◌}
use native.Mathlib.Omega.{arith}
use borrow.Author.Tests.{eqb-true, eqb-false}
use lib.Dec.{eqb}
use lib.IntN.{ℤ}
use Rattle.std.specs.Ordering.{int_eq}
use Rattle.std.proofs.lemmas.Bool.Decides.{same_from_decides, Decides-int_eq}
use Rattle.whole.proofs.Orders.{eq_z-iff}
use Rattle.whole.specs.Number.{eq_z}
use Rattle.whole.specs.Places.{SomePlace}
use Rattle.whole.proofs.Places.{some-exactly}
use Rattle.whole.proofs.Tests.{clash}
use Rattle.shapes.specs.declared.Point.{Point}
use Rattle.shapes.specs.Shape.{same_point}
use Rattle.shapes.proofs.Laws.{same-exactly}
use Rattle.coordinates.specs.Points.{point_at, point_count, place_after, segments_of}
use Rattle.coordinates.specs.Neighbours.{is_repeated, is_doubled, Repeated, Returned, Doubled}
use Rattle.coordinates.proofs.Places.{after-inner, after_last}

-- the test for equal points as the machine makes it
equal-ints : (x y : ℤ) → int_eq x y ≡ eq_z x y
equal-ints x y = same_from_decides (int_eq x y) (eq_z x y) (Decides-int_eq x y) (eq_z-iff x y)

pub equal_points : (a b : Point) → (int_eq a.x b.x && int_eq a.y b.y) ≡ same_point a b
unfolding same_point
equal_points a b = rw (equal-ints a.x b.x, equal-ints a.y b.y)

-- a segment begins at a place of the route, and at each place but the last one does
pub segment-inside : {n i : ℕ} (closed : Bool) → i < segments_of closed n → i < n
unfolding segments_of
segment-inside true h = h
segment-inside false h = omega arith

inner-segment : (closed : Bool) (n i : ℕ) → i + 1 < n → i < segments_of closed n
unfolding segments_of
inner-segment true n i h = omega arith
inner-segment false n i h = omega arith

module _ (cs : List ℤ) where
  abbrev n : ℕ
  n = point_count cs

  -- the point at place i equals the one after it, round the route
  abbrev Same : ℕ → Type 0
  Same i = point_at cs i ≡ point_at cs (place_after n i)

  same_at : (i : ℕ) → (is_repeated cs i ≡ true) ↔ Same i
  same_at i = same-exactly (point_at cs i) (point_at cs (place_after n i))

  -- after it comes the next one, or, after the last, the first

  next-equal : (i : ℕ) → i + 1 < n → Same i → Repeated cs
  next-equal i more e = record { place = i; followed = more; equal = e ∙ ap (point_at cs) (after-inner n i more) }

  first-equal : (i : ℕ) → i + 1 ≡ n → Same i → Returned cs
  first-equal i last e =
      let end : n - 1 ≡ i = omega (arith, last) in
      record { some = omega (arith, last); equal = ap (point_at cs) end ∙ e ∙ ap (point_at cs) (after_last n i last) }

  doubled-at : (closed : Bool) (i : ℕ) → i < segments_of closed n → Same i → Doubled closed cs
  unfolding segments_of
  doubled-at false i h e = inl (next-equal i (omega arith) e)
  doubled-at true i h e = by (eqb (i + 1) n) refl
    where
      by : (t : Bool) → eqb (i + 1) n ≡ t → Doubled true cs
      by true z = inr (refl, first-equal i (eqb-true (i + 1) n z) e)
      by false z = let other = eqb-false (i + 1) n z in inl (next-equal i (omega (arith, other)) e)

  place_of : (closed : Bool) → Doubled closed cs → SomePlace (is_repeated cs) (segments_of closed n)
  unfolding segments_of
  place_of closed (inl r) =
      let i = r.place in
      record { place = i; inside = inner-segment closed n i r.followed; passes = (same_at i).1 (r.equal ∙ ap (point_at cs) (sym (after-inner n i r.followed))) }
  place_of false (inr r) = absurd (clash r.0 refl)
  place_of true (inr r) =
      let last : n - 1 + 1 ≡ n = omega (arith, r.1.some) in
      record { place = n - 1; inside = omega (arith, r.1.some); passes = (same_at (n - 1)).1 (r.1.equal ∙ ap (point_at cs) (sym (after_last n (n - 1) last))) }

  pub doubled-exactly : (closed : Bool) → (is_doubled closed cs ≡ true) ↔ Doubled closed cs
  unfolding is_doubled
  doubled-exactly closed =
      let some = some-exactly (is_repeated cs) (segments_of closed n) in
      (λ e. let s = some.0 e in doubled-at closed s.place s.inside ((same_at s.place).0 s.passes), λ d. some.1 (place_of closed d))
