-- Laws of places one after another, in the form of a loop that is at place i of n. Assumes nothing.
use mathlib.Core.Path.{◌≡◌, refl, sym, ap, ◌∙◌}
use mathlib.Core.Logic.{◌↔◌, ⊎_elim}
use mathlib.Core.Bool.{Bool, true, false, ◌&&◌, ◌||◌, cond}
use mathlib.Core.List.{[], ◌∷◌}
use Prim.Native.Nat.{ℕ, zero, suc, ◌+◌, ◌-◌, ◌≤◌, ◌<◌}
use native.Mathlib.Nat.{zero-add}
use native.Mathlib.Numerals.{add-one}
use native.Mathlib.Omega.{arith}
use borrow.Author.Tests.{eqb-true, eqb-false, eq-eqb, ne_eqb}
use lib.Dec.{eqb}
use lib.ListN.{length, get_or}
use Rattle.whole.specs.Places.{all_from, some_from, SomePlace, fails_from, passed_with, FirstFailing, list_from}
use Rattle.whole.proofs.Linear.{le-or-lt}
use Rattle.whole.proofs.Tests.{and_left, and_right, or-second, either, clash}

-- ---- a test of all places

module _ (test : ℕ → Bool) where
  pub all_end : (n i : ℕ) → n ≤ i → all_from test i (n - i) ≡ true
  unfolding all_from
  all_end n i h = let none : n - i ≡ 0 = omega arith in rw none

  -- the next place, and those after it
  pub all-next : (n i : ℕ) → i < n → (t : Bool) → test i ≡ t → all_from test i (n - i) ≡ (t && all_from test (i + 1) (n - (i + 1)))
  unfolding all_from
  all-next n i h t e =
      let left : n - i ≡ suc (n - (i + 1)) = omega arith in
      rw (left, e, add-one i)

  told-from : (left i d : ℕ) → all_from test i left ≡ true → d < left → test (i + d) ≡ true
  unfolding all_from
  told-from zero i d e h = absurd (omega arith)
  told-from (suc left) i zero e h = let same : i + 0 ≡ i = omega arith in rw same (and_left (test i) (all_from test (suc i) left) e)
  told-from (suc left) i (suc d) e h =
      let on : i + suc d ≡ suc i + d = omega arith in
      rw on (told-from left (suc i) d (and_right (test i) (all_from test (suc i) left) e) (omega arith))

  holds-from : (left i : ℕ) → ((d : ℕ) → d < left → test (i + d) ≡ true) → all_from test i left ≡ true
  unfolding all_from
  holds-from zero i h = refl
  holds-from (suc left) i h =
      let here : i + 0 ≡ i = omega arith in
      rw (rw here at (h 0 (omega arith))) (holds-from left (suc i) (λ d l. let on : suc i + d ≡ i + suc d = omega arith in rw on (h (suc d) (omega arith))))

  pub all-exactly : (n : ℕ) → (all_from test 0 n ≡ true) ↔ ((i : ℕ) → i < n → test i ≡ true)
  all-exactly n = (λ e i h. simp zero-add at (told-from n 0 i e h), λ h. holds-from n 0 (λ d l. simp zero-add (h d l)))

-- ---- a test of some places

module _ (test : ℕ → Bool) where
  pub some_end : (n i : ℕ) → n ≤ i → some_from test i (n - i) ≡ false
  unfolding some_from
  some_end n i h = let none : n - i ≡ 0 = omega arith in rw none

  -- the next place, and those after it
  pub some_next : (n i : ℕ) → i < n → (t : Bool) → test i ≡ t → some_from test i (n - i) ≡ (t || some_from test (i + 1) (n - (i + 1)))
  unfolding some_from
  some_next n i h t e =
      let left : n - i ≡ suc (n - (i + 1)) = omega arith in
      rw (left, e, add-one i)

  -- this place passes, or one of those after it does
  here-or-later : (i n : ℕ) (later t : Bool) → i < n → test i ≡ t → (later ≡ true → SomePlace test n) → (t || later) ≡ true → SomePlace test n
  here-or-later i n later true h passes found e = record { place = i; inside = h; passes = passes }
  here-or-later i n later false h passes found e = found e

  found_from : (left i n : ℕ) → i + left ≤ n → some_from test i left ≡ true → SomePlace test n
  unfolding some_from
  found_from zero i n h e = absurd (clash e refl)
  found_from (suc left) i n h e = here-or-later i n (some_from test (suc i) left) (test i) (omega arith) refl (found_from left (suc i) n (omega arith)) e

  -- and none is passed over
  held-from : (left i d : ℕ) → d < left → test (i + d) ≡ true → some_from test i left ≡ true
  unfolding some_from
  held-from zero i d h e = absurd (omega arith)
  held-from (suc left) i zero h e = let same : i + 0 ≡ i = omega arith in rw (rw same at e)
  held-from (suc left) i (suc d) h e =
      let on : i + suc d ≡ suc i + d = omega arith in
      or-second (test i) (some_from test (suc i) left) (held-from left (suc i) d (omega arith) (rw on at e))

  pub some-exactly : (n : ℕ) → (some_from test 0 n ≡ true) ↔ SomePlace test n
  some-exactly n = (found_from n 0 n (omega arith), λ s. held-from n 0 s.place s.inside (simp zero-add s.passes))

-- ---- the first place that fails a test

module _ (test : ℕ → Bool) where
  pub fails-end : (n i : ℕ) → i ≡ n → fails_from test i (n - i) ≡ n
  unfolding fails_from
  fails-end n i e = let none : n - i ≡ 0 = omega (arith, e) in rw none e

  -- the next place, and those after it
  pub fails-next : (n i : ℕ) → i < n → (t : Bool) → test i ≡ t → fails_from test i (n - i) ≡ cond t (fails_from test (i + 1) (n - (i + 1))) i
  unfolding fails_from
  fails-next n i h t e =
      let left : n - i ≡ suc (n - (i + 1)) = omega arith in
      rw (left, e, add-one i)

  -- a loop at place i has counted those from the first on that pass: what it comes to, if all so far did or not
  abbrev pub Counted : ℕ → ℕ → ℕ → ℕ
  Counted n passed i = cond (eqb passed i) (fails_from test i (n - i)) passed

  counted-by : (n passed i : ℕ) (t u : Bool) → passed ≤ i → i < n → eqb passed i ≡ t → test i ≡ u → Counted n (passed_with passed i u) (i + 1) ≡ Counted n passed i
  unfolding passed_with
  counted-by n passed i true true le more e f = rw (e, eq-eqb (i + 1) (i + 1) refl, fails-next n i more true f)
  counted-by n passed i true false le more e f =
      let same = eqb-true passed i e in
      rw (e, ne_eqb passed (i + 1) (λ z. omega (arith, same, z)), fails-next n i more false f) same
  counted-by n passed i false true le more e f = let other = eqb-false passed i e in rw (e, ne_eqb passed (i + 1) (λ z. omega (arith, other, z, le)))
  counted-by n passed i false false le more e f = let other = eqb-false passed i e in rw (e, ne_eqb passed (i + 1) (λ z. omega (arith, other, z, le)))

  pub counted-more : (n passed i : ℕ) → passed ≤ i → i < n → Counted n (passed_with passed i (test i)) (i + 1) ≡ Counted n passed i
  counted-more n passed i le more = counted-by n passed i (eqb passed i) (test i) le more refl refl

  pub counted-most : (passed i : ℕ) (t : Bool) → passed ≤ i → passed_with passed i t ≤ i + 1
  unfolding passed_with
  counted-most passed i t le = either (λ m. m ≤ i + 1) (t && eqb passed i) (λ e. omega arith) (λ e. omega arith)

  pub counted-done : (n passed : ℕ) → Counted n passed n ≡ passed
  counted-done n passed = by (eqb passed n) refl
    where
      by : (t : Bool) → eqb passed n ≡ t → cond t (fails_from test n (n - n)) passed ≡ passed
      by true e = fails-end n n refl ∙ sym (eqb-true passed n e)
      by false e = refl

  -- what is found from i on, where all before i pass: the first that fails, or the end
  record Told (n found : ℕ) : Type 0 where
    most : found ≤ n
    before : (i : ℕ) → i < found → test i ≡ true
    fails : found < n → test found ≡ false

  passed : (i : ℕ) → ((j : ℕ) → j < i → test j ≡ true) → test i ≡ true → (j : ℕ) → j < suc i → test j ≡ true
  passed i f here j h = ⊎_elim (λ le. let same : j ≡ i = omega (arith, le, h) in rw same here) (f j) (le-or-lt i j)

  failing-by : (left i n : ℕ) (t : Bool) → i + suc left ≡ n → ((j : ℕ) → j < i → test j ≡ true) → test i ≡ t → (((j : ℕ) → j < suc i → test j ≡ true) → Told n (fails_from test (suc i) left)) → Told n (cond t (fails_from test (suc i) left) i)
  failing-by left i n true e f here later = later (passed i f here)
  failing-by left i n false e f here later = record { most = omega (arith, e); before = f; fails = λ h. here }

  failing-from : (left i n : ℕ) → i + left ≡ n → ((j : ℕ) → j < i → test j ≡ true) → Told n (fails_from test i left)
  unfolding fails_from
  failing-from zero i n e f = record { most = omega (arith, e); before = f; fails = λ h. absurd (omega (arith, e, h)) }
  failing-from (suc left) i n e f = failing-by left i n (test i) e f refl (failing-from left (suc i) n (omega (arith, e)))

  module _ (n : ℕ) where
    abbrev found : ℕ
    found = fails_from test 0 n

    told : Told n found
    told = failing-from n 0 n (omega arith) (λ j h. absurd (omega arith))

    one : {place : ℕ} → FirstFailing test n place → found ≡ place
    one {place} f =
        ⊎_elim (λ le. ⊎_elim (λ ge. omega (arith, le, ge)) (λ lt. absurd (clash (f.before found lt) (told.fails (omega (arith, lt, f.inside))))) (le-or-lt place found))
        (λ lt. absurd (clash (told.before place lt) f.fails)) (le-or-lt found place)

    -- a place is the first that fails exactly when it is found
    pub fails-exactly : (place : ℕ) → FirstFailing test n place ↔ ((found ≡ place) × (place < n))
    fails-exactly place = (
      λ f. (one f, f.inside),
      λ h. record { inside = h.1; fails = rw h.0 at told.fails h.1; before = rw h.0 at told.before },
    )

    -- none fails exactly when all pass; else the found one does
    pub fails-none : (found ≡ n) ↔ (all_from test 0 n ≡ true)
    fails-none = (
      λ e. (all-exactly test n).1 (rw e at told.before),
      λ e. ⊎_elim (λ le. omega (arith, le, told.most)) (λ lt. absurd (clash ((all-exactly test n).0 e found lt) (told.fails lt))) (le-or-lt n found),
    )

    pub fails-some : (all_from test 0 n ≡ true → ⊥) → FirstFailing test n found
    fails-some some = (fails-exactly found).1 (refl, ⊎_elim (λ le. absurd (some (fails-none.0 (omega (arith, le, told.most))))) (λ lt. lt) (le-or-lt n found))

-- ---- what stands at places

module _ {A : Type 0} (at : ℕ → A) where
  pub list-end : (n i : ℕ) → n ≤ i → list_from at i (n - i) ≡ []
  unfolding list_from
  list-end n i h = let none : n - i ≡ 0 = omega arith in rw none

  pub list-next : (n i : ℕ) → i < n → list_from at i (n - i) ≡ (at i ∷ list_from at (i + 1) (n - (i + 1)))
  unfolding list_from
  list-next n i h =
      let left : n - i ≡ suc (n - (i + 1)) = omega arith in
      rw (left, add-one i)

  pub list_length : (i n : ℕ) → length (list_from at i n) ≡ n
  unfolding list_from
  list_length i zero = refl
  list_length i (suc n) = ap suc (list_length (suc i) n)

  pub list_at : (i n d : ℕ) (none : A) → d < n → get_or (list_from at i n) d none ≡ at (i + d)
  unfolding list_from
  list_at i zero d none h = absurd (omega arith)
  list_at i (suc n) zero none h = let same : i + 0 ≡ i = omega arith in rw same
  list_at i (suc n) (suc d) none h = let on : i + suc d ≡ suc i + d = omega arith in rw on (list_at (suc i) n d none (omega arith))
