-- Lists by their places. Assumes nothing.
use mathlib.Core.Path.{◌≡◌, refl}
use mathlib.Core.List.{◌∷◌}
use Prim.Native.Nat.{ℕ, zero, suc, ◌+◌, ◌-◌, ◌<◌}
use native.Mathlib.Nat.{zero-add}
use native.Mathlib.Omega.{arith}
use lib.ListN.{drop}
use Rattle.whole.specs.Places.{list_from}

module _ {A : Type 0} where
  -- what is the same at each place
  same_from : (f g : ℕ → A) (left i : ℕ) → ((d : ℕ) → d < left → f (i + d) ≡ g (i + d)) → list_from f i left ≡ list_from g i left
  unfolding list_from
  same_from f g zero i same = refl
  same_from f g (suc left) i same =
      let here : i + 0 ≡ i = omega arith in
      let first = rw here at (same 0 (omega arith)) in
      rw (first, same_from f g left (suc i) (λ d h. let on : suc i + d ≡ i + suc d = omega arith in rw on (same (suc d) (omega arith))))

  pub list_same : (f g : ℕ → A) (n : ℕ) → ((i : ℕ) → i < n → f i ≡ g i) → list_from f 0 n ≡ list_from g 0 n
  list_same f g n same = same_from f g n 0 (λ d h. rw (zero-add d) (same d h))

  drop-from : (f : ℕ → A) (left i d : ℕ) → d < left → drop d (list_from f i left) ≡ f (i + d) ∷ list_from f (i + d + 1) (left - (d + 1))
  unfolding list_from
  drop-from f zero i d h = absurd (omega arith)
  drop-from f (suc left) i zero h =
      let a : i + 0 ≡ i = omega arith in
      let b : i + 0 + 1 ≡ suc i = omega arith in
      let c : suc left - (0 + 1) ≡ left = omega arith in
      rw (b, c, a)
  drop-from f (suc left) i (suc d) h =
      let a : i + suc d ≡ suc i + d = omega arith in
      let b : i + suc d + 1 ≡ suc i + d + 1 = omega arith in
      let c : suc left - (suc d + 1) ≡ left - (d + 1) = omega arith in
      rw (b, c, a) (drop-from f left (suc i) d (omega arith))

  -- what stands at place i is the first of those that are left
  pub list-drop : (f : ℕ → A) (n i : ℕ) → i < n → drop i (list_from f 0 n) ≡ f i ∷ list_from f (i + 1) (n - (i + 1))
  list-drop f n i h = simp zero-add at (drop-from f n 0 i h)
