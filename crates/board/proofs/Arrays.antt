-- A list taken one by one, and an array that a loop fills from the front, one store a turn. Assumes nothing.
use mathlib.Core.Path.{◌≡◌, sym, ap, ◌∙◌}
use mathlib.Core.List.{List, [], ◌∷◌, ◌++◌, append_assoc, map}
use Prim.Native.Nat.{ℕ, suc, ◌+◌, ◌-◌, ◌≤◌, ◌<◌}
use native.Mathlib.Nat.{add-zero, zero-add}
use native.Mathlib.Numerals.{add-one}
use native.Mathlib.Omega.{arith}
use lib.ListN.{length, get_or, take, drop, set, replicate, length-map, length-append, length-take, length-drop, drop_of_length-le}
use lib.Seq.{take-length, take-suc, set_at, length-take-le, drop-cons, get_or-drop, drop-drop, paste-suc}

-- a field that is an array of structs: its relation stands at the list of the structs' rows
pub length-mapped : {A B : Type 0} (f : A → B) (l : List A) (n : ℕ) → length (map f l) ≡ n → length l ≡ n
length-mapped f l n e = sym (length-map l f) ∙ e

-- ---- a list from place i on

module _ {ℓ} {A : Type ℓ} (xs : List A) (i : ℕ) where
  pub left_more : (d : A) → i < length xs → drop i xs ≡ get_or xs i d ∷ drop (i + 1) xs
  left_more d h = rw add-one (drop-cons xs i d h)

  pub left-none : length xs ≤ i → drop i xs ≡ []
  left-none h = drop_of_length-le xs {i = i} h

-- ---- an array of n filled from the front with a list s: its first j places hold those of s, the others z

module _ {ℓ} {A : Type ℓ} where
  abbrev pub partly : ℕ → A → List A → ℕ → List A
  partly n z s j = take j s ++ replicate (n - j) z

  -- where what is left of s begins with x, j is a place of s
  pub at_place : (s rest : List A) (j : ℕ) (x : A) → drop j s ≡ x ∷ rest → (j < length s) × (get_or s j x ≡ x)
  at_place s rest j x e =
      let long = ap length e in
      let cut = length-drop j s in
      let here : get_or (drop j s) 0 x ≡ x = rw e in
      (omega arith, rw add-zero at (rw (get_or-drop j s 0 x) at here))

  -- one store more
  pub fill-turn : (n : ℕ) (z : A) (s rest : List A) (j : ℕ) (x : A) → j < n → drop j s ≡ x ∷ rest → set (partly n z s j) j x ≡ partly n z s (j + 1)
  fill-turn n z s rest j x h e =
      let p = at_place s rest j x e in
      let one : n - j ≡ suc (n - (j + 1)) = omega arith in
      let more : take (j + 1) s ≡ take j s ++ (x ∷ []) = rw add-one (take-suc s j x p.0 ∙ rw p.1) in
      rw (one, more, append_assoc) (set_at (take j s) z (replicate (n - (j + 1)) z) x j (length-take-le j s (omega arith)))

  -- and one less is left
  pub fill-rest : (s rest : List A) (j : ℕ) (x : A) → drop j s ≡ x ∷ rest → drop (j + 1) s ≡ rest
  fill-rest s rest j x e = sym (drop-drop 1 j s) ∙ ap (drop 1) e

  pub fill_done : (n : ℕ) (z : A) (s : List A) (j : ℕ) → j ≡ length s → partly n z s j ≡ s ++ replicate (n - length s) z
  fill_done n z s j e = rw (e, take-length)

-- ---- a list d written over from the front with a list s: its first j places hold those of s, the others its own

module _ {ℓ} {A : Type ℓ} where
  abbrev pub pasted : List A → List A → ℕ → List A
  pasted s d j = take j s ++ drop j d

  pub paste-length : (s d : List A) (j : ℕ) → j ≤ length s → j ≤ length d → length (pasted s d j) ≡ length d
  paste-length s d j h k = simp (length-append, length-take, length-drop) (omega arith)

  -- one store more, where what is left of s begins with x
  pub paste-turn : (s d rest : List A) (j : ℕ) (x : A) → j < length d → drop j s ≡ x ∷ rest → set (pasted s d j) j x ≡ pasted s d (j + 1)
  paste-turn s d rest j x h e =
      let p = at_place s rest j x e in
      rw add-one (simp (zero-add, p.1) at (paste-suc d 0 s j x (rw zero-add h) p.0))

  pub paste-done : (s d : List A) (j : ℕ) → j ≡ length s → pasted s d j ≡ s ++ drop (length s) d
  paste-done s d j e = rw (e, take-length)
