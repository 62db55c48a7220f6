-- The first of two numbers that is a refusal: when it is a given number. Assumes nothing.
use mathlib.Core.Path.{◌≡◌, refl, sym, ◌∙◌}
use mathlib.Core.Logic.{◌↔◌, ◌⊎◌, inl, inr, ⊎_elim}
use mathlib.Core.Bool.{Bool, true, false, cond}
use Prim.Native.Nat.{ℕ, ◌<◌}
use native.Mathlib.Omega.{arith}
use borrow.Author.Tests.{eqb-true, eqb-false, eq-eqb, ne_eqb}
use lib.Dec.{eqb}
use Rattle.shapes.specs.Refusals.{or_else}

pub or-zero : (first : ℕ) → or_else first 0 ≡ first
or-zero first = by (eqb first 0) refl
  where
    by : (t : Bool) → eqb first 0 ≡ t → cond t 0 first ≡ first
    by true e = sym (eqb-true first 0 e)
    by false e = refl

module _ (first second : ℕ) where
  pub or-free : first ≡ 0 → or_else first second ≡ second
  or-free e = rw (eq-eqb first 0 e)

  pub or-stopped : (first ≡ 0 → ⊥) → or_else first second ≡ first
  or-stopped other = rw (ne_eqb first 0 other)

  zero_or_not : (first ≡ 0) ⊎ (first ≡ 0 → ⊥)
  zero_or_not = by (eqb first 0) refl
    where
      by : (t : Bool) → eqb first 0 ≡ t → (first ≡ 0) ⊎ (first ≡ 0 → ⊥)
      by true e = inl (eqb-true first 0 e)
      by false e = inr (eqb-false first 0 e)

  -- the second, where the first lets through: for a number that the first never is, or is where there is none
  pub or-after : {Q : Type 0} {m : ℕ} → (first ≡ m → (first ≡ 0 → ⊥) → ⊥) → (second ≡ m) ↔ Q → (or_else first second ≡ m) ↔ ((first ≡ 0) × Q)
  or-after other q = (
    λ e. ⊎_elim (λ z. (z, q.0 (sym (or-free z) ∙ e))) (λ no. absurd (other (sym (or-stopped no) ∙ e) no)) zero_or_not,
    λ h. or-free h.0 ∙ q.1 h.1,
  )

  pub or-none : (or_else first second ≡ 0) ↔ ((first ≡ 0) × (second ≡ 0))
  or-none = or-after (λ z no. no z) (λ e. e, λ e. e)

  module _ {m : ℕ} (some : 0 < m) where
    pub or-either : (or_else first second ≡ m) ↔ ((first ≡ m) ⊎ ((first ≡ 0) × (second ≡ m)))
    or-either = (
      λ e. ⊎_elim (λ z. inr (z, sym (or-free z) ∙ e)) (λ other. inl (sym (or-stopped other) ∙ e)) zero_or_not,
      λ e. ⊎_elim (λ f. or-stopped (λ z. omega (arith, some, f, z)) ∙ f) (λ s. or-free s.0 ∙ s.1) e,
    )

    -- the first is never this number, or the second is not
    pub or_later : (first ≡ m → ⊥) → (or_else first second ≡ m) ↔ ((first ≡ 0) × (second ≡ m))
    or_later never = or-after (λ f _. never f) (λ e. e, λ e. e)

    pub or-before : (second ≡ m → ⊥) → (or_else first second ≡ m) ↔ (first ≡ m)
    or-before never = (λ e. ⊎_elim (λ f. f) (λ s. absurd (never s.1)) (or-either.0 e), λ f. or-either.1 (inl f))
