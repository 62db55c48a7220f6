-- 02's K9: one bend at most is named, and what an answer that is refused with 5 tells of it. Assumes nothing.
use mathlib.Core.Path.{◌≡◌, refl, sym, ap, subst, ◌∙◌}
use mathlib.Core.Logic.{◌↔◌, ◌≢◌, ⊎_elim}
use mathlib.Core.Bool.{Bool, true, cond}
use Prim.Native.Nat.{ℕ}
use native.Mathlib.Omega.{arith}
use lib.Dec.{eqb, lit<}
use Rattle.whole.proofs.Linear.{le-or-lt}
use Rattle.whole.proofs.Tests.{clash, else-true, either, eqb-iff, Chosen, chosen-exactly}
use Rattle.line_join.specs.declared.Join.{Join}
use Rattle.line_join.specs.Caps.{JoinNear}
use Rattle.line_join.specs.Words.{Named, BendTold}

-- an answer that is chosen by its refusal n tells the bend of the refused one, if that is 0 where there is none
pub chosen-bend : {A : Type 0} (bend : A → ℕ) (n : ℕ) {answer refused : A} {b : ℕ} → bend answer ≡ 0 → bend refused ≡ b → (n ≡ 0 → b ≡ 0) → bend (cond (eqb n 0) answer refused) ≡ b
chosen-bend {A} bend n {answer} {refused} {b} none some unnamed =
    either (λ a. bend a ≡ b) (eqb n 0) (λ e. none ∙ sym (unnamed ((eqb-iff n 0).0 e))) (λ e. some)

module _ (k : ℕ) (join : ℕ → Join) (count : ℕ) where
  pub named-one : {p q : ℕ} → Named k join count p → Named k join count q → p ≡ q
  named-one a b =
      let same : a.place ≡ b.place =
      ⊎_elim (λ le. ⊎_elim (λ ge. omega (arith, le, ge)) (λ lt. absurd (a.outside (b.before a.place lt))) (le-or-lt b.place a.place))
      (λ lt. absurd (b.outside (a.before b.place lt))) (le-or-lt a.place b.place) in
      sym a.told ∙ ap (λ i. (join i).position) same ∙ b.told

  -- from when an answer is refused with 5, and what its position is then and else
  pub bend-told : {Free Far : Type 0} {n b : ℕ} → (n ≡ 5) ↔ (Free × Far) → ((p : ℕ) → Named k join count p → Far) → (n ≡ 5 → Named k join count b) → (n ≢ 5 → b ≡ 0)
      → BendTold Free k join count n b
  bend-told five far named other =
      record {
        five = λ p. (
          λ h. ((five.0 h.0).0, subst (Named k join count) h.1 (named h.0)),
          λ h. let is = five.1 (h.0, far p h.1) in (is, named-one (named is) h.1),
        );
        other = other;
      }

  -- an answer is refused with 5 just where another is
  pub bend-as : {Free : Type 0} {m n b : ℕ} → (n ≡ 5) ↔ (m ≡ 5) → BendTold Free k join count m b → BendTold Free k join count n b
  bend-as same told =
      record {
        five = λ p. (λ h. (told.five p).0 (same.0 h.0, h.1), λ h. let g = (told.five p).1 h in (same.1 g.0, g.1));
        other = λ some. told.other (λ e. some (same.1 e));
      }

  -- of an answer that is refused with 5 alone, exactly where P fails
  pub chosen-told : {P A : Type 0} {x a b : A} (number bend : A → ℕ) (t : Bool) → (t ≡ true) ↔ P → Chosen P x a b → number a ≡ 0 → bend a ≡ 0 → number b ≡ 5
      → ((P → ⊥) → Named k join count (bend b)) → ((p : ℕ) → Named k join count p → P → ⊥) → BendTold Unit k join count (number x) (bend x)
  chosen-told {P} {x = x} number bend t decided c none zero five named far =
      let exactly : (number x ≡ 5) ↔ (P → ⊥) = chosen-exactly number none five (lit< tt) c in
      bend-told (λ e. (tt, exactly.0 e), λ h. exactly.1 h.1) far
      (λ e. let far = exactly.0 e in subst (Named k join count) (ap bend (sym (c.fails far))) (named far))
      (λ other. ap bend (c.holds (decided.0 (else-true t (λ e. other (exactly.1 (λ p. clash (decided.1 p) e)))))) ∙ zero)

-- a join by itself
module _ (k : ℕ) (j : Join) where
  pub alone-named : (JoinNear k j → ⊥) → Named k (λ i. j) 1 j.position
  alone-named far = record { place = 0; inside = lit< tt; outside = far; before = λ i h. absurd (omega arith); told = refl }

  pub alone-far : (p : ℕ) → Named k (λ i. j) 1 p → JoinNear k j → ⊥
  alone-far p n = n.outside
