-- Spans merged one after another, as lists. Assumes nothing.
use mathlib.Core.Path.{◌≡◌, refl, ap, ◌∙◌}
use mathlib.Core.Logic.{◌↔◌, ◌⊎◌, inl, inr, ⊎_elim}
use mathlib.Core.Bool.{Bool, true, false}
use mathlib.Core.List.{List, [], ◌∷◌}
use Prim.Native.Nat.{ℕ, zero, suc, ◌+◌, ◌≤◌, ◌<◌}
use native.Mathlib.Omega.{arith}
use lib.IntN.{ℤ}
use Rattle.whole.specs.Places.{list_from}
use Rattle.whole.proofs.Tests.{clash}
use Rattle.shapes.specs.declared.Span.{Span}
use Rattle.shapes.specs.Spans.{Covers, is_empty}
use Rattle.shapes.proofs.Columns.{covers-some}
use Rattle.scanline.specs.Spans.{touches, try_extended, try_taken}
use Rattle.scanline.proofs.Laws.{join-no, joined-covers, take-some, take_none}
use Rattle.scanline_intersections.specs.Merging.{merged_next, merged_all}
use Rattle.scanline_intersections.specs.Words.{Covered, first, later}

-- ---- the columns: lost or added never

covered_none : {c : ℤ} → Covered c [] → ⊥
covered_none h = elim h [ ]

covered-cases : {c : ℤ} {s : Span} {ss : List Span} → Covered c (s ∷ ss) → Covers s c ⊎ Covered c ss
covered-cases (first h) = inl h
covered-cases (later h) = inr h

end_by : (s : Span) (c : ℤ) (t : Bool) → is_empty s ≡ t → Covered c (merged_all s []) ↔ (Covers s c ⊎ Covered c [])
unfolding merged_all
end_by s c true e = rw e (λ h. absurd (covered_none h), ⊎_elim (λ h. absurd (clash e (covers-some s c h))) (λ h. h))
end_by s c false e = rw e (covered-cases, ⊎_elim first later)

turn_by : (s o : Span) (os : List Span) (c : ℤ) → ((r : Span) → Covered c (merged_all r os) ↔ (Covers r c ⊎ Covered c os))
    → (t : Bool) → (try_extended s o).joined ≡ t → Covered c (merged_all s (o ∷ os)) ↔ (Covers s c ⊎ Covered c (o ∷ os))
unfolding merged_all
turn_by s o os c rest true e =
    let all = rest (try_extended s o).span in
    let two = joined-covers s o e c in
    rw e (
      λ h. ⊎_elim (λ g. ⊎_elim inl (λ k. inr (first k)) (two.0 g)) (λ g. inr (later g)) (all.0 h),
      λ h. all.1 (⊎_elim (λ g. inl (two.1 (inl g))) (λ g. ⊎_elim (λ k. inl (two.1 (inr k))) inr (covered-cases g)) h),
    )
turn_by s o os c rest false e =
    rw e (λ h. ⊎_elim inl (λ g. inr (⊎_elim first later ((rest o).0 g))) (covered-cases h), ⊎_elim first (λ g. later ((rest o).1 (covered-cases g))))

-- all merged spans together have the columns of what is gathered and of the spans that are left
pub merged-covers : (s : Span) (os : List Span) (c : ℤ) → Covered c (merged_all s os) ↔ (Covers s c ⊎ Covered c os)
merged-covers s [] c = end_by s c (is_empty s) refl
merged-covers s (o ∷ os) c = turn_by s o os c (λ r. merged-covers r os c) (try_extended s o).joined refl

-- ---- a span handed out is not empty

end-some : (s : Span) (t : Bool) → is_empty s ≡ t → (try_taken s).taken ≡ true → is_empty (try_taken s).span ≡ false
end-some s true e h = absurd (clash h (ap (λ r. r.taken) (take_none s e)))
end-some s false e h = ap (λ r. is_empty r.span) (take-some s e) ∙ e

some-by : (k : ℕ) (w : ℤ) (s o : Span) (os : List Span) → ((r : Span) → (merged_next (k + 1) w r os).found ≡ true → is_empty (merged_next (k + 1) w r os).span ≡ false)
    → (t : Bool) → (try_extended s o).joined ≡ t → (merged_next k w s (o ∷ os)).found ≡ true → is_empty (merged_next k w s (o ∷ os)).span ≡ false
unfolding merged_next
some-by k w s o os rest true e h = rw e (rest (try_extended s o).span (rw e at h))
some-by k w s o os rest false e h = rw e ((join-no s o).0 e).0

-- whatever is handed out
pub some_left : (k : ℕ) (w : ℤ) (s : Span) (os : List Span) → (merged_next k w s os).found ≡ true → is_empty (merged_next k w s os).span ≡ false
unfolding merged_next
some_left k w s [] h = end-some s (is_empty s) refl h
some_left k w s (o ∷ os) h = some-by k w s o os (λ r. some_left (k + 1) w r os) (try_extended s o).joined refl h

-- ---- the row of what is gathered stays

joined_by : (s o : Span) (a b t : Bool) → is_empty s ≡ a → is_empty o ≡ b → touches s o ≡ t → (try_extended s o).span.row ≡ s.row
unfolding try_extended
joined_by s o true b t e f g = rw e
joined_by s o false true t e f g = rw (e, f)
joined_by s o false false true e f g = rw (e, f, g)
joined_by s o false false false e f g = rw (e, f, g)

pub joined-row : (s o : Span) → (try_extended s o).span.row ≡ s.row
joined-row s o = joined_by s o (is_empty s) (is_empty o) (touches s o) refl refl refl

-- ---- spans by places: a column of one of them is a column at some place

pub record At (at : ℕ → Span) (k n : ℕ) (c : ℤ) : Type 0 where
  pub place : ℕ
  pub low : k ≤ place
  pub high : place < k + n
  pub covers : Covers (at place) c

module _ (at : ℕ → Span) (c : ℤ) where
  pub covered-place : (n k : ℕ) → Covered c (list_from at k n) → At at k n c
  unfolding list_from
  covered-place zero k h = absurd (covered_none h)
  covered-place (suc n) k h =
      ⊎_elim (λ g. record { place = k; low = omega arith; high = omega arith; covers = g })
      (λ g. let r = covered-place n (suc k) g in record { place = r.place; low = omega (arith, r.low); high = omega (arith, r.high); covers = r.covers })
      (covered-cases h)

  pub place-covered : (n k d : ℕ) → d < n → Covers (at (k + d)) c → Covered c (list_from at k n)
  unfolding list_from
  place-covered zero k d h g = absurd (omega arith)
  place-covered (suc n) k zero h g = let here : k + 0 ≡ k = omega arith in first (rw here at g)
  place-covered (suc n) k (suc d) h g = let on : k + suc d ≡ suc k + d = omega arith in later (place-covered n (suc k) d (omega arith) (rw on at g))
