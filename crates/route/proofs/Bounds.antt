-- Rows widened by those of several segments, from no rows at all, go from the least first to the greatest last of them. Assumes nothing.
use mathlib.Core.Path.{◌≡◌, refl, ◌∙◌}
use mathlib.Core.Logic.{◌⊎◌, inl, inr, ⊎_elim}
use mathlib.Core.Bool.{true}
use Prim.Native.Nat.{ℕ, zero, suc, ◌+◌, ◌<◌}
use native.Mathlib.Nat.{zero-add}
use native.Mathlib.Omega.{arith}
use lib.IntN.{ℤ}
use Rattle.whole.specs.Places.{list_from}
use Rattle.whole.proofs.Linear.{linear}
use Rattle.whole.proofs.Laws.{lesser-one, greater-one}
use Rattle.thick_segment.specs.declared.Rows.{Rows}
use Rattle.thick_segment.specs.Rows.{around}
use Rattle.thick_segment.specs.Words.{Holds}
use Rattle.thick_segment.proofs.Lit.{around-first, around-second, holds_on}
use Rattle.route.specs.Rows.{RowRange}
use Rattle.route.specs.Rows.{no_rows, range_of, ends, with_rows, with_all}

-- ---- those of one segment more, of rows that there are

record Widened (range : RowRange) (more : Rows) (wide : RowRange) : Type 0 where
  some : wide.some ≡ true
  holds : Holds (ends wide) more
  keeps : Holds (ends wide) (ends range)
  first-is : (wide.first ≡ range.first) ⊎ (wide.first ≡ more.first)
  last-is : (wide.last ≡ range.last) ⊎ (wide.last ≡ more.last)

widened : (range : RowRange) (more : Rows) → range.some ≡ true → Widened range more (with_rows range more)
unfolding with_rows around
widened range more e =
    rw e
    (record {
      some = refl;
      holds = around-second (ends range) more;
      keeps = around-first (ends range) more;
      first-is = lesser-one range.first more.first;
      last-is = greater-one range.last more.last;
    })

-- ---- those of all segments

module _ (drawn_at : ℕ → Rows) where
  -- y is an end of the rows at one of `left` places from k on
  pub record Met (end : Rows → ℤ) (k left : ℕ) (y : ℤ) : Type 0 where
    pub at : ℕ
    pub inside : at < left
    pub is : y ≡ end (drawn_at (k + at))

  -- rows that hold those at `left` places from k on, and the rows before; each end is one of theirs
  record Reaches (k left : ℕ) (range wide : RowRange) : Type 0 where
    some : wide.some ≡ true
    holds : (i : ℕ) → i < left → Holds (ends wide) (drawn_at (k + i))
    keeps : Holds (ends wide) (ends range)
    first-met : (wide.first ≡ range.first) ⊎ Met (λ r. r.first) k left wide.first
    last-met : (wide.last ≡ range.last) ⊎ Met (λ r. r.last) k left wide.last

  -- one place later
  later : {end : Rows → ℤ} {k left : ℕ} {y : ℤ} → Met end (suc k) left y → Met end k (suc left) y
  later {end} {k} m = record { at = suc m.at; inside = omega (arith, m.inside); is = let on : k + suc m.at ≡ suc k + m.at = omega arith in rw on m.is }

  here : {end : Rows → ℤ} {k left : ℕ} {y : ℤ} → y ≡ end (drawn_at k) → Met end k (suc left) y
  here {end} {k} e = record { at = 0; inside = omega arith; is = let same : k + 0 ≡ k = omega arith in rw same e }

  -- the first place, and those after it
  each : {wide : Rows} (k left : ℕ) → Holds wide (drawn_at k) → ((i : ℕ) → i < left → Holds wide (drawn_at (suc k + i))) → (i : ℕ) → i < suc left → Holds wide (drawn_at (k + i))
  each k left first rest zero h = let same : k + 0 ≡ k = omega arith in rw same first
  each k left first rest (suc i) h = let on : k + suc i ≡ suc k + i = omega arith in rw on (rest i (omega arith))

  reaches : (k left : ℕ) (range : RowRange) → range.some ≡ true → Reaches k left range (with_all range (list_from drawn_at k left))
  unfolding with_all list_from
  reaches k zero range e =
      record { some = e; holds = λ i h. absurd (omega arith); keeps = record { from = omega linear; to = omega linear }; first-met = inl refl; last-met = inl refl }
  reaches k (suc left) range e =
      let w = widened range (drawn_at k) e in
      let r = reaches (suc k) left (with_rows range (drawn_at k)) w.some in
      record {
        some = r.some;
        holds = each k left (holds_on r.keeps w.holds) r.holds;
        keeps = holds_on r.keeps w.keeps;
        first-met = ⊎_elim (λ z. ⊎_elim (λ y. inl (z ∙ y)) (λ y. inr (here (z ∙ y))) w.first-is) (λ m. inr (later m)) r.first-met;
        last-met = ⊎_elim (λ z. ⊎_elim (λ y. inl (z ∙ y)) (λ y. inr (here (z ∙ y))) w.last-is) (λ m. inr (later m)) r.last-met;
      }

  -- from no rows at all
  pub record Bounds (n : ℕ) (range : RowRange) : Type 0 where
    pub some : range.some ≡ true
    pub holds : (i : ℕ) → i < n → Holds (ends range) (drawn_at i)
    pub first-met : Met (λ r. r.first) 0 n range.first
    pub last-met : Met (λ r. r.last) 0 n range.last

  pub bounds : (n : ℕ) → 0 < n → Bounds n (with_all (no_rows 0 0) (list_from drawn_at 0 n))
  unfolding with_all list_from with_rows
  bounds zero h = absurd (omega arith)
  bounds (suc n) h =
      let r = reaches 1 n (range_of (drawn_at 0)) refl in
      record {
        some = r.some;
        holds = λ i h. rw (zero-add i) at (each 0 n r.keeps r.holds i h);
        first-met = ⊎_elim (λ z. here z) (λ m. later m) r.first-met;
        last-met = ⊎_elim (λ z. here z) (λ m. later m) r.last-met;
      }

  -- no fewer rows hold them all
  pub bounds-least : {n : ℕ} {range : RowRange} → Bounds n range → {r : Rows} → ((i : ℕ) → i < n → Holds r (drawn_at i)) → Holds r (ends range)
  bounds-least b all =
      let first = b.first-met in
      let last = b.last-met in
      record {
        from = rw (first.is, zero-add first.at) (all first.at first.inside).from;
        to = rw (last.is, zero-add last.at) (all last.at last.inside).to;
      }
