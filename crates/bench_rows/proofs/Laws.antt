-- Rows drawn one after the other, in the form of a loop's test; of a route that is refused nothing is drawn. Assumes nothing.
use mathlib.Core.Path.{◌≡◌, refl, sym, ap, ◌∙◌}
use mathlib.Core.Logic.{◌≢◌}
use mathlib.Core.Bool.{Bool}
use mathlib.Core.List.{List, [], ◌∷◌}
use Prim.Native.Nat.{ℕ, ◌+◌, ◌<◌}
use native.Mathlib.Numerals.{add-one}
use lib.IntN.{ℤ, pos}
use lib.ListN.{length, get_or, drop}
use lib.Seq.{drop-cons, drop-length}
use Rattle.shapes.specs.declared.limits.Limits.{Limits}
use Rattle.route.specs.Answers.{ListingValues, draw_refusal, no_listing, row_answer, row_to}
use Rattle.route.proofs.Chains.{row-stopped}
use Rattle.bench_rows.specs.Drawn.{last_of, after_all, last_columns, rows_to}

-- ---- the rows from a place on leave what all leave

module _ (limits : Limits) (closed : Bool) (cs : List ℤ) (w : ℤ) (rows out₀ : List ℤ) where
  abbrev pub Left : ℕ → ListingValues → List ℤ → Type 0
  Left i last out =
      ((last_of (row_answer limits closed cs w) (length out₀) last (drop i rows)).total ≡ last_columns limits closed cs w rows (length out₀))
      × (after_all (row_to limits closed cs w) out (drop i rows) ≡ rows_to limits closed cs w rows out₀)

  pub left-all : {last : ListingValues} → last ≡ no_listing 0 0 → Left 0 last out₀
  unfolding last_columns rows_to
  left-all e = (rw e, refl)

  module _ (i : ℕ) (last : ListingValues) (out : List ℤ) where
    -- the row at the place was drawn
    pub left-more : i < length rows → length out ≡ length out₀ → {drawn : ListingValues} → drawn ≡ row_answer limits closed cs w (get_or rows i (pos 0)) (length out)
        → {after : List ℤ} → after ≡ row_to limits closed cs w (get_or rows i (pos 0)) out → Left i last out → Left (i + 1) drawn after
    unfolding last_of after_all
    left-more h same e f left =
        let next : drop i rows ≡ get_or rows i (pos 0) ∷ drop (i + 1) rows = rw (add-one i) (drop-cons rows i (pos 0) h) in
        let is = rw next at left in
        (rw (e, same) is.0, rw f is.1)

    pub left-none : length rows ≡ i → Left i last out → (last.total ≡ last_columns limits closed cs w rows (length out₀)) × (out ≡ rows_to limits closed cs w rows out₀)
    unfolding last_of after_all
    left-none e left = rw (sym e, drop-length rows) at left

-- ---- a route that is refused

module _ (limits : Limits) (closed : Bool) (cs : List ℤ) (w : ℤ) {m : ℕ} (is : draw_refusal limits closed cs w ≡ m) (some : m ≢ 0) where
  none-listed : (rows out : List ℤ) (last : ListingValues) → last.total ≡ pos 0 → (last_of (row_answer limits closed cs w) (length out) last rows).total ≡ pos 0
  unfolding last_of
  none-listed [] out last e = e
  none-listed (y ∷ ys) out last e = none-listed ys out (row_answer limits closed cs w y (length out)) (sym (ap (λ r. r.total) (row-stopped limits closed cs w is some refl y out refl).0))

  none_written : (rows out : List ℤ) → after_all (row_to limits closed cs w) out rows ≡ out
  unfolding after_all
  none_written [] out = refl
  none_written (y ∷ ys) out = ap (λ o. after_all (row_to limits closed cs w) o ys) (sym (row-stopped limits closed cs w is some refl y out refl).1) ∙ none_written ys out

  pub nothing-drawn : (rows out : List ℤ) → (last_columns limits closed cs w rows (length out) ≡ pos 0) × (rows_to limits closed cs w rows out ≡ out)
  unfolding last_columns rows_to
  nothing-drawn rows out = (none-listed rows out (no_listing 0 0) refl, none_written rows out)
