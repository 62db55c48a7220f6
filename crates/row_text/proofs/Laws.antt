-- How many pixels a row, a route and a file can have, and what the printing functions are handed. Assumes nothing.
use mathlib.Core.Path.{◌≡◌, refl, sym, ap, ◌∙◌}
use mathlib.Core.Logic.{◌≢◌, ⊎_elim}
use mathlib.Core.Bool.{Bool, true, false, cond}
use mathlib.Core.List.{List, []}
use Prim.Native.Nat.{ℕ, ◌+◌, ◌*◌, ◌≤◌, ◌<◌}
use native.Mathlib.Omega.{arith}
use borrow.Author.Tests.{eq-eqb, ne_eqb, eqb-true, le-leb}
use lib.Dec.{eqb}
use lib.IntN.{ℤ, pos, neg_ℤ}
use lib.ListN.{length, get_or, take, drop}
use lib.Seq.{take-append_seam}
use Rattle.std.specs.Prelude.{Option, Result, Ok, Err, IsOk}
use Rattle.whole.specs.Number.{Within}
use Rattle.whole.proofs.Linear.{le-or-lt}
use Rattle.whole.proofs.Tests.{clash}
use Rattle.whole.proofs.Columns.{count_most}
use Rattle.whole.proofs.Bounds.{within_more}
use Rattle.shapes.specs.declared.limits.Limits.{Limits}
use Rattle.shapes.specs.Limits.{line_limit, Roomy}
use Rattle.shapes.specs.declared.refusals.Refusal.{Refusal}
use Rattle.shapes.specs.Refusals.{form_refused}
use Rattle.board.specs.declared.Board.{Board}
use Rattle.board.specs.Runs.{lit, total}
use Rattle.board.specs.Boards.{Sound, live}
use Rattle.board_laws.specs.Histories.{covered, columns}
use Rattle.board_laws.proofs.Lit.{total-columns}
use Rattle.route_file.specs.declared.Described.{Described}
use Rattle.route_file.specs.Form.{route_count, said_length, is_formed, Formed}
use Rattle.route_file.specs.Answers.{Counted, count_values, described_values, nothing, form_refusal, counted, described, coordinates, points_refusal, pointed, pointed_to}
use Rattle.route_file.proofs.Laws.{true-formed, formed-true, nine-exactly, number_small, enough, found-exactly, entry-refusal, coordinates-none}
use Rattle.route.specs.declared.Joins.{Joins}
use Rattle.route.specs.Joined.{Kept, joins_of}
use Rattle.route.specs.Rows.{RowRange, rows_in, RowsNear, row_count, rows_refusal}
use Rattle.route.specs.Answers.{draw_refusal, row_refusal, whole_refusal}
use Rattle.route.specs.Words.{spans_on}
use Rattle.shapes.proofs.Numbers.{number-some}
use Rattle.route.proofs.Chains.{Ready, kept-route}
use Rattle.shapes.proofs.Choices.{or-none}
use Rattle.route.proofs.Drawn.{drawn-sound}
use Rattle.route.proofs.Kept.{kept_more}
use Rattle.route.proofs.Ranges.{none-of-none, rows-near, row_within, count_small}
use Rattle.route.proofs.Told.{row-columns}
use Rattle.row_text.specs.Pixels.{sum_from, lit_on, lit_at, lit_in, route_pixels, entry_pixels, all_pixels, file_pixels}
use Rattle.row_text.proofs.Sums.{sum-within}

-- ---- a row

-- the most columns that a row has within the machine's bound, and the most rows
abbrev pub most : ℕ
most = 2 * line_limit + 1

total-within : {b : Board} → Sound line_limit b → Within (total (live b)) most
total-within {b} s = rw (total-columns s.ascending) (record { bound = count_most (lit (live b)) (neg_ℤ (pos line_limit)) most })

-- what a row that is not refused adds is the number of columns that its segments' spans cover
pub lit-columns : (limits : Limits) (closed : Bool) (cs : List ℤ) (w row : ℤ) → row_refusal limits closed cs w row ≡ 0
    → lit_on (joins_of limits.corner closed cs w) row ≡ pos (columns limits.corner (covered (spans_on closed cs w row)))
unfolding lit_on
lit-columns = row-columns

module _ {route : Joins} (kept : Kept line_limit route) where
  pub row-pixels : {row : ℤ} → Within row line_limit → Within (lit_on route row) most
  unfolding lit_on
  row-pixels near = total-within (drawn-sound kept near)

  -- ---- a route

  module _ {rows : RowRange} (near : RowsNear line_limit rows) where
    pub place-pixels : {i : ℕ} → i < row_count rows → Within (lit_at route rows i) most
    unfolding lit_at
    place-pixels h = row-pixels (row_within near h)

    rows-pixels : Within (lit_in route rows) (most * most)
    unfolding lit_in
    rows-pixels = within_more (sum-within (lit_at route rows) most (row_count rows) (λ i h. place-pixels h) 0 (row_count rows) (omega arith)) (omega (arith, count_small near))

module _ {limits : Limits} (roomy : Roomy limits) (closed : Bool) (cs : List ℤ) (w : ℤ) where
  abbrev number : ℕ
  number = whole_refusal limits closed cs w

  abbrev joins : Joins
  joins = joins_of limits.corner closed cs w

  -- a route that is not refused is drawn of its joins
  kept : number ≡ 0 → Kept line_limit joins
  unfolding whole_refusal
  kept e = kept_more (kept-route limits closed cs w ((or-none (draw_refusal limits closed cs w) (rows_refusal joins (rows_in joins))).0 e).0) roomy.corner_room

  route-pixels : Within (route_pixels limits closed cs w) (most * most)
  unfolding route_pixels
  route-pixels = by (eqb number 0) refl
    where
      by : (t : Bool) → eqb number 0 ≡ t → Within (cond t (lit_in joins (rows_in joins)) (pos 0)) (most * most)
      by true e = let k = kept (eqb-true number 0 e) in rows-pixels k (rows-near k)
      by false e = record { bound = omega arith }

  -- a refused route adds nothing, and any other what its rows light
  pub pixels-refused : {m : ℕ} → m ≡ number → m ≢ 0 → pos 0 ≡ route_pixels limits closed cs w
  unfolding route_pixels
  pixels-refused e some = rw (ne_eqb number 0 (λ z. some (e ∙ z)))

  pub pixels-drawn : {js : Joins} → Ready limits closed cs w js → number ≡ 0 → lit_in js (rows_in js) ≡ route_pixels limits closed cs w
  unfolding route_pixels
  pixels-drawn r e = rw (r.joins, e)

-- ---- a file

-- "a longer input is refusal 9": no two-byte number is its length
pub long-refused : (f : List ℕ) → ((i : ℕ) → get_or f i 0 < 256) → 65535 < length f → form_refusal f ≡ form_refused
unfolding said_length
long-refused f bytes long = (nine-exactly f).1 (λ h. absurd (omega (arith, h.said, number_small f 2 (bytes 2) (bytes 3))))

module _ (f : List ℕ) {c : Counted} (is : c ≡ counted f) where
  by_form : c.refusal ≡ cond (is_formed f) 0 9
  unfolding counted form_refusal
  by_form = ap (λ d. d.refusal) is

  module _ (limits : Limits) where
    pub file-refused : c.refusal ≢ 0 → pos 0 ≡ file_pixels limits f
    unfolding file_pixels
    file-refused some = by (is_formed f) by_form
      where
        by : (t : Bool) → c.refusal ≡ cond t 0 9 → pos 0 ≡ cond t (all_pixels limits f) (pos 0)
        by true e = absurd (some e)
        by false e = refl

  module _ (none : c.refusal ≡ 0) where
    passed : is_formed f ≡ true
    passed = by (is_formed f) by_form
      where
        by : (t : Bool) → c.refusal ≡ cond t 0 9 → t ≡ true
        by true e = refl
        by false e = absurd (omega (arith, none, e))

    pub file-formed : Formed f
    file-formed = true-formed f passed

    pub file-drawn : (limits : Limits) → all_pixels limits f ≡ file_pixels limits f
    unfolding file_pixels
    file-drawn limits = rw passed

-- ---- a route that the file does not have

-- a route of no points adds nothing
empty-adds : (limits : Limits) → route_pixels limits false [] (pos 0) ≡ pos 0
unfolding route_pixels lit_in sum_from
empty-adds limits = rw (none-of-none limits.corner) (by (eqb (whole_refusal limits false [] (pos 0)) 0))
  where
    by : (t : Bool) → cond t (pos 0) (pos 0) ≡ pos 0
    by true = refl
    by false = refl

module _ (f : List ℕ) (k : ℕ) (formed : Formed f) where
  pub entry-none : (limits : Limits) → nothing 0 ≡ described f k → pos 0 ≡ entry_pixels limits f k
  unfolding entry_pixels
  entry-none limits e =
      let past : route_count f ≤ k = ⊎_elim (λ le. le) (λ lt. absurd (clash ((found-exactly f k).1 (formed, lt)) (ap (λ d. d.found) (sym e)))) (le-or-lt (route_count f) k) in
      rw (← e, coordinates-none f k past, empty-adds limits)

  pub entry-ok : (r : Result (Option Described) Refusal) → described_values r ≡ described f k → IsOk r
  unfolding form_refusal
  entry-ok (Ok d) e = refl
  entry-ok (Err r) e = absurd (number-some r (ap (λ d. d.refusal) e ∙ entry-refusal f k ∙ rw (formed-true formed)))

-- ---- the points of a route of the file: 32,768 numbers are enough for them

module _ {f : List ℕ} (k : ℕ) (formed : Formed f) (bytes : (i : ℕ) → get_or f i 0 < 256) (out : List ℤ) (long : length out ≡ 32768) where
  accepted : points_refusal f k (length out) ≡ 0
  unfolding points_refusal
  accepted = rw (formed-true formed, le-leb (length (coordinates f k)) (length out) (omega (arith, enough f k formed bytes)))

  pub points-ok : (r : Result ℕ Refusal) → count_values r ≡ pointed f k (length out) → IsOk r
  unfolding pointed
  points-ok (Ok n) e = refl
  points-ok (Err r) e = absurd (number-some r (ap (λ p. p.refusal) e ∙ accepted))

  pub handed-count : (pointed f k (length out)).count ≡ length (coordinates f k)
  unfolding pointed
  handed-count = rw (eq-eqb (points_refusal f k (length out)) 0 accepted)

  pub handed : take (length (coordinates f k)) (pointed_to f k out) ≡ coordinates f k
  unfolding pointed_to
  handed = rw (eq-eqb (points_refusal f k (length out)) 0 accepted) (take-append_seam (coordinates f k) (drop (length (coordinates f k)) out))

pub entry-pixels : {limits : Limits} → Roomy limits → (f : List ℕ) (k : ℕ) → Within (entry_pixels limits f k) (most * most)
unfolding entry_pixels
entry-pixels roomy f k = route-pixels roomy (described f k).closed (coordinates f k) (described f k).width
