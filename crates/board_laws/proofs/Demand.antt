-- Demand 3 of 01, over all histories; and that the board's test passes exactly the boards that histories reach. Assumes nothing.
use mathlib.Core.Path.{◌≡◌, refl, sym, ap, ◌∙◌}
use mathlib.Core.Bool.{Bool, true, false, cond, ◌||◌}
use mathlib.Core.List.{List, [], ◌∷◌, ◌++◌}
use mathlib.Core.Logic.{◌⊎◌, ⊎_elim, inl, inr}
use Prim.Native.Nat.{ℕ, ◌*◌, ◌≤◌, ◌<◌}
use native.Mathlib.Nat.{le_refl, le_trans}
use native.Mathlib.Omega.{arith}
use borrow.Author.Tests.{eqb-true, eqb-false, le-leb}
use lib.Dec.{eqb, lit≤}
use lib.IntN.{ℤ, pos}
use lib.ListN.{length, drop}
use lib.Seq.{length-take-le, drop-append_seam}
use lib.Signed.{lt_z, le_z}
use Rattle.whole.specs.Number.{Within}
use Rattle.whole.specs.Columns.{between}
use Rattle.whole.proofs.Columns.{count_same}
use Rattle.whole.proofs.Linear.{opp}
use Rattle.whole.proofs.Orders.{ordered}
use Rattle.whole.proofs.Spans.{within_of}
use Rattle.shapes.specs.Limits.{board_runs}
use Rattle.shapes.specs.Spans.{span_of, is_empty, SpanSound}
use Rattle.shapes.specs.declared.Span.{Span}
use Rattle.board.specs.declared.Run.{Run}
use Rattle.board.specs.declared.Board.{Board}
use Rattle.board.specs.Runs.{lit, total, Follows, Ascending, none, then, edge, with_run, flat}
use Rattle.board.specs.Boards.{Answer, live, board_of, Sound, is_sound, begun, added, offered, offer_refusal, cleared, told, over, told_to, listed, listed_to, list_refusal}
use Rattle.board.proofs.Listing.{flat-length}
use Rattle.board.proofs.Sound.{sound-iff, ascending-from}
use Rattle.board_laws.specs.Offers.{with_span, Proper, Offerable}
use Rattle.board_laws.specs.Histories.{Event, offers, clears, lists, after, reached, accepted, covered, board_after, spans_after, Lights, runs_in, ListedAlike, Demand3, Reachable}
use Rattle.board_laws.proofs.Lit.{settled, total-columns}
use Rattle.board_laws.proofs.Fewest.{fewest}
use Rattle.board_laws.proofs.Offers.{live_of, sound-of, lit-span, ascending-span, offered-cases, added-either, added-row, added-runs, added-sound, added-eight, offered-added, offered-number, offer-six, offer-seven}
use Rattle.board_laws.proofs.Refused.{fresh-chosen, refused-offer, clear-chosen, list-zero, list-eight, accepted-list, accepted-numbers, refused-numbers}

-- ---- what every history keeps: a sound board of its row that lights just what the accepted spans cover

record Holds (k : ℕ) (y : ℤ) (b : Board) (held : List Span) : Type 0 where
  sound : Sound k b
  row : b.row ≡ y
  exact : Lights (live b) (covered held)

blank : {k : ℕ} {y z : ℤ} → Within y k → y ≡ z → Holds k z (board_of y []) []
unfolding board_of lit covered
blank {y} w e = record { sound = sound-of w (lit≤ tt) none; row = e; exact = λ x. rw (live_of y []) }

module _ {k : ℕ} {y : ℤ} {b : Board} {held : List Span} (h : Holds k y b held) where
  -- the union with one more span
  united : (s : Span) (x : ℤ) → (between s.start s.end x || lit (live b) x) ≡ covered (s ∷ held) x
  unfolding covered
  united s x = ap (λ c. between s.start s.end x || c) (h.exact x)

  offer-holds : (s : Span) → Holds k y (offered k b s).board (cond (eqb (offer_refusal k b s) 0) (s ∷ held) held)
  offer-holds s = offered-cases b s Kept k (λ _. h) (λ _ _ _. h) (λ o. ⊎_elim (accepts o) (λ full. rw full h) (added-either b s))
    where
      Kept : Answer → Type 0
      Kept a = Holds k y a.board (cond (eqb a.refusal 0) (s ∷ held) held)

      accepts : Offerable k b s → (added b s).refusal ≡ 0 → Kept (added b s)
      accepts o zero =
          let runs = added-runs b s h.sound.few zero in
          rw zero (record { sound = added-sound h.sound o.proper.inside; row = added-row b s ∙ h.row; exact = λ x. rw runs (lit-span s (live b) x ∙ united s x) })

  clear-holds : Holds k y (cleared k b).board []
  clear-holds = rw ((clear-chosen k b).holds h.sound) (blank h.sound.row_near h.row)

holds : {k : ℕ} {y : ℤ} {b : Board} {held : List Span} (es : List Event) → Holds k y b held → Holds k y (reached k b es) (accepted k b held es)
unfolding reached accepted after
holds [] h = h
holds {k = k} {b = b} (offers s ∷ es) h = holds {b = (offered k b s).board} es (offer-holds h s)
holds {k = k} {b = b} (clears ∷ es) h = holds {b = (cleared k b).board} es (clear-holds h)
holds (lists out ∷ es) h = holds es h

begun-holds : {k : ℕ} {y : ℤ} → Within y k → Holds k y (begun k y).board []
begun-holds {k} {y} w = rw ((fresh-chosen k y).holds w) (blank w refl)

-- ---- histories one after the other, and a listing read back

reached-on : (k : ℕ) (b : Board) (es fs : List Event) → reached k b (es ++ fs) ≡ reached k (reached k b es) fs
unfolding reached
reached-on k b [] fs = refl
reached-on k b (e ∷ es) fs = reached-on k (after k b e) es fs

-- a listing, wherever it stands
listing-keeps : (k : ℕ) (b : Board) (es : List Event) (out : List ℤ) (fs : List Event) → reached k b (es ++ (lists out ∷ fs)) ≡ reached k b (es ++ fs)
unfolding reached after
listing-keeps k b es out fs = reached-on k b es (lists out ∷ fs) ∙ sym (reached-on k b es fs)

listed-alike : {k : ℕ} {b c : Board} → Sound k b → Sound k c → live b ≡ live c → ListedAlike k b c
unfolding listed listed_to told told_to
listed-alike {k} {b} {c} s t e =
    record {
      runs = e;
      answers = λ n. rw ((sound-iff k b).1 s, (sound-iff k c).1 t, e);
      writes = λ out. rw ((sound-iff k b).1 s, (sound-iff k c).1 t, e);
    }

runs-back : (rs : List Run) (out : List ℤ) → runs_in (length rs) (flat rs ++ out) ≡ rs
unfolding runs_in flat
runs-back [] out = refl
runs-back (r ∷ rs) out = ap (◌∷◌ r) (runs-back rs out)

module _ (k : ℕ) (b : Board) (out : List ℤ) where
  listing-writes : list_refusal k b (length out) ≡ 0 → runs_in (listed k b (length out)).count (listed_to k b out) ≡ live b
  unfolding over
  listing-writes e = rw (accepted-list k b (length out) e, accepted-numbers k b out e) (runs-back (live b) (drop (2 * length (live b)) out))

  listing-sums : list_refusal k b (length out) ≡ 0 → (listed k b (length out)).total ≡ total (runs_in (listed k b (length out)).count (listed_to k b out))
  listing-sums e = rw (listing-writes e, accepted-list k b (length out) e)

  listing-beyond : drop (2 * length (live b)) (listed_to k b out) ≡ drop (2 * length (live b)) out
  unfolding over
  listing-beyond = by (eqb (list_refusal k b (length out)) 0) refl
    where
      by : (t : Bool) → eqb (list_refusal k b (length out)) 0 ≡ t → drop (2 * length (live b)) (listed_to k b out) ≡ drop (2 * length (live b)) out
      by true e = rw (accepted-numbers k b out (eqb-true (list_refusal k b (length out)) 0 e), ← flat-length (live b)) (drop-append_seam (flat (live b)) (drop (length (flat (live b))) out))
      by false e = ap (drop (2 * length (live b))) (refused-numbers k b out (eqb-false (list_refusal k b (length out)) 0 e))

-- ---- an offer that is otherwise sound, to any board that is handed in: what stands in its array beyond its runs changes nothing

module _ {k : ℕ} {b : Board} {s : Span} (o : Offerable k b s) where
  -- runs that light just the board's columns and the span's
  abbrev Unites : List Run → Type 0
  Unites rs = Lights rs (λ x. between s.start s.end x || lit (live b) x)

  union-ascends : Ascending k (edge k) (with_span s (live b))
  union-ascends = ascending-span s o.proper.inside o.sound.ascending

  -- 8 exactly when the union needs more than 32 runs
  pub union-refused : offer_refusal k b s ≡ 8 → (rs : List Run) → Unites rs → board_runs < length rs
  union-refused e rs lights = le_trans ((added-eight b s o.sound.few).0 (rw (offered-number o) at e)) (fewest union-ascends rs (λ x. lights x ∙ sym (lit-span s (live b) x)))

  pub union-needed : ((rs : List Run) → Ascending k (edge k) rs → Unites rs → board_runs < length rs) → offer_refusal k b s ≡ 8
  union-needed needs = rw (offered-number o) ((added-eight b s o.sound.few).1 (needs (with_span s (live b)) union-ascends (lit-span s (live b))))

  -- and else 0: the board of its row that lights the union
  pub union-either : (offer_refusal k b s ≡ 0) ⊎ (offer_refusal k b s ≡ 8)
  union-either = rw (offered-number o) (⊎_elim inl (λ full. inr (ap (λ a. a.refusal) full)) (added-either b s))

  pub union-lit : offer_refusal k b s ≡ 0 → Sound k (offered k b s).board × (((offered k b s).board.row ≡ b.row) × Unites (live (offered k b s).board))
  union-lit e =
      rw (offered-added o)
      (added-sound o.sound o.proper.inside, (added-row b s, λ x. rw (added-runs b s o.sound.few (sym (offered-number o) ∙ e)) (lit-span s (live b) x)))

-- ---- demand 3

pub demand-3 : (k : ℕ) (y : ℤ) → Within y k → (es : List Event) → Demand3 k y es
demand-3 k y w es =
    let b = board_after k y es in
    let spans = spans_after k y es in
    let h = holds es (begun-holds w) in
    let up = h.sound.ascending in
    let offer : (s : Span) → Proper k y s → Offerable k b s = λ s p. record { sound = h.sound; proper = record { same_row = p.same_row ∙ sym h.row; inside = p.inside } } in
    record {
      exact = h.exact;
      pixels = total-columns up ∙ ap pos (count_same (lit (live b)) (covered spans) _ _ (λ x l. h.exact x));
      apart = up;
      canonical =
          λ z fs v same.
          let g = holds fs (begun-holds v) in
          listed-alike h.sound g.sound (settled up g.sound.ascending (λ x. h.exact x ∙ (same x ∙ sym (g.exact x))));
      refused = λ s p e rs lights. union-refused (offer s p) e rs (λ x. lights x ∙ sym (united h s x));
      needed = λ s p needs. union-needed (offer s p) (λ rs up lights. needs rs up (λ x. lights x ∙ united h s x));
      no_other = λ s p. union-either (offer s p);
      other_row = λ s apart. (offer-six k b s).1 (λ same. apart (same.1 ∙ h.row));
      outside = λ s row far. (offer-seven k b s).1 ((h.sound, row ∙ sym h.row), far);
      unchanged = λ s some. ap (λ a. a.board) (refused-offer k b s some);
      fresh = ap (λ a. a.refusal) ((fresh-chosen k y).holds w);
      clearable = ap (λ a. a.refusal) ((clear-chosen k b).holds h.sound);
      kept = listing-keeps k (begun k y).board es;
      roomy = λ out room. (list-zero k b (length out)).1 (h.sound, room);
      short = λ out few. (list-eight k b (length out)).1 (h.sound, λ room. omega arith);
      counted = λ out e. ap (λ a. a.count) (accepted-list k b (length out) e);
      written = listing-writes k b;
      beyond = listing-beyond k b;
      summed = listing-sums k b;
    }

-- ---- the test passes exactly the boards that histories reach

pub reached-sound : (k : ℕ) (y : ℤ) → Within y k → (es : List Event) → Sound k (board_after k y es)
reached-sound k y w es = (holds es (begun-holds w)).sound

-- the history that offers the runs of a list, the last of them first
offering : ℤ → List Run → List Event
offering y [] = []
offering y (r ∷ rs) = offering y rs ++ (offers (span_of y r.start r.end) ∷ [])

-- a run before all the others, with a dark column between
before-all : {k : ℕ} {rs : List Run} (r : Run) → Ascending k r.end rs → with_run r rs ≡ r ∷ rs
unfolding with_run
before-all r none = refl
before-all r (then {r = q} f a) = let e : lt_z r.end q.start ≡ true = omega ordered in rw e

module _ {k : ℕ} {y : ℤ} (w : Within y k) where
  one_more : (r : Run) (rs : List Run) → Follows k (edge k) r → Ascending k r.end rs → length (r ∷ rs) ≤ board_runs
      → (offered k (board_of y rs) (span_of y r.start r.end)).board ≡ board_of y (r ∷ rs)
  unfolding added is_empty board_of
  one_more r rs f a few =
      let s = span_of y r.start r.end in
      let inside : SpanSound k s = λ x c. within_of (omega (ordered, c.from, opp (pos k))) (omega (ordered, c.below)) in
      let o : Offerable k (board_of y rs) s = record { sound = sound-of w (omega arith) (ascending-from a (omega ordered) (le_refl k)); proper = record { same_row = refl; inside = inside } } in
      let some : le_z r.end r.start ≡ false = omega ordered in
      ap (λ c. c.board) (offered-added o) ∙ rw (some, live_of y rs, before-all r a, le-leb (length (r ∷ rs)) board_runs few)

  rebuilt : (rs : List Run) → Ascending k (edge k) rs → length rs ≤ board_runs → board_after k y (offering y rs) ≡ board_of y rs
  unfolding reached offering after
  rebuilt [] a few = ap (λ c. c.board) ((fresh-chosen k y).holds w)
  rebuilt (r ∷ rs) (then f a) few =
      reached-on k (begun k y).board (offering y rs) (offers (span_of y r.start r.end) ∷ [])
      ∙ ap (λ b. (offered k b (span_of y r.start r.end)).board) (rebuilt rs (ascending-from a (omega ordered) (le_refl k)) (omega arith))
      ∙ one_more r rs f a few

pub sound-reachable : (k : ℕ) (b : Board) → length b.runs ≡ board_runs → is_sound k b ≡ true → Reachable k b
unfolding live board_of
sound-reachable k b array passed =
    let s = (sound-iff k b).0 passed in
    let few = s.few in
    let count : length (live b) ≡ b.count = length-take-le b.count b.runs (omega arith) in
    let same = rebuilt s.row_near (live b) s.ascending (omega arith) in
    record {
      row_near = s.row_near;
      history = offering b.row (live b);
      same_row = ap (λ c. c.row) same;
      same_count = ap (λ c. c.count) same ∙ count;
      same_runs = ap live same ∙ live_of b.row (live b);
    }

pub reachable-sound : (k : ℕ) (b : Board) → Reachable k b → is_sound k b ≡ true
reachable-sound k b r =
    let s = reached-sound k b.row r.row_near r.history in
    (sound-iff k b).1 (record { row_near = r.row_near; few = rw r.same_count at s.few; ascending = rw r.same_runs at s.ascending })

-- ---- 6 and 7, as 01's table has them

module _ (k : ℕ) (b : Board) (s : Span) where
  -- 6 exactly when no fresh board can come to the board, or the rows differ
  pub six-refuses : offer_refusal k b s ≡ 6 → Reachable k b → s.row ≡ b.row → ⊥
  six-refuses e r same = (offer-six k b s).0 e ((sound-iff k b).0 (reachable-sound k b r), same)

  pub refused-six : length b.runs ≡ board_runs → (Reachable k b → s.row ≡ b.row → ⊥) → offer_refusal k b s ≡ 6
  refused-six array never = (offer-six k b s).1 (λ h. never (sound-reachable k b array ((sound-iff k b).1 h.0)) h.1)

  -- 7 exactly when the span "has a column outside 4,095", which an empty one has not
  module _ (r : Reachable k b) (same : s.row ≡ b.row) where
    pub seven-refuses : offer_refusal k b s ≡ 7 → SpanSound k s → ⊥
    seven-refuses e = ((offer-seven k b s).0 e).1

    pub refused-seven : (SpanSound k s → ⊥) → offer_refusal k b s ≡ 7
    refused-seven far = (offer-seven k b s).1 (((sound-iff k b).0 (reachable-sound k b r), same), far)
