-- What an offer answers: the union with the span where it needs at most 32 runs, 8 where it needs more, and 6 and 7 before that. Assumes
-- nothing.
use mathlib.Core.Path.{◌≡◌, refl, ap}
use mathlib.Core.Bool.{Bool, true, false, ◌&&◌, ◌||◌}
use mathlib.Core.List.{List}
use mathlib.Core.Logic.{◌↔◌, ◌⊎◌, inl, inr, ⊎_elim}
use Prim.Native.Nat.{ℕ, ◌-◌, ◌≤◌, ◌<◌}
use native.Mathlib.Omega.{arith}
use borrow.Author.Tests.{leb-true, leb-false}
use lib.Dec.{leb}
use lib.IntN.{ℤ, pos, ◌-ℤ◌}
use lib.ListN.{length, replicate}
use lib.Seq.{take-append_seam}
use Rattle.whole.specs.Number.{Within, eq_z}
use Rattle.whole.specs.Columns.{between}
use Rattle.whole.proofs.Columns.{between-yes, between_le, between-lt}
use Rattle.whole.proofs.Linear.{opp, diff}
use Rattle.whole.proofs.Orders.{ordered, eq_z-iff}
use Rattle.whole.proofs.Spans.{within_low, within-high}
use Rattle.whole.proofs.Tests.{and-iff, clash, else-false, either}
use Rattle.shapes.specs.Limits.{board_runs}
use Rattle.shapes.specs.Spans.{Covers, is_empty, SpanSound, is_span_sound}
use Rattle.shapes.specs.declared.Span.{Span}
use Rattle.shapes.proofs.Columns.{covers-some, covers-first, covers-last, sound-exactly}
use Rattle.board.specs.declared.Run.{Run}
use Rattle.board.specs.declared.Board.{Board}
use Rattle.board.specs.Runs.{no_run, lit, Follows, Ascending, edge, with_run}
use Rattle.board.specs.Boards.{Answer, live, padded, board_of, Sound, is_sound, answer_of, span_run, added, offered, offer_refusal}
use Rattle.board.proofs.Fronts.{live-few}
use Rattle.board.proofs.Sound.{sound-iff}
use Rattle.board_laws.specs.Offers.{with_span, Offerable}
use Rattle.board_laws.proofs.Union.{lit-with, ascending-with}

-- ---- a board and its list of runs

pub live_of : (y : ℤ) (rs : List Run) → live (board_of y rs) ≡ rs
unfolding live board_of padded
live_of y rs = take-append_seam rs (replicate (board_runs - length rs) no_run)

pub sound-of : {k : ℕ} {y : ℤ} {rs : List Run} → Within y k → length rs ≤ board_runs → Ascending k (edge k) rs → Sound k (board_of y rs)
unfolding board_of
sound-of {y} {rs} w few a = record { row_near = w; few = few; ascending = rw (live_of y rs) a }

-- ---- a span's columns, by the test that histories use

pub covers-between : (s : Span) (x : ℤ) → (between s.start s.end x ≡ true) ↔ Covers s x
covers-between s x = (
  λ e. let low = between_le s.start s.end x e in let high = between-lt s.start s.end x e in record { from = omega ordered; below = omega ordered },
  λ c. between-yes s.start s.end x (omega (ordered, c.from)) (omega (ordered, c.below)),
)

-- ---- the union with a span

lit-by : (s : Span) (rs : List Run) (x : ℤ) (t : Bool) → is_empty s ≡ t → lit (with_span s rs) x ≡ (between s.start s.end x || lit rs x)
unfolding with_span
lit-by s rs x false e = rw e (lit-with (span_run s) rs x)
lit-by s rs x true e = rw (e, else-false (between s.start s.end x) (λ on. clash e (covers-some s x ((covers-between s x).0 on))))

pub lit-span : (s : Span) (rs : List Run) (x : ℤ) → lit (with_span s rs) x ≡ (between s.start s.end x || lit rs x)
lit-span s rs x = lit-by s rs x (is_empty s) refl

-- the columns of a span that is not empty, as a run
span-follows : {k : ℕ} {s : Span} → SpanSound k s → is_empty s ≡ false → Follows k (edge k) (span_run s)
unfolding is_empty
span-follows {k} {s} inside some =
    let first = inside s.start (covers-first s some) in
    let last = inside (s.end -ℤ pos 1) (covers-last s some) in
    record { apart = omega (ordered, within_low first, opp (pos k)); some = omega ordered; inside = omega (ordered, within-high last, diff s.end (pos 1)) }

ascending-by : {k : ℕ} (s : Span) {rs : List Run} (t : Bool) → is_empty s ≡ t → SpanSound k s → Ascending k (edge k) rs → Ascending k (edge k) (with_span s rs)
unfolding with_span
ascending-by s true e inside a = rw e a
ascending-by s {rs} false e inside a = rw e (ascending-with (span_run s) rs (span-follows inside e) a)

pub ascending-span : {k : ℕ} (s : Span) {rs : List Run} → SpanSound k s → Ascending k (edge k) rs → Ascending k (edge k) (with_span s rs)
ascending-span s = ascending-by s (is_empty s) refl

-- ---- what holds of an answer holds if it does in each case

module _ (b : Board) (s : Span) (P : Answer → Type 0) where
  abbrev union : List Run
  union = with_run (span_run s) (live b)

  pub added-cases : (is_empty s ≡ true → P (answer_of 0 b)) → (is_empty s ≡ false → length union ≤ board_runs → P (answer_of 0 (board_of b.row union)))
      → (is_empty s ≡ false → board_runs < length union → P (answer_of 8 b)) → P (added b s)
  unfolding added
  added-cases empty room full =
      either P (is_empty s) empty
      (λ some. either P (leb (length union) board_runs) (λ t. room some (leb-true (length union) board_runs t)) (λ t. full some (leb-false (length union) board_runs t)))

  pub offered-cases : (k : ℕ) → ((Sound k b × (s.row ≡ b.row) → ⊥) → P (answer_of 6 b)) → (Sound k b → s.row ≡ b.row → (SpanSound k s → ⊥) → P (answer_of 7 b))
      → (Offerable k b s → P (added b s)) → P (offered k b s)
  unfolding offered
  offered-cases k six seven passes =
      let first = and-iff (is_sound k b) (eq_z s.row b.row) (sound-iff k b) (eq_z-iff s.row b.row) in
      let second = sound-exactly k s in
      either P (is_sound k b && eq_z s.row b.row)
      (λ t. let h = first.0 t in either P (is_span_sound k s) (λ u. passes (record { sound = h.0; proper = record { same_row = h.1; inside = second.0 u } })) (λ u. seven h.0 h.1 (λ i. clash (second.1 i) u)))
      (λ t. six (λ h. clash (first.1 h) t))

-- ---- an offer whose board and span no test refuses

pub added-row : (b : Board) (s : Span) → (added b s).board.row ≡ b.row
unfolding board_of
added-row b s = added-cases b s (λ a. a.board.row ≡ b.row) (λ _. refl) (λ _ _. refl) (λ _ _. refl)

-- accepted, or 8 and the board as it was
pub added-either : (b : Board) (s : Span) → ((added b s).refusal ≡ 0) ⊎ (added b s ≡ answer_of 8 b)
added-either b s = added-cases b s (λ a. (a.refusal ≡ 0) ⊎ (a ≡ answer_of 8 b)) (λ _. inl refl) (λ _ _. inl refl) (λ _ _. inr refl)

module _ {k : ℕ} {b : Board} {s : Span} (sound : Sound k b) (inside : SpanSound k s) where
  -- refused or not, the board stays sound
  pub added-sound : Sound k (added b s).board
  added-sound =
      added-cases b s (λ a. Sound k a.board) (λ _. sound)
      (λ some few. sound-of sound.row_near few (ascending-with (span_run s) (live b) (span-follows inside some) sound.ascending))
      (λ _ _. sound)

module _ (b : Board) (s : Span) (few : b.count ≤ board_runs) where
  -- 8 exactly when the union needs more than 32 runs
  pub added-eight : ((added b s).refusal ≡ 8) ↔ (board_runs < length (with_span s (live b)))
  unfolding with_span
  added-eight =
      added-cases b s (λ a. (a.refusal ≡ 8) ↔ (board_runs < length (with_span s (live b))))
      (λ empty. rw empty (λ e. absurd (omega arith), λ h. absurd (omega (arith, live-few b))))
      (λ some room. rw some (λ e. absurd (omega arith), λ h. absurd (omega arith)))
      (λ some full. rw some (λ _. full, λ _. refl))

  -- accepted, it has the runs of the union
  pub added-runs : (added b s).refusal ≡ 0 → live (added b s).board ≡ with_span s (live b)
  unfolding with_span
  added-runs =
      added-cases b s (λ a. a.refusal ≡ 0 → live a.board ≡ with_span s (live b))
      (λ empty _. rw empty)
      (λ some room _. rw some (live_of b.row (with_run (span_run s) (live b))))
      (λ some full e. absurd (omega arith))

-- ---- any offer

pub offered-added : {k : ℕ} {b : Board} {s : Span} → Offerable k b s → offered k b s ≡ added b s
offered-added {k} {b} {s} o =
    offered-cases b s (λ a. a ≡ added b s) k (λ no. absurd (no (o.sound, o.proper.same_row))) (λ _ _ no. absurd (no o.proper.inside)) (λ _. refl)

pub offered-number : {k : ℕ} {b : Board} {s : Span} → Offerable k b s → offer_refusal k b s ≡ (added b s).refusal
offered-number o = ap (λ a. a.refusal) (offered-added o)

-- each number exactly when, in 01's order
module _ (k : ℕ) (b : Board) (s : Span) where
  other-number : (n : ℕ) → 0 < n → n < 8 → (added b s).refusal ≡ n → ⊥
  other-number n low high e = ⊎_elim (λ z. omega arith) (λ z. omega (arith, ap (λ a. a.refusal) z)) (added-either b s)

  pub offer-six : (offer_refusal k b s ≡ 6) ↔ (Sound k b × (s.row ≡ b.row) → ⊥)
  offer-six =
      offered-cases b s (λ a. (a.refusal ≡ 6) ↔ (Sound k b × (s.row ≡ b.row) → ⊥)) k
      (λ no. (λ _. no, λ _. refl))
      (λ sound same _. (λ e. absurd (omega arith), λ no. absurd (no (sound, same))))
      (λ o. (λ e. absurd (other-number 6 (omega arith) (omega arith) e), λ no. absurd (no (o.sound, o.proper.same_row))))

  pub offer-seven : (offer_refusal k b s ≡ 7) ↔ ((Sound k b × (s.row ≡ b.row)) × (SpanSound k s → ⊥))
  offer-seven =
      offered-cases b s (λ a. (a.refusal ≡ 7) ↔ ((Sound k b × (s.row ≡ b.row)) × (SpanSound k s → ⊥))) k
      (λ no. (λ e. absurd (omega arith), λ h. absurd (no h.0)))
      (λ sound same far. (λ _. ((sound, same), far), λ _. refl))
      (λ o. (λ e. absurd (other-number 7 (omega arith) (omega arith) e), λ h. absurd (h.1 o.proper.inside)))
