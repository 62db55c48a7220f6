-- The entries' refusals, each exactly when it is the first that holds, and what a refused answer has besides: for any limit k.
-- Assumes nothing.
use mathlib.Core.Path.{◌≡◌, refl, sym, ap, ◌∙◌}
use mathlib.Core.Logic.{◌↔◌}
use mathlib.Core.Bool.{Bool, true, false, ◌&&◌}
use Prim.Native.Nat.{ℕ}
use native.Mathlib.Omega.{arith}
use lib.Dec.{eqb, lit≤}
use lib.IntN.{ℤ, pos}
use Rattle.whole.specs.Number.{Within, is_within, eq_z}
use Rattle.whole.proofs.Bounds.{within_more}
use Rattle.whole.proofs.Laws.{within-iff}
use Rattle.whole.proofs.Orders.{eq_z-iff}
use Rattle.whole.proofs.Tests.{and-iff, eqb-iff, Chosen, chosen, never, bad-first, good-first, good-later}
use Rattle.shapes.specs.declared.Line.{Line}
use Rattle.shapes.specs.declared.Span.{Span}
use Rattle.shapes.specs.Limits.{product_limit, line_limit, corner_limit}
use Rattle.shapes.specs.Shape.{LineNear, is_line_near}
use Rattle.shapes.specs.Spans.{span_of, SpanSound, is_span_sound}
use Rattle.shapes.proofs.Columns.{sound-exactly}
use Rattle.shapes.proofs.Laws.{line-near-more, line-near-iff}
use Rattle.scanline.specs.Answers.{Spanned, Extended, Taken}
use Rattle.scanline.specs.Spans.{new_span, extended, try_extended, try_taken}
use Rattle.scanline.specs.Meeting.{met}
use Rattle.scanline.specs.Answers.{row_refusal, span_refusal, extend_refusal, meet_refusal, join_refusal, spanned, fresh_answer, extend_answer, meet_answer, try_extend_answer, try_take_answer}

-- ---- 6, then 7: P says that the row is right, and Q that the columns are inside

module _ (right inside : Bool) {P Q : Type 0} (p : (right ≡ true) ↔ P) (q : (inside ≡ true) ↔ Q) where
  row-six : (row_refusal right inside ≡ 6) ↔ (P → ⊥)
  row-six = good-first right p (never inside (λ e. omega arith) (λ e. omega arith))

  row-seven : (row_refusal right inside ≡ 7) ↔ (P × (Q → ⊥))
  row-seven = good-later right p (λ e. omega arith) (good-first inside q (λ e. omega arith))

  row-none : (row_refusal right inside ≡ 0) ↔ (P × Q)
  row-none = good-later right p (λ e. omega arith) (bad-first inside q (λ e. omega arith))

-- ---- a span

module _ (k : ℕ) (s : Span) where
  pub span-six : (span_refusal k s ≡ 6) ↔ (Within s.row k → ⊥)
  unfolding span_refusal
  span-six = row-six _ _ (within-iff k s.row) (sound-exactly k s)

  pub span-seven : (span_refusal k s ≡ 7) ↔ (Within s.row k × (SpanSound k s → ⊥))
  unfolding span_refusal
  span-seven = row-seven _ _ (within-iff k s.row) (sound-exactly k s)

  pub span_none : (span_refusal k s ≡ 0) ↔ (Within s.row k × SpanSound k s)
  unfolding span_refusal
  span_none = row-none _ _ (within-iff k s.row) (sound-exactly k s)

  span-four : span_refusal k s ≡ 4 → ⊥
  unfolding span_refusal
  span-four = never (is_within k s.row) (never (is_span_sound k s) (λ e. omega arith) (λ e. omega arith)) (λ e. omega arith)

-- ---- a span and a column to be added

module _ (k : ℕ) (s : Span) (c : ℤ) where
  added : ((is_span_sound k s && is_within k c) ≡ true) ↔ (SpanSound k s × Within c k)
  added = and-iff (is_span_sound k s) (is_within k c) (sound-exactly k s) (within-iff k c)

  pub extend-six : (extend_refusal k s c ≡ 6) ↔ (Within s.row k → ⊥)
  unfolding extend_refusal
  extend-six = row-six _ _ (within-iff k s.row) added

  pub extend-seven : (extend_refusal k s c ≡ 7) ↔ (Within s.row k × ((SpanSound k s × Within c k) → ⊥))
  unfolding extend_refusal
  extend-seven = row-seven _ _ (within-iff k s.row) added

  pub extend-none : (extend_refusal k s c ≡ 0) ↔ (Within s.row k × (SpanSound k s × Within c k))
  unfolding extend_refusal
  extend-none = row-none _ _ (within-iff k s.row) added

-- ---- two spans

module _ (k : ℕ) (s o : Span) where
  one-row : ((is_within k s.row && eq_z s.row o.row) ≡ true) ↔ (Within s.row k × (s.row ≡ o.row))
  one-row = and-iff (is_within k s.row) (eq_z s.row o.row) (within-iff k s.row) (eq_z-iff s.row o.row)

  both-sound : ((is_span_sound k s && is_span_sound k o) ≡ true) ↔ (SpanSound k s × SpanSound k o)
  both-sound = and-iff (is_span_sound k s) (is_span_sound k o) (sound-exactly k s) (sound-exactly k o)

  pub join-six : (join_refusal k s o ≡ 6) ↔ ((Within s.row k × (s.row ≡ o.row)) → ⊥)
  unfolding join_refusal
  join-six = row-six _ _ one-row both-sound

  pub join-seven : (join_refusal k s o ≡ 7) ↔ ((Within s.row k × (s.row ≡ o.row)) × ((SpanSound k s × SpanSound k o) → ⊥))
  unfolding join_refusal
  join-seven = row-seven _ _ one-row both-sound

  pub join-none : (join_refusal k s o ≡ 0) ↔ ((Within s.row k × (s.row ≡ o.row)) × (SpanSound k s × SpanSound k o))
  unfolding join_refusal
  join-none = row-none _ _ one-row both-sound

-- ---- a span and a line

module _ (k : ℕ) (s : Span) (l : Line) where
  pub meet-four : (meet_refusal k s l ≡ 4) ↔ (LineNear k l → ⊥)
  unfolding meet_refusal
  meet-four = good-first (is_line_near k l) (line-near-iff k l) (span-four k s)

  pub meet-six : (meet_refusal k s l ≡ 6) ↔ (LineNear k l × (Within s.row k → ⊥))
  unfolding meet_refusal
  meet-six = good-later (is_line_near k l) (line-near-iff k l) (λ e. omega arith) (span-six k s)

  pub meet-seven : (meet_refusal k s l ≡ 7) ↔ (LineNear k l × (Within s.row k × (SpanSound k s → ⊥)))
  unfolding meet_refusal
  meet-seven = good-later (is_line_near k l) (line-near-iff k l) (λ e. omega arith) (span-seven k s)

  pub meet-none : (meet_refusal k s l ≡ 0) ↔ (LineNear k l × (Within s.row k × SpanSound k s))
  unfolding meet_refusal
  meet-none = good-later (is_line_near k l) (line-near-iff k l) (λ e. omega arith) (span_none k s)

-- ---- what passes the tests is small enough for 64 bits

pub column-room : (s : Span) (c : ℤ) → 0 ≡ extend_refusal corner_limit s c → Within c product_limit
column-room s c e = within_more ((extend-none corner_limit s c).0 (sym e)).1.1 (lit≤ tt)

pub line-room : (s : Span) (l : Line) → 0 ≡ meet_refusal corner_limit s l → LineNear line_limit l
line-room s l e = line-near-more ((meet-none corner_limit s l).0 (sym e)).0 (lit≤ tt)

pub ruleset room = (column-room, line-room)

-- ---- the entries: the answer where there is no refusal, else the refusal with the span handed in as it was

pub fresh-chosen : (k : ℕ) (row : ℤ) → Chosen (Within row k) (fresh_answer k row) (spanned 0 (new_span row)) (spanned 6 (new_span (pos 0)))
unfolding fresh_answer
fresh-chosen k row = chosen (is_within k row) _ _ (within-iff k row)

pub extend-chosen : (k : ℕ) (s : Span) (c : ℤ) → Chosen (extend_refusal k s c ≡ 0) (extend_answer k s c) (spanned 0 (extended s c)) (spanned (extend_refusal k s c) s)
unfolding extend_answer
extend-chosen k s c = chosen (eqb (extend_refusal k s c) 0) _ _ (eqb-iff (extend_refusal k s c) 0)

pub meet-chosen : (k : ℕ) (s : Span) (l : Line) → Chosen (meet_refusal k s l ≡ 0) (meet_answer k s l) (spanned 0 (met s l)) (spanned (meet_refusal k s l) s)
unfolding meet_answer
meet-chosen k s l = chosen (eqb (meet_refusal k s l) 0) _ _ (eqb-iff (meet_refusal k s l) 0)

pub try-extend-chosen : (k : ℕ) (s o : Span) → Chosen (join_refusal k s o ≡ 0) (try_extend_answer k s o) (record { refusal = 0; joined = (try_extended s o).joined; span = (try_extended s o).span }) (record { refusal = join_refusal k s o; joined = false; span = s })
unfolding try_extend_answer
try-extend-chosen k s o = chosen (eqb (join_refusal k s o) 0) _ _ (eqb-iff (join_refusal k s o) 0)

pub try-take-chosen : (k : ℕ) (s : Span) → Chosen (span_refusal k s ≡ 0) (try_take_answer k s) (record { refusal = 0; taken = (try_taken s).taken; span = (try_taken s).span; rest = (try_taken s).rest }) (record { refusal = span_refusal k s; taken = false; span = new_span (pos 0); rest = s })
unfolding try_take_answer
try-take-chosen k s = chosen (eqb (span_refusal k s) 0) _ _ (eqb-iff (span_refusal k s) 0)

-- ---- "0 for every other field of the answer; a state handed in by value comes back as it was"

-- an answer whose number is not 0
refused : {P A : Type 0} {x a b : A} (number : A → ℕ) → number a ≡ 0 → Chosen P x a b → (number x ≡ 0 → ⊥) → x ≡ b
refused number none c some = c.fails (λ p. some (ap number (c.holds p) ∙ none))

abbrev no_span : Span
no_span = span_of (pos 0) (pos 0) (pos 0)

pub fresh-refused : (k : ℕ) (row : ℤ) → ((fresh_answer k row).refusal ≡ 0 → ⊥) → fresh_answer k row ≡ record { refusal = 6; span = no_span }
fresh-refused k row = refused (λ (a : Spanned). a.refusal) refl (fresh-chosen k row)

pub extend-refused : (k : ℕ) (s : Span) (c : ℤ) → ((extend_answer k s c).refusal ≡ 0 → ⊥) → extend_answer k s c ≡ record { refusal = extend_refusal k s c; span = s }
extend-refused k s c = refused (λ (a : Spanned). a.refusal) refl (extend-chosen k s c)

pub meet-refused : (k : ℕ) (s : Span) (l : Line) → ((meet_answer k s l).refusal ≡ 0 → ⊥) → meet_answer k s l ≡ record { refusal = meet_refusal k s l; span = s }
meet-refused k s l = refused (λ (a : Spanned). a.refusal) refl (meet-chosen k s l)

pub join-refused : (k : ℕ) (s o : Span) → ((try_extend_answer k s o).refusal ≡ 0 → ⊥) → try_extend_answer k s o ≡ record { refusal = join_refusal k s o; joined = false; span = s }
join-refused k s o = refused (λ (a : Extended). a.refusal) refl (try-extend-chosen k s o)

pub take-refused : (k : ℕ) (s : Span) → ((try_take_answer k s).refusal ≡ 0 → ⊥) → try_take_answer k s ≡ record { refusal = span_refusal k s; taken = false; span = no_span; rest = s }
take-refused k s = refused (λ (a : Taken). a.refusal) refl (try-take-chosen k s)
