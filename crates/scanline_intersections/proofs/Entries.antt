-- The entries' answers as the code comes to them. Assumes nothing.
use mathlib.Core.Path.{◌≡◌, refl, sym, ap, ◌∙◌}
use mathlib.Core.Logic.{◌≢◌}
use mathlib.Core.Bool.{Bool, true, false, cond}
use mathlib.Core.List.{List, []}
use Prim.Native.Nat.{ℕ}
use native.Mathlib.Omega.{arith}
use borrow.Author.Tests.{ne_eqb}
use lib.Dec.{lit≤}
use lib.IntN.{ℤ, pos}
use Rattle.std.specs.Prelude.{Option, Some, None, Ok, Err}
use Rattle.whole.specs.Number.{Within, is_within}
use Rattle.whole.proofs.Tests.{else-false, never}
use Rattle.shapes.specs.declared.limits.Limits.{Limits}
use Rattle.shapes.specs.declared.refusals.Refusal.{Refusal}
use Rattle.shapes.specs.declared.Span.{Span}
use Rattle.shapes.specs.Refusals.{number_of, bend_of}
use Rattle.shapes.specs.Limits.{panel, stroke_limit, line_limit}
use Rattle.shapes.specs.Strokes.{Thin}
use Rattle.shapes.specs.Spans.{is_span_sound, SpanSound}
use Rattle.scanline.specs.Spans.{new_span, taken_values, try_taken}
use Rattle.scanline.specs.Answers.{Taken, spanned, fresh_values, fresh_answer, span_refusal, try_take_answer}
use Rattle.line_join.proofs.Room.{join-near-more}
use Rattle.coordinates.specs.Refusal.{route_refusal, AllWithin, Accepted}
use Rattle.shapes.proofs.Numbers.{number-above, or-number, unbent}
use Rattle.route_joins.specs.Joins.{are_joins_near, join_count, near_joins, route_bend}
use Rattle.route_joins.proofs.Near.{all_more, joins-exactly}
use Rattle.route_joins.proofs.Bends.{near-all}
use Rattle.route_joins.proofs.Walks.{refusal-told}
use Rattle.scanline_intersections.specs.declared.Intersections.{Intersections}
use Rattle.scanline_intersections.specs.Merging.{Merged, merged_values, walk_of, merged_next, next_merged}
use Rattle.scanline_intersections.specs.Answers.{start_values, start_refusal, polyline_start, next_refusal, next_answer}
use Rattle.scanline_intersections.proofs.Refused.{JoinsNear, next-sound}

-- ---- start

-- what a fresh span is refused with, and what it is
fresh-number : (t : Bool) (a : Span) {n : ℕ} {s : Span} → spanned n s ≡ cond t (spanned 0 a) (spanned 6 (new_span (pos 0))) → n ≡ cond t 0 6
fresh-number true a e = ap (λ f. f.refusal) e
fresh-number false a e = ap (λ f. f.refusal) e

fresh-span : (t : Bool) {s a : Span} → spanned 0 s ≡ cond t (spanned 0 a) (spanned 6 (new_span (pos 0))) → s ≡ a
fresh-span true e = ap (λ f. f.span) e
fresh-span false e = absurd (omega (arith, ap (λ f. f.refusal) e))

module _ (limits : Limits) (cs : List ℤ) (w row : ℤ) where
  start-with : (r : Refusal) → number_of r ≡ start_refusal limits cs w row → start_values (Err r) ≡ polyline_start limits cs w row
  unfolding polyline_start
  start-with r n = rw (← n, ne_eqb (number_of r) 0 (λ e. omega (arith, number-above r, e)))

  -- the list or the width is refused
  pub start-listed : (r : Refusal) → number_of r ≡ route_refusal limits.point false cs w → start_values (Err r) ≡ polyline_start limits cs w row
  unfolding start_refusal
  start-listed r n = start-with r (rw (← n) (sym (or-number r _)))

  module _ (none : 0 ≡ route_refusal limits.point false cs w) where
    past : {n : ℕ} → n ≡ cond (is_within limits.corner row) 0 6 → n ≡ start_refusal limits cs w row
    unfolding start_refusal
    past e = rw (← none) e

    -- or the row is
    pub start-rowed : (r : Refusal) → fresh_values (Err r) ≡ fresh_answer limits.corner row → start_values (Err r) ≡ polyline_start limits cs w row
    unfolding fresh_answer
    start-rowed r e = start-with r (past (fresh-number (is_within limits.corner row) (new_span row) e))

    pub start-begun : {v : ℤ} (s : Span) → fresh_values (Ok s) ≡ fresh_answer limits.corner row → v ≡ w → start_values (Ok (walk_of 0 v s)) ≡ polyline_start limits cs w row
    unfolding polyline_start fresh_answer
    start-begun s e f = rw (← past (fresh-number (is_within limits.corner row) (new_span row) e), fresh-span (is_within limits.corner row) e, f)

-- ---- next

-- a span is refused with 5 never
span-five : (k : ℕ) (s : Span) → span_refusal k s ≢ 5
unfolding span_refusal
span-five k s = never (is_within k s.row) (never (is_span_sound k s) (λ e. omega (arith, e)) (λ e. omega (arith, e))) (λ e. omega (arith, e))

taken : (k : ℕ) (s : Span) → (try_take_answer k s).refusal ≡ span_refusal k s
unfolding try_take_answer
taken k s = refusal-told {A = Taken} (λ r. r.refusal) (span_refusal k s) refl refl

-- past the last segment what is gathered is handed out
pub handed : (o : Option Span) (r s : Span) (k : ℕ) (w : ℤ) → taken_values o r ≡ try_taken s → merged_values (Ok o) (walk_of k w r) ≡ merged_next k w s []
unfolding merged_next
handed (Some a) r s k w e = rw (← e)
handed None r s k w e = rw (← e)

module _ (limits : Limits) (cs : List ℤ) (walk : Intersections) where
  abbrev list : ℕ
  list = route_refusal limits.point false cs walk.width

  pub next-with : (r : Refusal) → number_of r ≡ next_refusal limits cs walk → bend_of r ≡ route_bend limits false cs walk.width → merged_values (Err r) walk ≡ next_answer limits cs walk
  unfolding next_answer
  next-with r n b = rw (← n, ← b, ne_eqb (number_of r) 0 (λ e. omega (arith, number-above r, e)))

  pub next-found : {m : Merged} → 0 ≡ next_refusal limits cs walk → m ≡ next_merged cs walk → m ≡ next_answer limits cs walk
  unfolding next_answer
  next-found none e = rw (← none) e

  -- the list or the width is refused
  pub next-listed : (r : Refusal) → number_of r ≡ list → number_of r ≡ next_refusal limits cs walk
  unfolding next_refusal
  next-listed r n = rw (← n) (sym (or-number r _))

  pub bend-listed : (r : Refusal) → number_of r ≡ list → bend_of r ≡ 0 → bend_of r ≡ route_bend limits false cs walk.width
  unfolding route_bend
  bend-listed r n b = rw (← n, ne_eqb (number_of r) 0 (λ e. omega (arith, number-above r, e))) b

  module _ (none : 0 ≡ list) where
    past-list : (t : Bool) → are_joins_near limits.corner false cs walk.width ≡ t → cond t (span_refusal limits.corner walk.span) 5 ≡ next_refusal limits cs walk
    unfolding next_refusal
    past-list t e = rw (← none, e)

    past-bend : (t : Bool) → are_joins_near limits.corner false cs walk.width ≡ t → cond t 0 (near_joins limits.corner false cs walk.width) ≡ route_bend limits false cs walk.width
    unfolding route_bend
    past-bend t e = rw (← none, e)

    -- the joins decide: all are near exactly when as many are as there are
    module _ {near count : ℕ} (found : near ≡ near_joins limits.corner false cs walk.width) (all : count ≡ join_count cs) where
      some-far : (near ≡ count → ⊥) → are_joins_near limits.corner false cs walk.width ≡ false
      some-far h = else-false _ (λ e. h (found ∙ (near-all limits.corner false cs walk.width).1 e ∙ sym all))

      pub next-far : (near ≡ count → ⊥) → 5 ≡ next_refusal limits cs walk
      next-far h = past-list false (some-far h)

      pub bend-far : (near ≡ count → ⊥) → near ≡ route_bend limits false cs walk.width
      bend-far h = found ∙ past-bend false (some-far h)

      -- where all are, the walk's span is asked after
      module _ (same : near ≡ count) where
        all_near : are_joins_near limits.corner false cs walk.width ≡ true
        all_near = (near-all limits.corner false cs walk.width).0 (sym found ∙ same ∙ all)

        pub next-spanned : {n : ℕ} → n ≡ span_refusal limits.corner walk.span → n ≡ next_refusal limits cs walk
        next-spanned e = e ∙ past-list true all_near

        pub bend-spanned : {n : ℕ} → n ≡ 0 → n ≡ route_bend limits false cs walk.width
        bend-spanned e = e ∙ past-bend true all_near

-- what `try_take` answers tells what it refuses its span with
pub taken-number : (k : ℕ) (s : Span) {n : ℕ} {a : Taken} → a ≡ try_take_answer k s → a.refusal ≡ n → n ≡ span_refusal k s
taken-number k s e f = sym f ∙ ap (λ a. a.refusal) e ∙ taken k s

pub taken-bend : (k : ℕ) (s : Span) (r : Refusal) → number_of r ≡ span_refusal k s → bend_of r ≡ 0
taken-bend k s r e = unbent r (λ five. span-five k s (sym e ∙ five))

-- ---- what `merge` asks, of a walk that is not refused

module _ (cs : List ℤ) (walk : Intersections) (none : 0 ≡ next_refusal panel cs walk) where
  sound : Accepted panel.point false cs walk.width × (JoinsNear panel cs walk.width × (Within walk.span.row panel.corner × SpanSound panel.corner walk.span))
  sound = (next-sound panel cs walk).0 (sym none)

  pub asked-near : AllWithin stroke_limit cs
  asked-near = all_more sound.0.near (lit≤ tt)

  pub asked-thin : Thin walk.width
  asked-thin = sound.0.thin

  pub asked-joins : are_joins_near line_limit false cs walk.width ≡ true
  asked-joins = (joins-exactly line_limit false cs walk.width).1 (λ i l. join-near-more (sound.1.0 i l) (lit≤ tt))

pub ruleset asks = (next-with, next-found, asked-near, asked-thin, asked-joins)
