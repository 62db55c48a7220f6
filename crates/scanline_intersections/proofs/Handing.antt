-- What 01 says of merged spans in words: repeated `next` hands them out, and those of a row have the columns of its segments' spans.
-- Assumes nothing.
use mathlib.Core.Path.{◌≡◌, refl, sym, ap, ◌∙◌}
use mathlib.Core.Logic.{◌↔◌, inr, ⊎_elim}
use mathlib.Core.Bool.{Bool, true, false}
use mathlib.Core.List.{List, [], ◌∷◌}
use Prim.Native.Nat.{ℕ, zero, suc, ◌+◌, ◌-◌, ◌≤◌, ◌<◌}
use native.Mathlib.Nat.{zero-add}
use native.Mathlib.Omega.{arith}
use lib.Dec.{eqb}
use lib.IntN.{ℤ}
use Rattle.whole.specs.Number.{Within}
use Rattle.whole.proofs.Tests.{clash}
use Rattle.shapes.specs.declared.limits.Limits.{Limits}
use Rattle.shapes.specs.declared.Span.{Span}
use Rattle.shapes.specs.Spans.{Covers, is_empty, SpanSound}
use Rattle.shapes.proofs.Columns.{covers-some}
use Rattle.scanline.specs.Spans.{Handed, new_span, try_extended, try_taken}
use Rattle.scanline.proofs.Laws.{joined-covers, take-some, take_none}
use Rattle.thick_segment.proofs.Laws.{span-least, span-sound}
use Rattle.coordinates.specs.Refusal.{Accepted}
use Rattle.route_joins.specs.Joins.{open_segment, open_count}
use Rattle.route_joins.proofs.Near.{joins-exactly}
use Rattle.scanline_intersections.specs.declared.Intersections.{Intersections}
use Rattle.scanline_intersections.specs.Segments.{span_at, spans_from}
use Rattle.scanline_intersections.specs.Merging.{Merged, walk_of, merged_next, next_merged, merged_all}
use Rattle.scanline_intersections.specs.Answers.{start_refusal, polyline_start, next_refusal, next_answer}
use Rattle.scanline_intersections.specs.Words.{Covered, OnSegment, HandsOut, done, more}
use Rattle.scanline_intersections.proofs.Merging.{merged-covers, some_left, joined-row, covered-place, place-covered}
use Rattle.scanline_intersections.proofs.Refused.{JoinsNear, start-chosen, next-sound, next-chosen, next-refusal}
use Rattle.scanline_intersections.proofs.Spans.{segment-near, spans-turn, spans-end, merged-more, merged-stop, merged-end}

-- ---- what is handed out, for any `next`

module _ {next : Intersections → Merged} where
  more-as : (walk : Intersections) {r : Merged} {ss : List Span} → next walk ≡ r → r.refusal ≡ 0 → r.found ≡ true → HandsOut next r.walk ss → HandsOut next walk (r.span ∷ ss)
  more-as walk e n f h = rw (← e) (more (rw (← e) at n) (rw (← e) at f) (rw (← e) at h))

  same-hands : {a b : Intersections} {ss : List Span} → next a ≡ next b → HandsOut next b ss → HandsOut next a ss
  same-hands e (done n f stays) = done (ap (λ r. r.refusal) e ∙ n) (ap (λ r. r.found) e ∙ f) (ap (λ r. next r.walk) e ∙ stays ∙ sym e)
  same-hands {a} e (more n f h) = more-as a e n f h

  -- no other spans
  pub hands-same : {walk : Intersections} {ss ts : List Span} → HandsOut next walk ss → HandsOut next walk ts → ss ≡ ts
  hands-same (done _ e _) (done _ f _) = refl
  hands-same (done _ e _) (more _ f h) = absurd (clash f e)
  hands-same (more _ e g) (done _ f _) = absurd (clash e f)
  hands-same {walk} (more _ e g) (more _ f h) = ap (λ ss. (next walk).span ∷ ss) (hands-same g h)

  not-refused : {walk : Intersections} {ss : List Span} → HandsOut next walk ss → (next walk).refusal ≡ 0
  not-refused (done n f stays) = n
  not-refused (more n f h) = n

  later-accepted : {walk : Intersections} {ss : List Span} → HandsOut next walk ss → (next (next walk).walk).refusal ≡ 0
  later-accepted (done n f stays) = ap (λ r. r.refusal) stays ∙ n
  later-accepted (more n f h) = not-refused h

  ended : {walk : Intersections} {ss : List Span} → HandsOut next walk ss → (next walk).found ≡ false → next (next walk).walk ≡ next walk
  ended (done n f stays) e = stays
  ended (more n f h) e = absurd (clash f e)

-- ---- place by place, on a row of a route that is not refused: the end, a span that is gathered, and one that is not

module _ (limits : Limits) (cs : List ℤ) (w row : ℤ) (accepted : Accepted limits.point false cs w) (near : JoinsNear limits cs w) (on : Within row limits.corner) where
  abbrev next : Intersections → Merged
  next = next_answer limits cs

  abbrev at : ℕ → Span
  at = span_at cs w row

  abbrev left : ℕ → List Span
  left = spans_from cs w row

  -- what may be gathered on the row
  record Fine (s : Span) : Type 0 where
    row_same : s.row ≡ row
    sound : SpanSound limits.corner s

  abbrev Hands : ℕ → Span → Type 0
  Hands k s = Fine s → HandsOut next (walk_of k w s) (merged_all s (left k))

  next-is : (k : ℕ) (s : Span) → Fine s → next (walk_of k w s) ≡ merged_next k w s (left k)
  unfolding next_merged
  next-is k s f =
      (next-chosen limits cs (walk_of k w s)).holds ((next-sound limits cs (walk_of k w s)).1 (accepted, (near, (rw f.row_same on, f.sound))))
      ∙ rw f.row_same

  -- at the end: nothing is left to hand out, or what is gathered
  abbrev handed : ℕ → Handed → Merged
  handed k t = record { refusal = 0; bend = 0; found = t.taken; span = t.span; walk = walk_of k w t.rest }

  end_is : (k : ℕ) (s : Span) → open_count cs ≤ k → Fine s → next (walk_of k w s) ≡ handed k (try_taken s)
  unfolding merged_next
  end_is k s h f = next-is k s f ∙ merged-end cs w row k s h

  hands_none : (k : ℕ) (s : Span) → is_empty s ≡ true → open_count cs ≤ k → Fine s → HandsOut next (walk_of k w s) []
  hands_none k s e h f =
      let is = end_is k s h f ∙ ap (handed k) (take_none s e) in
      done (ap (λ r. r.refusal) is) (ap (λ r. r.found) is) (ap (λ r. next r.walk) is)

  empty-fine : (s : Span) → s.row ≡ row → is_empty s ≡ true → Fine s
  empty-fine s same e = record { row_same = same; sound = λ c h. absurd (clash e (covers-some s c h)) }

  hands_end : (k : ℕ) (s : Span) (t : Bool) → is_empty s ≡ t → open_count cs ≤ k → Hands k s
  unfolding merged_all is_empty
  hands_end k s true e h f = rw (spans-end cs w row k h, e) (hands_none k s e h f)
  hands_end k s false e h f =
      rw (spans-end cs w row k h, e)
      (more-as (walk_of k w s) (end_is k s h f ∙ ap (handed k) (take-some s e)) refl refl (hands_none k (new_span s.row) refl h (empty-fine (new_span s.row) f.row_same refl)))

  span-fine : (k : ℕ) → k < open_count cs → Fine (at k)
  span-fine k h = record { row_same = (span-least (open_segment cs w k) row).row; sound = span-sound (open_segment cs w k) row (segment-near cs w ((joins-exactly limits.corner false cs w).1 near) h) }

  hands-turn : (k : ℕ) (s : Span) → k < open_count cs → ((r : Span) → Hands (k + 1) r) → (t : Bool) → (try_extended s (at k)).joined ≡ t → Hands k s
  unfolding merged_all
  hands-turn k s h rest true e f =
      let o = span-fine k h in
      let both : Fine (try_extended s (at k)).span = record { row_same = joined-row s (at k) ∙ f.row_same; sound = λ c g. ⊎_elim (f.sound c) (o.sound c) ((joined-covers s (at k) e c).0 g) } in
      let same = next-is k s f ∙ merged-more cs w row k s h e ∙ sym (next-is (k + 1) (try_extended s (at k)).span both) in
      rw (spans-turn cs w row k h, e) (same-hands same (rest _ both))
  hands-turn k s h rest false e f =
      rw (spans-turn cs w row k h, e) (more-as (walk_of k w s) (next-is k s f ∙ merged-stop cs w row k s h e) refl refl (rest (at k) (span-fine k h)))

  hands-left : (m k : ℕ) (s : Span) → open_count cs - k ≡ m → Hands k s
  hands-left zero k s e = hands_end k s (is_empty s) refl (omega (arith, e))
  hands-left (suc m) k s e = hands-turn k s (omega (arith, e)) (λ r. hands-left m (k + 1) r (omega (arith, e))) (try_extended s (at k)).joined refl

-- ---- any walk that is not refused

module _ (limits : Limits) (cs : List ℤ) (walk : Intersections) where
  -- a walk that is not refused hands out what is merged of its gathered span and of the spans left, and then none
  pub next-hands : next_refusal limits cs walk ≡ 0
      → HandsOut (next_answer limits cs) walk (merged_all walk.span (spans_from cs walk.width walk.span.row walk.place))
  next-hands e =
      let h = (next-sound limits cs walk).0 e in
      hands-left limits cs walk.width walk.span.row h.0 h.1.0 h.1.1.0 (open_count cs - walk.place) walk.place walk.span refl
      (record { row_same = refl; sound = h.1.1.1 })

  -- it is not refused later
  pub next-kept : next_refusal limits cs walk ≡ 0 → next_refusal limits cs (next_answer limits cs walk).walk ≡ 0
  next-kept e = sym (next-refusal limits cs (next_answer limits cs walk).walk) ∙ later-accepted (next-hands e)

  -- after the end comes the end
  pub next-ends : next_refusal limits cs walk ≡ 0 → (next_answer limits cs walk).found ≡ false → next_answer limits cs (next_answer limits cs walk).walk ≡ next_answer limits cs walk
  next-ends e = ended (next-hands e)

  -- a span that it hands out is not empty
  some-by : (t : Bool) → eqb (next_refusal limits cs walk) 0 ≡ t → (next_answer limits cs walk).found ≡ true → is_empty (next_answer limits cs walk).span ≡ false
  unfolding next_answer next_merged
  some-by true e = rw e (some_left walk.place walk.width walk.span (spans_from cs walk.width walk.span.row walk.place))
  some-by false e = rw e (λ h. absurd (clash h refl))

  pub found_some : (next_answer limits cs walk).found ≡ true → is_empty (next_answer limits cs walk).span ≡ false
  found_some = some-by (eqb (next_refusal limits cs walk) 0) refl

-- ---- a row of the route

module _ (limits : Limits) (cs : List ℤ) (w row c : ℤ) where
  spans-cover : Covered c (spans_from cs w row 0) ↔ OnSegment cs w row c
  unfolding spans_from
  spans-cover =
      let n : open_count cs - 0 ≡ open_count cs = omega arith in
      rw n (
        λ h. let r = covered-place (span_at cs w row) c (open_count cs) 0 h in record { place = r.place; inside = omega (arith, r.high); covers = r.covers },
        λ h. place-covered (span_at cs w row) c (open_count cs) 0 h.place h.inside (simp zero-add h.covers),
      )

  new_none : Covers (new_span row) c → ⊥
  unfolding is_empty
  new_none h = clash refl (covers-some (new_span row) c h)

  -- what is handed out from an accepted start on a row until the end has the columns of the segments' spans on that row, no more and no less
  pub merged-columns : {ss : List Span} → start_refusal limits cs w row ≡ 0 → HandsOut (next_answer limits cs) (polyline_start limits cs w row).walk ss → Covered c ss ↔ OnSegment cs w row c
  merged-columns {ss} e h =
      let begun = ap (λ s. s.walk) ((start-chosen limits cs w row).holds e) in
      let hands : HandsOut (next_answer limits cs) (walk_of 0 w (new_span row)) ss = rw begun at h in
      let none = sym (next-refusal limits cs (walk_of 0 w (new_span row))) ∙ not-refused hands in
      let all = merged-covers (new_span row) (spans_from cs w row 0) c in
      rw (hands-same hands (next-hands limits cs (walk_of 0 w (new_span row)) none))
      (λ g. spans-cover.0 (⊎_elim (λ k. absurd (new_none k)) (λ k. k) (all.0 g)), λ g. all.1 (inr (spans-cover.1 g)))
