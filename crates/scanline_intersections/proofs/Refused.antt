-- What the refusals say: each number exactly when it is the first that holds, in the order of 01's table with K6's 12. Assumes nothing.
use mathlib.Core.Path.{◌≡◌, refl, sym}
use mathlib.Core.Logic.{◌↔◌, ◌≢◌}
use mathlib.Core.Bool.{Bool, false, cond}
use mathlib.Core.List.{List, [], ◌∷◌}
use Prim.Native.Nat.{ℕ, ◌+◌, ◌<◌}
use native.Mathlib.Omega.{arith}
use lib.Dec.{eqb}
use lib.IntN.{ℤ, pos}
use Rattle.whole.specs.Number.{Within, is_within}
use Rattle.whole.proofs.Laws.{within-iff}
use Rattle.whole.proofs.Tests.{replaced, either, eqb-iff, Chosen, chosen, never, bad-first, good-first, good-later}
use Rattle.shapes.specs.declared.limits.Limits.{Limits}
use Rattle.shapes.specs.Spans.{is_span_sound, SpanSound}
use Rattle.shapes.proofs.Choices.{or-stopped, or-after, or-before}
use Rattle.shapes.specs.declared.Span.{Span}
use Rattle.scanline.specs.Spans.{new_span, try_extended}
use Rattle.scanline.specs.Answers.{span_refusal}
use Rattle.scanline.proofs.Answers.{span-six, span-seven, span_none}
use Rattle.line_join.specs.Caps.{JoinNear}
use Rattle.line_join.specs.Words.{BendTold}
use Rattle.line_join.proofs.Named.{chosen-bend}
use Rattle.coordinates.specs.Refusal.{route_refusal, Accepted}
use Rattle.coordinates.specs.Neighbours.{Doubled}
use Rattle.coordinates.proofs.Laws.{refused-most, accepted-exactly, doubled-refused}
use Rattle.route_joins.specs.Joins.{join_at, join_count, are_joins_near, route_bend}
use Rattle.route_joins.proofs.Near.{joins-exactly}
use Rattle.route_joins.proofs.Walks.{refusal-told}
use Rattle.route_joins.proofs.Bends.{route-bend}
use Rattle.scanline_intersections.specs.declared.Intersections.{Intersections}
use Rattle.scanline_intersections.specs.Segments.{spans_from}
use Rattle.scanline_intersections.specs.Merging.{Merged, walk_of, merged_next, next_merged}
use Rattle.scanline_intersections.specs.Answers.{start_refusal, polyline_start, next_refusal, next_answer}

-- what is merged is no refusal
abbrev Unrefused : Merged → Type 0
Unrefused m = (m.refusal ≡ 0) × (m.bend ≡ 0)

merged-none : (k : ℕ) (w : ℤ) (s : Span) (os : List Span) → Unrefused (merged_next k w s os)
unfolding merged_next
merged-none k w s [] = (refl, refl)
merged-none k w s (o ∷ os) = either Unrefused (try_extended s o).joined (λ e. merged-none (k + 1) w (try_extended s o).span os) (λ e. (refl, refl))

merged-fine : (cs : List ℤ) (walk : Intersections) → Unrefused (next_merged cs walk)
unfolding next_merged
merged-fine cs walk = merged-none walk.place walk.width walk.span (spans_from cs walk.width walk.span.row walk.place)

-- ---- the words of 01's table

module _ (limits : Limits) (cs : List ℤ) where
  -- every join of the open route has its corners inside
  abbrev pub JoinsNear : ℤ → Type 0
  JoinsNear w = (i : ℕ) → i < join_count cs → JoinNear limits.corner (join_at false cs w i)

  abbrev list : ℤ → ℕ
  list w = route_refusal limits.point false cs w

  abbrev fine : ℤ → Type 0
  fine w = Accepted limits.point false cs w

  -- a number that the list and the width are not refused with
  other : (w : ℤ) {m : ℕ} → 4 < m → m ≢ 12 → list w ≡ m → (list w ≡ 0 → ⊥) → ⊥
  other w high twelve e _ = refused-most limits.point false cs w high twelve e

  -- ---- start

  module _ (w row : ℤ) where
    abbrev inside : Bool
    inside = is_within limits.corner row

    -- any number but 6 as of the list and the width: 1 to 4, and 12
    pub start-list : {m : ℕ} → 0 < m → m ≢ 6 → (start_refusal limits cs w row ≡ m) ↔ (list w ≡ m)
    unfolding start_refusal
    start-list some six = or-before (list w) (cond inside 0 6) some (never inside (λ e. omega (arith, e)) (λ e. six (sym e)))

    -- with a doubled point 6 is not asked
    pub doubled-start : Doubled false cs → start_refusal limits cs w row ≡ list w
    unfolding start_refusal
    doubled-start doubled = or-stopped (list w) (cond inside 0 6) (doubled-refused limits.point false cs w doubled)

    start-later : {Q : Type 0} {m : ℕ} → (list w ≡ m → (list w ≡ 0 → ⊥) → ⊥) → (cond inside 0 6 ≡ m) ↔ Q → (start_refusal limits cs w row ≡ m) ↔ (fine w × Q)
    unfolding start_refusal
    start-later o q = replaced (accepted-exactly limits.point false cs w) (or-after (list w) (cond inside 0 6) o q)

    -- then 6: the row is outside
    pub start-6 : (start_refusal limits cs w row ≡ 6) ↔ (fine w × (Within row limits.corner → ⊥))
    start-6 = start-later (other w (omega arith) (λ e. omega arith)) (good-first inside (within-iff limits.corner row) (λ e. omega arith))

    pub start-sound : (start_refusal limits cs w row ≡ 0) ↔ (fine w × Within row limits.corner)
    start-sound = start-later (λ h no. no h) (bad-first inside (within-iff limits.corner row) (λ e. omega arith))

    -- with no refusal a walk at the first segment, else all 0 but the number
    pub start-chosen : Chosen (start_refusal limits cs w row ≡ 0) (polyline_start limits cs w row)
        (record { refusal = 0; walk = walk_of 0 w (new_span row) }) (record { refusal = start_refusal limits cs w row; walk = walk_of 0 (pos 0) (new_span (pos 0)) })
    unfolding polyline_start
    start-chosen = chosen (eqb (start_refusal limits cs w row) 0) _ _ (eqb-iff (start_refusal limits cs w row) 0)

  -- ---- next

  module _ (walk : Intersections) where
    abbrev w : ℤ
    w = walk.width

    abbrev near : Bool
    near = are_joins_near limits.corner false cs w

    abbrev rest : ℕ
    rest = cond near (span_refusal limits.corner walk.span) 5

    -- a span is refused with 6 and 7 alone
    span-never : {m : ℕ} → 0 < m → m ≢ 6 → m ≢ 7 → span_refusal limits.corner walk.span ≡ m → ⊥
    unfolding span_refusal
    span-never some six seven = never (is_within limits.corner walk.span.row) (never (is_span_sound limits.corner walk.span) (λ e. omega (arith, e)) (λ e. seven (sym e))) (λ e. six (sym e))

    -- any number but 5, 6 and 7 as of the list and the width: 1 to 4, and 12
    pub next-list : {m : ℕ} → 0 < m → m ≢ 5 → m ≢ 6 → m ≢ 7 → (next_refusal limits cs walk ≡ m) ↔ (list w ≡ m)
    unfolding next_refusal
    next-list some five six seven = or-before (list w) rest some (never near (span-never some six seven) (λ e. five (sym e)))

    -- with a doubled point 5 to 7 are not asked
    pub doubled-next : Doubled false cs → next_refusal limits cs walk ≡ list w
    unfolding next_refusal
    doubled-next doubled = or-stopped (list w) rest (doubled-refused limits.point false cs w doubled)

    next-later : {Q : Type 0} {m : ℕ} → (list w ≡ m → (list w ≡ 0 → ⊥) → ⊥) → (rest ≡ m) ↔ Q → (next_refusal limits cs walk ≡ m) ↔ (fine w × Q)
    unfolding next_refusal
    next-later o q = replaced (accepted-exactly limits.point false cs w) (or-after (list w) rest o q)

    -- then 5: some join of the route has a corner outside
    pub next-5 : (next_refusal limits cs walk ≡ 5) ↔ (fine w × (JoinsNear w → ⊥))
    next-5 = next-later (other w (omega arith) (λ e. omega arith)) (good-first near (joins-exactly limits.corner false cs w) (span-never (omega arith) (λ e. omega arith) (λ e. omega arith)))

    -- then 6 and 7, as of the walk's span
    later-near : {Q : Type 0} {m : ℕ} → (5 ≡ m → ⊥) → (list w ≡ m → (list w ≡ 0 → ⊥) → ⊥) → (span_refusal limits.corner walk.span ≡ m) ↔ Q → (next_refusal limits cs walk ≡ m) ↔ (fine w × (JoinsNear w × Q))
    later-near five o q = next-later o (good-later near (joins-exactly limits.corner false cs w) five q)

    pub next-6 : (next_refusal limits cs walk ≡ 6) ↔ (fine w × (JoinsNear w × (Within walk.span.row limits.corner → ⊥)))
    next-6 = later-near (λ e. omega arith) (other w (omega arith) (λ e. omega arith)) (span-six limits.corner walk.span)

    pub next-7 : (next_refusal limits cs walk ≡ 7) ↔ (fine w × (JoinsNear w × (Within walk.span.row limits.corner × (SpanSound limits.corner walk.span → ⊥))))
    next-7 = later-near (λ e. omega arith) (other w (omega arith) (λ e. omega arith)) (span-seven limits.corner walk.span)

    pub next-sound : (next_refusal limits cs walk ≡ 0) ↔ (fine w × (JoinsNear w × (Within walk.span.row limits.corner × SpanSound limits.corner walk.span)))
    next-sound = later-near (λ e. omega arith) (λ h no. no h) (span_none limits.corner walk.span)

    -- with no refusal what is merged next, else all 0 but the number and what comes with 5, and the walk as it was
    pub next-chosen : Chosen (next_refusal limits cs walk ≡ 0) (next_answer limits cs walk)
        (next_merged cs walk) (record { refusal = next_refusal limits cs walk; bend = route_bend limits false cs w; found = false; span = new_span (pos 0); walk = walk })
    unfolding next_answer
    next-chosen = chosen (eqb (next_refusal limits cs walk) 0) _ _ (eqb-iff (next_refusal limits cs walk) 0)

    -- the answer tells it
    pub next-refusal : (next_answer limits cs walk).refusal ≡ next_refusal limits cs walk
    unfolding next_answer
    next-refusal = refusal-told {A = Merged} (λ r. r.refusal) (next_refusal limits cs walk) (merged-fine cs walk).0 refl

    -- and the position that comes with 5: of the first join of the route that has a corner outside
    told : BendTold (list w ≡ 0) limits.corner (join_at false cs w) (join_count cs) (next_refusal limits cs walk) (route_bend limits false cs w)
    unfolding next_refusal
    told =
        route-bend limits false cs w
        (or-after (list w) rest (other w (omega arith) (λ e. omega arith)) (good-first near (λ e. e, λ e. e) (span-never (omega arith) (λ e. omega arith) (λ e. omega arith))))

    bend-is : (next_answer limits cs walk).bend ≡ route_bend limits false cs w
    unfolding next_answer
    bend-is = chosen-bend {A = Merged} (λ r. r.bend) (next_refusal limits cs walk) (merged-fine cs walk).1 refl (λ e. told.other (λ five. omega (arith, five, e)))

    pub next-bend : BendTold (list w ≡ 0) limits.corner (join_at false cs w) (join_count cs) (next_answer limits cs walk).refusal (next_answer limits cs walk).bend
    next-bend = rw (next-refusal, bend-is) told
