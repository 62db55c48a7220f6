-- The refusals: 5 exactly when a join has a corner beyond the limit, then 6 exactly when the row is outside. Assumes nothing.
use mathlib.Core.Path.{◌≡◌, refl}
use mathlib.Core.Logic.{◌↔◌}
use mathlib.Core.Bool.{Bool, true, false, cond}
use Prim.Native.Nat.{ℕ, ◌≤◌}
use native.Mathlib.Omega.{arith}
use lib.Dec.{lit≤}
use lib.IntN.{ℤ}
use Rattle.std.specs.Prelude.{Ok, Err}
use Rattle.whole.specs.Number.{Within, is_within}
use Rattle.whole.proofs.Tests.{and-iff, else-true, never, good-first, good-later}
use Rattle.shapes.specs.declared.refusals.Refusal.TheVariants.{Corner}
use Rattle.shapes.specs.Limits.{corner_limit, line_limit}
use Rattle.line_join.specs.Caps.{is_join_near}
use Rattle.line_join.proofs.Room.{join-near-more, join-near-iff}
use Rattle.whole.proofs.Laws.{within-iff}
use Rattle.thick_segment.specs.declared.Segment.{Segment}
use Rattle.thick_segment.specs.Segments.{SegmentNear, is_segment_near, far_bend}
use Rattle.thick_segment.specs.Answers.{if_near, segment_refusal}

-- the entries' test says that all corners of both joins are within the limit
pub segment-near-iff : (k : ℕ) (s : Segment) → (is_segment_near k s ≡ true) ↔ SegmentNear k s
unfolding is_segment_near
segment-near-iff k s =
    let both = and-iff (is_join_near k s.start) (is_join_near k s.end) (join-near-iff k s.start) (join-near-iff k s.end) in
    (λ e. record { start_near = (both.0 e).0; end_near = (both.0 e).1 }, λ h. both.1 (h.start_near, h.end_near))

pub segment-more : {j k : ℕ} {s : Segment} → SegmentNear j s → j ≤ k → SegmentNear k s
segment-more h le = record { start_near = join-near-more h.start_near le; end_near = join-near-more h.end_near le }

-- what passes the entries' test is small enough
pub segment-room : (s : Segment) → is_segment_near corner_limit s ≡ true → SegmentNear line_limit s
segment-room s e = segment-more ((segment-near-iff corner_limit s).0 e) (lit≤ tt)

-- and so is what is not refused
pub let-through : (s : Segment) (u v : Unit {0}) → Ok u ≡ if_near corner_limit s v → is_segment_near corner_limit s ≡ true
unfolding if_near
let-through s u v e = else-true (is_segment_near corner_limit s) (λ far. let no : Ok u ≡ Err (Corner (far_bend corner_limit s)) = rw far at e in cc)

pub through-near : (s : Segment) (u v : Unit {0}) → Ok u ≡ if_near corner_limit s v → SegmentNear corner_limit s
through-near s u v e = (segment-near-iff corner_limit s).0 (let-through s u v e)

pub through-room : (s : Segment) (u v : Unit {0}) → Ok u ≡ if_near corner_limit s v → SegmentNear line_limit s
through-room s u v e = segment-room s (let-through s u v e)

-- ---- the span's two refusals, in 01's order

none-by : {P : Type 0} (t : Bool) → (t ≡ true) ↔ P → (◌≡◌ {A = ℕ} (cond t 0 6) 0) ↔ P
none-by true e = (λ h. e.0 refl, λ p. refl)
none-by false e = (λ h. absurd (omega arith), λ p. cc (e.1 p))

module _ (k : ℕ) (s : Segment) (row : ℤ) where
  pub segment-five : (segment_refusal k s row ≡ 5) ↔ (SegmentNear k s → ⊥)
  unfolding segment_refusal
  segment-five = good-first (is_segment_near k s) (segment-near-iff k s) (never (is_within k row) (λ e. omega arith) (λ e. omega arith))

  pub segment-six : (segment_refusal k s row ≡ 6) ↔ (SegmentNear k s × (Within row k → ⊥))
  unfolding segment_refusal
  segment-six = good-later (is_segment_near k s) (segment-near-iff k s) (λ e. omega arith) (good-first (is_within k row) (within-iff k row) (λ e. omega arith))

  pub segment-none : (segment_refusal k s row ≡ 0) ↔ (SegmentNear k s × Within row k)
  unfolding segment_refusal
  segment-none = good-later (is_segment_near k s) (segment-near-iff k s) (λ e. omega arith) (none-by (is_within k row) (within-iff k row))
