-- Spans: which columns they have, and when they are inside the columns. Assumes nothing.
use mathlib.Core.Path.{◌≡◌, refl}
use mathlib.Core.Logic.{◌↔◌}
use mathlib.Core.Bool.{Bool, true, false}
use Prim.Native.Nat.{ℕ, ◌≤◌}
use lib.IntN.{ℤ, pos, ◌-ℤ◌}
use Rattle.whole.specs.Number.{is_within}
use Rattle.whole.proofs.Bounds.{within_more}
use Rattle.whole.proofs.Laws.{true-within, within-true}
use Rattle.whole.proofs.Linear.{diff}
use Rattle.whole.proofs.Orders.{ordered}
use Rattle.whole.proofs.Spans.{within_low, within-high, within_of}
use Rattle.whole.proofs.Tests.{and_left, and_right, clash}
use Rattle.shapes.specs.declared.Span.{Span}
use Rattle.shapes.specs.Spans.{Covers, is_empty, SpanSound, is_span_sound}

-- ---- a span that is not empty

pub covers-some : (s : Span) (c : ℤ) → Covers s c → is_empty s ≡ false
unfolding is_empty
covers-some s c h = omega ordered

pub covers-first : (s : Span) → is_empty s ≡ false → Covers s s.start
unfolding is_empty
covers-first s e = omega ordered

pub covers-last : (s : Span) → is_empty s ≡ false → Covers s (s.end -ℤ pos 1)
unfolding is_empty
covers-last s e = omega (ordered, diff s.end (pos 1))

-- ---- columns from -k to k

pub sound_more : {j k : ℕ} {s : Span} → SpanSound j s → j ≤ k → SpanSound k s
sound_more h le = λ c w. within_more (h c w) le

-- the test for that
sound-by : (k : ℕ) (s : Span) (t : Bool) → is_empty s ≡ t → (is_span_sound k s ≡ true) ↔ SpanSound k s
unfolding is_span_sound
sound-by k s true e = (λ h c w. absurd (clash e (covers-some s c w)), λ h. rw e)
sound-by k s false e = (
  λ h c w.
      let both = rw e at h in
      let first = true-within k s.start (and_left (is_within k s.start) (is_within k (s.end -ℤ pos 1)) both) in
      let last = true-within k (s.end -ℤ pos 1) (and_right (is_within k s.start) (is_within k (s.end -ℤ pos 1)) both) in
      within_of (omega (ordered, within_low first)) (omega (ordered, within-high last, diff s.end (pos 1))),
  λ h. simp (e, within-true (h s.start (covers-first s e)), within-true (h (s.end -ℤ pos 1) (covers-last s e))),
)

pub sound-exactly : (k : ℕ) (s : Span) → (is_span_sound k s ≡ true) ↔ SpanSound k s
sound-exactly k s = sound-by k s (is_empty s) refl
