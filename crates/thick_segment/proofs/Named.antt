-- 02's K9: the bend of a segment is the first of its two joins that has a corner beyond the limit. Assumes nothing.
use mathlib.Core.Path.{◌≡◌, refl}
use mathlib.Core.Bool.{Bool, true, false}
use Prim.Native.Nat.{ℕ, zero, suc, ◌<◌}
use native.Mathlib.Omega.{arith}
use lib.Dec.{lit<}
use Rattle.whole.proofs.Tests.{clash}
use Rattle.line_join.specs.Caps.{JoinNear, is_join_near}
use Rattle.line_join.specs.Words.{Named}
use Rattle.line_join.proofs.Room.{join-near-iff}
use Rattle.thick_segment.specs.declared.Segment.{Segment}
use Rattle.thick_segment.specs.Segments.{SegmentNear, far_bend}
use Rattle.thick_segment.specs.Words.{joins_in}

module _ (k : ℕ) (s : Segment) where
  -- 0 where both joins are near
  pub near-bend : SegmentNear k s → far_bend k s ≡ 0
  unfolding far_bend
  near-bend h = rw ((join-near-iff k s.start).1 h.start_near, (join-near-iff k s.end).1 h.end_near)

  start_first : (i : ℕ) → i < 1 → JoinNear k s.start → JoinNear k (joins_in s i)
  start_first zero h near = near
  start_first (suc i) h near = absurd (omega arith)

  named_by : (t u : Bool) → is_join_near k s.start ≡ t → is_join_near k s.end ≡ u → (SegmentNear k s → ⊥) → Named k (joins_in s) 2 (far_bend k s)
  unfolding far_bend
  named_by true true e f some = absurd (some (record { start_near = (join-near-iff k s.start).0 e; end_near = (join-near-iff k s.end).0 f }))
  named_by true false e f some = rw (e, f) (record { place = 1; inside = lit< tt; outside = λ near. clash ((join-near-iff k s.end).1 near) f; before = λ i h. start_first i h ((join-near-iff k s.start).0 e); told = refl })
  named_by false u e f some = rw e (record { place = 0; inside = lit< tt; outside = λ near. clash ((join-near-iff k s.start).1 near) e; before = λ i h. absurd (omega arith); told = refl })

  pub segment-named : (SegmentNear k s → ⊥) → Named k (joins_in s) 2 (far_bend k s)
  segment-named = named_by (is_join_near k s.start) (is_join_near k s.end) refl refl

  near-at : (i : ℕ) → SegmentNear k s → JoinNear k (joins_in s i)
  near-at zero h = h.start_near
  near-at (suc i) h = h.end_near

  pub named-far : (p : ℕ) → Named k (joins_in s) 2 p → SegmentNear k s → ⊥
  named-far p n h = n.outside (near-at n.place h)
