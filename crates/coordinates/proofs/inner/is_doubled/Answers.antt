use Rattle.std.proofs.Common.{arith, ◌≡◌, ◌<◌, ◌+◌, ◌-◌, sym, ap, ◌∙◌, ◌||◌, ◌&&◌, Bool, List, ℕ, ℤ, int_eq}
use Rattle.whole.specs.Places.{some_from}
use Rattle.whole.proofs.Places.{some_end, some_next}
use Rattle.shapes.specs.declared.Point.{Point}
use Rattle.coordinates.specs.Points.{point_at, point_count, place_after, segments_of}
use Rattle.coordinates.specs.Neighbours.{is_doubled, is_repeated}
use Rattle.coordinates.proofs.Neighbours.{segment-inside, equal_points}
use Rattle.coordinates.proofs.Places.{after-inside}
use Rattle.coordinates.proofs.inner.is_doubled.Goals as goal

module _ (cs : List ℤ) (closed : Bool) {n m : ℕ} (points : n ≡ point_count cs) (segments : m ≡ segments_of closed n) where
  all-of : some_from (is_repeated cs) 0 (m - 0) ≡ is_doubled closed cs
  unfolding is_doubled
  all-of = ap (some_from (is_repeated cs) 0) (omega (arith, segments, ap (segments_of closed) points))

  inside : {i : ℕ} → i < m → i < point_count cs
  inside h = segment-inside closed (omega (arith, segments, ap (segments_of closed) points))

  next-inside : {i j : ℕ} → i < m → j ≡ place_after n i → j < point_count cs
  next-inside h e = rw (e, points) (after-inside (inside h))

  -- the two points here are equal, or two of those after them are
  here : {i j : ℕ} {p q : Point} {d : Bool} → i < m → j ≡ place_after n i → p ≡ point_at cs i → q ≡ point_at cs j
      → some_from (is_repeated cs) i (m - i) ≡ d → ((int_eq p.x q.x && int_eq p.y q.y) || some_from (is_repeated cs) (i + 1) (m - (i + 1))) ≡ d
  here {i} {j} {p} {q} h e a b all =
      let same : is_repeated cs i ≡ (int_eq p.x q.x && int_eq p.y q.y) = rw (← points, ← e, ← a, ← b) (sym (equal_points p q)) in
      sym (some_next (is_repeated cs) m i h _ same) ∙ all

pub loop-place-init : goal.loop-place-init
loop-place-init c = all-of c.args.coordinates.now c.args.closed c.point_count-count.ensures c.segments_of-place-end.ensures

pub place_after-next-requires : goal.place_after-next-requires
place_after-next-requires c = segment-inside c.args.closed (omega (arith, c.segments_of-place-end.ensures))

pub point_at-requires : goal.point_at-requires
point_at-requires c = inside c.args.coordinates.now c.args.closed c.point_count-count.ensures c.segments_of-place-end.ensures (omega arith)

pub point_at-requires-in-loop-place : goal.point_at-requires-in-loop-place
point_at-requires-in-loop-place c = next-inside c.args.coordinates.now c.args.closed c.point_count-count.ensures c.segments_of-place-end.ensures (omega arith) c.place_after-next.ensures

pub returns-then-eq : goal.returns-then-eq
returns-then-eq c = rw (sym c.eq.ensures ∙ c.if-eq.true) at (here c.args.coordinates.now c.args.closed c.point_count-count.ensures c.segments_of-place-end.ensures (omega arith) c.place_after-next.ensures c.point_at.ensures c.point_at-in-loop-place.ensures c.loop-place.invariant)

pub loop-place-preserved : goal.loop-place-preserved
loop-place-preserved c = rw (sym c.eq.ensures ∙ c.if-eq.false) at (here c.args.coordinates.now c.args.closed c.point_count-count.ensures c.segments_of-place-end.ensures (omega arith) c.place_after-next.ensures c.point_at.ensures c.point_at-in-loop-place.ensures c.loop-place.invariant)

pub returns : goal.returns
returns c =
    sym (some_end (is_repeated c.args.coordinates.now) c.segments_of-place-end.result c.loop-place.place c.loop-place-test.false) ∙ c.loop-place.invariant
