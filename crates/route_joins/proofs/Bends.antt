-- 02's K9: where the joins of a route stand, and the bend that 5 names. Assumes nothing.
use mathlib.Core.Path.{◌≡◌, refl, sym, subst, ◌∙◌}
use mathlib.Core.Logic.{◌↔◌}
use mathlib.Core.Bool.{Bool, true, false, cond}
use mathlib.Core.List.{List}
use Prim.Native.Nat.{ℕ, ◌+◌, ◌-◌}
use borrow.Author.Tests.{eqb-true, eq-eqb}
use lib.Dec.{eqb}
use lib.IntN.{ℤ}
use Rattle.whole.proofs.Places.{fails-none, fails-some}
use Rattle.whole.proofs.Tests.{clash, else-false, either}
use Rattle.shapes.specs.declared.limits.Limits.{Limits}
use Rattle.shapes.specs.declared.Offset.{Offset}
use Rattle.shapes.specs.declared.Offset.TheVariants.{None}
use Rattle.line_join.specs.declared.Join.{Join}
use Rattle.line_join.specs.Standing.{standing_at}
use Rattle.line_join.specs.Words.{Named, BendTold}
use Rattle.line_join.proofs.Room.{join-near-iff}
use Rattle.line_join.proofs.Standing.{taken-off, Unplaced, join-unplaced, start-unplaced, end-unplaced}
use Rattle.line_join.proofs.Named.{bend-told}
use Rattle.coordinates.specs.Points.{point_at, point_count, place_after}
use Rattle.coordinates.specs.Refusal.{route_refusal}
use Rattle.route_joins.specs.Joins.{bend_at, open_join, closed_join, join_on, join_at, join_count, end_place, segment_of, open_segment, closed_segment, standing, bare, is_near_at, are_joins_near, near_joins, route_bend}
use Rattle.route_joins.proofs.Near.{joins-exactly}

-- ---- positions

module _ (closed : Bool) (cs : List ℤ) (w : ℤ) (o : Offset) where
  -- a join has the place of its point
  pub join-position : (i : ℕ) → (join_on closed cs w o i).position ≡ i
  unfolding join_on
  join-position i = refl

-- a segment's joins have its place and the next one; of the closing segment that is 0
pub open-positions : (cs : List ℤ) (w : ℤ) (k : ℕ) → let s = open_segment cs w k in (s.start.position ≡ k) × (s.end.position ≡ k + 1)
unfolding segment_of join_on end_place
open-positions cs w k = (refl, refl)

pub closed-positions : (cs : List ℤ) (w : ℤ) (o : Offset) (k : ℕ) → let s = closed_segment cs w o k in (s.start.position ≡ k) × (s.end.position ≡ place_after (point_count cs) k)
unfolding segment_of join_on end_place
closed-positions cs w o k = (refl, refl)

-- ---- without positions

pub open-unplaced : (cs : List ℤ) (w : ℤ) (i : ℕ) → Unplaced (open_join cs w i)
unfolding open_join bend_at
open-unplaced cs w i =
    either Unplaced (eqb i 0) (λ e. start-unplaced (point_at cs 0) (point_at cs 1) w None)
    (λ e. either Unplaced (eqb (i + 1) (point_count cs)) (λ e. end-unplaced (point_at cs (i - 1)) (point_at cs i) w None) (λ e. join-unplaced (point_at cs (i - 1)) (point_at cs i) (point_at cs (i + 1)) w None))

pub closed-unplaced : (cs : List ℤ) (w : ℤ) (o : Offset) (i : ℕ) → Unplaced (closed_join cs w o i)
unfolding closed_join bend_at
closed-unplaced cs w o i =
    either Unplaced (eqb (point_count cs + i) 2) (λ e. start-unplaced (point_at cs 0) (point_at cs 1) w o) (λ e. join-unplaced _ (point_at cs i) _ w o)

pub bare_of : (a b : Join) (i k : ℕ) → Unplaced a → Unplaced b → bare (record { start = standing_at i a; end = standing_at k b }) ≡ record { start = a; end = b }
unfolding standing
bare_of a b i k p q = let start = taken-off i {j = a} p in let end = taken-off k {j = b} q in cc (start, end)

-- ---- the first join that is not near

module _ (k : ℕ) (closed : Bool) (cs : List ℤ) (w : ℤ) where
  abbrev Here : ℕ → Type 0
  Here p = Named k (join_at closed cs w) (join_count cs) p

  pub route-named : (are_joins_near k closed cs w ≡ true → ⊥) → Here (near_joins k closed cs w)
  unfolding are_joins_near near_joins
  route-named some =
      let first = fails-some (is_near_at k closed cs w) (join_count cs) some in
      record {
        place = near_joins k closed cs w;
        inside = first.inside;
        outside = λ near. clash ((join-near-iff k _).1 near) first.fails;
        before = λ i h. (join-near-iff k _).0 (first.before i h);
        told = join-position closed cs w None (near_joins k closed cs w);
      }

  pub named-far : (p : ℕ) → Here p → are_joins_near k closed cs w ≡ true → ⊥
  named-far p n e = n.outside ((joins-exactly k closed cs w).0 e n.place n.inside)

  -- all are near exactly when as many are as there are
  pub near-all : (near_joins k closed cs w ≡ join_count cs) ↔ (are_joins_near k closed cs w ≡ true)
  unfolding are_joins_near near_joins
  near-all = fails-none (is_near_at k closed cs w) (join_count cs)

  -- of a route the position is the place
  pub named-place : {p : ℕ} (n : Here p) → n.place ≡ p
  named-place n = sym (join-position closed cs w None n.place) ∙ n.told

-- ---- what an answer of a route tells of it

module _ (limits : Limits) (closed : Bool) (cs : List ℤ) (w : ℤ) where
  abbrev k : ℕ
  k = limits.corner

  abbrev r : ℕ
  r = route_refusal limits.point closed cs w

  abbrev Far : Type 0
  Far = are_joins_near k closed cs w ≡ true → ⊥

  bend-far : r ≡ 0 → Far → route_bend limits closed cs w ≡ near_joins k closed cs w
  unfolding route_bend
  bend-far e far = rw (eq-eqb r 0 e, else-false (are_joins_near k closed cs w) far)

  bend-else : ((r ≡ 0) × Far → ⊥) → route_bend limits closed cs w ≡ 0
  unfolding route_bend
  bend-else other = by (eqb r 0) (are_joins_near k closed cs w) refl refl
    where
      by : (t u : Bool) → eqb r 0 ≡ t → are_joins_near k closed cs w ≡ u → cond t (cond u 0 (near_joins k closed cs w)) 0 ≡ 0
      by true true e f = refl
      by true false e f = absurd (other (eqb-true r 0 e, λ near. clash near f))
      by false u e f = refl

  pub route-bend : {n : ℕ} → (n ≡ 5) ↔ ((r ≡ 0) × Far) → BendTold (r ≡ 0) k (join_at closed cs w) (join_count cs) n (route_bend limits closed cs w)
  route-bend five =
      bend-told k (join_at closed cs w) (join_count cs) five (named-far k closed cs w)
      (λ e. let h = five.0 e in subst (Here k closed cs w) (sym (bend-far h.0 h.1)) (route-named k closed cs w h.1))
      (λ other. bend-else (λ h. other (five.1 h)))
