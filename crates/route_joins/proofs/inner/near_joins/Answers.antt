use Rattle.std.proofs.Common.{◌≡◌, ◌<◌, ◌+◌, ◌-◌, arith, sym, ap, ◌∙◌, ℕ, ℤ, List, Bool, cond}
use mir.Facts.{to_z-of_z}
use Rattle.whole.specs.Places.{fails_from}
use Rattle.whole.proofs.Places.{fails-end, fails-next}
use Rattle.shapes.proofs.Widths.{thin-back}
use Rattle.line_join.specs.declared.Join.{Join}
use Rattle.line_join.specs.Caps.{is_join_near}
use Rattle.route_joins.specs.Joins.{join_at, join_count, is_near_at, near_joins}
use Rattle.route_joins.proofs.Near.{join-inside}
use Rattle.route_joins.proofs.inner.near_joins.Goals as goal

module _ (k : ℕ) (closed : Bool) (cs : List ℤ) (w : ℤ) {n : ℕ} (all : n ≡ join_count cs) where
  begins : fails_from (is_near_at k closed cs w) 0 (n - 0) ≡ near_joins k closed cs w
  unfolding near_joins
  begins = ap (fails_from (is_near_at k closed cs w) 0) (omega (arith, all))

  -- the join here is the first that is not near, or it is one of those after it
  here : {i : ℕ} {j : Join} {t : Bool} {d : ℕ} → i < n → j ≡ join_at closed cs w i → t ≡ is_join_near k j
      → fails_from (is_near_at k closed cs w) i (n - i) ≡ d → cond t (fails_from (is_near_at k closed cs w) (i + 1) (n - (i + 1))) i ≡ d
  here {i} {j} {t} h e f so = sym (fails-next (is_near_at k closed cs w) n i h t (sym (f ∙ ap (is_join_near k) e))) ∙ so

pub loop-i-init : goal.loop-i-init
loop-i-init c = begins c.args.limit c.args.closed c.args.coordinates.now _ c.join_count-count.ensures

pub join_on-join-requires-clause-drawable : goal.join_on-join-requires-clause-drawable
join_on-join-requires-clause-drawable c =
    record {
      near = c.requires.all_within;
      thin = thin-back c.requires.thin;
      several = (join-inside {i = c.loop-i.i} c.args.coordinates.now (omega (arith, c.join_count-count.ensures))).0;
    }

pub join_on-join-requires-clause-i_bound : goal.join_on-join-requires-clause-i_bound
join_on-join-requires-clause-i_bound c = (join-inside c.args.coordinates.now (omega (arith, c.join_count-count.ensures))).1

pub returns-then-not-is_join_near : goal.returns-then-not-is_join_near
returns-then-not-is_join_near c =
    rw (to_z-of_z c.ranges.width, c.if-not-is_join_near.true) at (here c.args.limit c.args.closed c.args.coordinates.now _ c.join_count-count.ensures (omega arith) c.join_on-join.ensures c.is_join_near.ensures c.loop-i.invariant)

pub loop-i-preserved : goal.loop-i-preserved
loop-i-preserved c =
    rw c.if-not-is_join_near.false at (here c.args.limit c.args.closed c.args.coordinates.now _ c.join_count-count.ensures (omega arith) c.join_on-join.ensures c.is_join_near.ensures c.loop-i.invariant)

pub returns : goal.returns
returns c =
    let a = c.args in
    rw (to_z-of_z c.ranges.width) at (sym (fails-end (is_near_at a.limit a.closed a.coordinates.now _) c.join_count-count.result c.loop-i.i (omega arith)) ∙ c.loop-i.invariant)
