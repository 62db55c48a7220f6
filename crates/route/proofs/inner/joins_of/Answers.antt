use Rattle.std.proofs.Common.{◌≡◌, ℕ, ◌+◌, ◌-◌, ◌<◌, sym, ap, ◌∙◌, arith, set, replicate, to_z, of_z, w64}
use Rattle.whole.specs.Places.{fails_from, passed_with, list_from}
use Rattle.whole.proofs.Places.{list_length, Counted, counted-more, counted-most, counted-done}
use Rattle.whole.proofs.Lists.{list-drop}
use Rattle.shapes.proofs.Widths.{thin-held, thin-back}
use Rattle.line_join.specs.Caps.{is_join_near}
use Rattle.board.proofs.Arrays.{partly, fill-turn, fill_done}
use Rattle.route_joins.specs.Joins.{join_at, join_count, near_joins}
use Rattle.route_joins.proofs.Near.{join-inside}
use Rattle.route.specs.Joined.{no_join, kept_in, joins_of}
use Rattle.route.proofs.inner.joins_of.Goals as goal

pub loop-i-init : goal.loop-i-init
unfolding near_joins
loop-i-init c =
    let a = c.args in
    let all : c.join_count-count.result - 0 ≡ join_count a.coordinates.now = omega arith in
    record {
      all = c.join_count-count.ensures;
      held = ap (replicate 256) c.no_join-joins.ensures;
      most = omega arith;
      counted = ap (fails_from (λ j. is_join_near a.limit (join_at a.closed a.coordinates.now (to_z w64 (of_z w64 a.width)) j)) 0) all;
    }

pub join_on-join-requires-clause-drawable : goal.join_on-join-requires-clause-drawable
join_on-join-requires-clause-drawable c =
    let i = join-inside {i = c.loop-i.i} c.args.coordinates.now (omega arith) in
    record { near = c.requires.all_within; thin = thin-back c.requires.thin; several = i.0 }

pub join_on-join-requires-clause-i_bound : goal.join_on-join-requires-clause-i_bound
join_on-join-requires-clause-i_bound c = (join-inside c.args.coordinates.now (omega arith)).1

pub near_with-near-requires : goal.near_with-near-requires
near_with-near-requires c = let i = join-inside {i = c.loop-i.i} c.args.coordinates.now (omega arith) in omega (arith, i.1, c.requires.coordinates_bound)

pub offset_bounds-joins-i : goal.offset_bounds-joins-i
offset_bounds-joins-i c = let i = join-inside {i = c.loop-i.i} c.args.coordinates.now (omega arith) in omega (arith, i.1, c.requires.coordinates_bound)

pub bounds-joins-i : goal.bounds-joins-i
bounds-joins-i c = let i = join-inside {i = c.loop-i.i} c.args.coordinates.now (omega arith) in omega (arith, i.1, c.requires.coordinates_bound)

pub loop-i-preserved : goal.loop-i-preserved
loop-i-preserved c =
    let a = c.args in
    let join = λ (j : ℕ). join_at a.closed a.coordinates.now (to_z w64 (of_z w64 a.width)) j in
    let test = λ (j : ℕ). is_join_near a.limit (join j) in
    let n = c.join_count-count.result in
    let i = c.loop-i.i in
    let all = list_from join 0 n in
    let inv = c.loop-i.invariant in
    let more = c.loop-i-test.true in
    let within = join-inside {i = i} a.coordinates.now (omega arith) in
    let room : i < 256 = omega (arith, within.1, c.requires.coordinates_bound) in
    let near : c.near_with-near.result ≡ passed_with c.loop-i.near i (test i) = rw (c.near_with-near.ensures, c.is_join_near.ensures, c.join_on-join.ensures) in
    record {
      all = inv.all;
      held =
          ap (λ js. set js i c.join_on-join.result) inv.held ∙ ap (set (partly 256 no_join all i) i) c.join_on-join.ensures
          ∙ fill-turn 256 no_join all (list_from join (i + 1) (n - (i + 1))) i (join i) room (list-drop join n i more);
      most = rw near (counted-most test c.loop-i.near i (test i) inv.most);
      counted = ap (λ m. Counted test n m (i + 1)) near ∙ counted-more test n c.loop-i.near i inv.most more ∙ inv.counted;
    }

pub returns : goal.returns
unfolding joins_of kept_in
returns c =
    let a = c.args in
    let join = λ (j : ℕ). join_at a.closed a.coordinates.now (to_z w64 (of_z w64 a.width)) j in
    let test = λ (j : ℕ). is_join_near a.limit (join j) in
    let n = c.join_count-count.result in
    let inv = c.loop-i.invariant in
    let last : c.loop-i.i ≡ n = omega arith in
    let full = inv.held ∙ fill_done 256 no_join (list_from join 0 n) c.loop-i.i (last ∙ sym (list_length join 0 n)) in
    let tested = sym (counted-done test n c.loop-i.near) ∙ ap (Counted test n c.loop-i.near) (sym last) ∙ inv.counted in
    rw (← (thin-held c.requires.thin).is, full, tested, inv.all)
