use Rattle.std.proofs.Common.{refl, sym, ◌∙◌, arith, rules, pos, get_or, length, to_z, of_z, w64}
use mir.Facts.{to_z-of_z}
use Rattle.shapes.specs.Limits.{panel}
use Rattle.route.specs.Answers.{listing_values}
use Rattle.shapes.proofs.Numbers.{number-some}
use Rattle.route.proofs.Chains.{panel-roomy, ready, refused-with, row_made, list-made}
use Rattle.bench_rows.proofs.Laws.{left-all, left-more, left-none, nothing-drawn}
use Rattle.bench_rows.proofs.knitbramble_rows_of_joins.Goals as goal

pub returns-in_default-clause-columns : goal.returns-in_default-clause-columns
returns-in_default-clause-columns c =
    let e = rw (c.panel.ensures, to_z-of_z c.ranges.width, c.in_default.is) at c.prepare-answer.ensures in
    sym (nothing-drawn panel _ _ _ (refused-with _ _ _ _ e) (number-some _) c.args.rows.now c.args.out.now).0

pub returns-in_default-clause-written : goal.returns-in_default-clause-written
returns-in_default-clause-written c =
    let e = rw (c.panel.ensures, to_z-of_z c.ranges.width, c.in_default.is) at c.prepare-answer.ensures in
    sym (nothing-drawn panel _ _ _ (refused-with _ _ _ _ e) (number-some _) c.args.rows.now c.args.out.now).1

pub loop-row-init : goal.loop-row-init
loop-row-init c = let a = c.args in record { long = refl; left = left-all panel a.closed a.coordinates.now (to_z w64 (of_z w64 a.width)) a.rows.now a.out.now refl }

pub row_of-last-requires-clause-kept : goal.row_of-last-requires-clause-kept
row_of-last-requires-clause-kept c = (ready _ _ _ _ panel-roomy (rw c.panel.ensures at c.prepare-answer.ensures) (rw c.in-Ok.is)).kept

pub loop-row-preserved : goal.loop-row-preserved
loop-row-preserved c =
    let a = c.args in
    let l = c.loop-row in
    let y = get_or a.rows.now l.row-index (pos 0) in
    let row = to_z-of_z {w = w64} {z = y} (search rules) in
    let free = ready panel a.closed a.coordinates.now (to_z w64 (of_z w64 a.width)) panel-roomy (rw c.panel.ensures at c.prepare-answer.ensures) (rw c.in-Ok.is) in
    record {
      long = search rules;
      left =
          left-more panel a.closed a.coordinates.now (to_z w64 (of_z w64 a.width)) a.rows.now a.out.now l.row-index (listing_values l.last) l.out (omega arith) l.invariant.long
          (rw row at c.row_of-last.ensures.value ∙ row_made _ _ _ _ free y (length l.out)) (rw row at c.row_of-last.ensures.list ∙ list-made _ _ _ _ free y l.out) l.invariant.left;
    }

pub returns-clause-columns : goal.returns-clause-columns
returns-clause-columns c =
    let a = c.args in
    let l = c.loop-row in
    let all = left-none panel a.closed a.coordinates.now (to_z w64 (of_z w64 a.width)) a.rows.now a.out.now l.row-index (listing_values l.last) l.out (omega arith) l.invariant.left in
    to_z-of_z {w = w64} {z = c.columns.result} (search rules) ∙ c.columns.ensures ∙ (rw (to_z-of_z c.ranges.width) at all).0

pub returns-clause-written : goal.returns-clause-written
returns-clause-written c =
    let a = c.args in
    let l = c.loop-row in
    let all = left-none panel a.closed a.coordinates.now (to_z w64 (of_z w64 a.width)) a.rows.now a.out.now l.row-index (listing_values l.last) l.out (omega arith) l.invariant.left in
    (rw (to_z-of_z c.ranges.width) at all).1
