use Rattle.std.proofs.Common.{refl, ◌∙◌, arith, rules, pos, get_or, to_z, of_z, w64}
use mir.Facts.{to_z-of_z}
use Rattle.shapes.specs.Limits.{panel}
use Rattle.route.specs.Answers.{listing_values}
use Rattle.bench_rows.proofs.Laws.{left-all, left-more, left-none}
use Rattle.bench_rows.proofs.knitbramble_rows_by_entry.Goals as goal

pub loop-row-init : goal.loop-row-init
loop-row-init c = let a = c.args in record { long = refl; left = left-all panel a.closed a.coordinates.now (to_z w64 (of_z w64 a.width)) a.rows.now a.out.now refl }

pub loop-row-preserved : goal.loop-row-preserved
loop-row-preserved c =
    let a = c.args in
    let l = c.loop-row in
    let row = to_z-of_z {w = w64} {z = get_or a.rows.now l.row-index (pos 0)} (search rules) in
    record {
      long = search rules;
      left =
          left-more panel a.closed a.coordinates.now (to_z w64 (of_z w64 a.width)) a.rows.now a.out.now l.row-index (listing_values l.last) l.out (omega arith) l.invariant.long
          (rw row at c.row-last.ensures.value) (rw row at c.row-last.ensures.list) l.invariant.left;
    }

pub returns-clause-columns : goal.returns-clause-columns
returns-clause-columns c =
    let a = c.args in
    let l = c.loop-row in
    let all = left-none panel a.closed a.coordinates.now (to_z w64 (of_z w64 a.width)) a.rows.now a.out.now l.row-index (listing_values l.last) l.out (omega arith) l.invariant.left in
    to_z-of_z {w = w64} {z = c.columns.result} (search rules) ∙ c.columns.ensures ∙ (rw (to_z-of_z c.ranges.width) at all).0

pub returns-clause-written : goal.returns-clause-written
returns-clause-written c =
    let a = c.args in
    let l = c.loop-row in
    let all = left-none panel a.closed a.coordinates.now (to_z w64 (of_z w64 a.width)) a.rows.now a.out.now l.row-index (listing_values l.last) l.out (omega arith) l.invariant.left in
    (rw (to_z-of_z c.ranges.width) at all).1
