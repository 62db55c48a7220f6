use Rattle.std.proofs.Common.{sym, ap, ◌∙◌, refl, nat_abs}
use Rattle.whole.proofs.Machine.{hold, literal, hold-add, hold-sub}
use Rattle.route.specs.Rows.{range_of, no_rows}
use Rattle.route.proofs.Ranges.{count-some, count_none}
use Rattle.route.proofs.inner.row_count.Goals as goal

pub returns-in-Some : goal.returns-in-Some
returns-in-Some c =
    let near = rw c.in-Some.is at c.requires in
    let tall = hold-add (hold-sub (hold near.last_near tt) (hold near.first_near tt) tt) (literal 1 tt) tt in
    ap nat_abs tall.is ∙ rw c.in-Some.is (sym (count-some (range_of c.in-Some.rows) refl))

pub returns-in-None : goal.returns-in-None
returns-in-None c = rw c.in-None.is (sym (count_none (no_rows 0 0) refl))
