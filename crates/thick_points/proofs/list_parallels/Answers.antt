use lib.Dec.{lit<}
use mir.Facts.{to_z-of_z}
use Rattle.std.proofs.Common.{Err, ◌≡◌, length, rules}
use Rattle.parallels.specs.Parallels.{parallels_of}
use Rattle.thick_points.specs.Listing.{parallels_refusal}
use Rattle.thick_points.proofs.Answers.{each-told}
use Rattle.thick_points.proofs.Lists.{line-starts, numbers-length}
use Rattle.thick_points.proofs.list_parallels.Goals as goal

pub returns-in_err-count-clause-value : goal.returns-in_err-count-clause-value
unfolding parallels_refusal
returns-in_err-count-clause-value c =
    let ts = parallels_of c.args.line c.args.width c.args.offset in
    let is : c.from_residual.result ≡ Err c.in_err-count.field-0.0 = search rules in
    let told = rw (to_z-of_z c.ranges.width, line-starts c.args.line c.args.width c.args.offset) at c.in_err-count.ensures.value in
    rw is (each-told _ 4 (length ts) (lit< tt) (numbers-length ts) told)

pub returns-in_err-count-clause-out_after : goal.returns-in_err-count-clause-out_after
unfolding parallels_refusal
returns-in_err-count-clause-out_after c = rw (to_z-of_z c.ranges.width, line-starts c.args.line c.args.width c.args.offset) at c.list.ensures.out_after

pub returns-clause-value : goal.returns-clause-value
unfolding parallels_refusal
returns-clause-value c =
    let ts = parallels_of c.args.line c.args.width c.args.offset in
    let told = rw (to_z-of_z c.ranges.width, line-starts c.args.line c.args.width c.args.offset) at c.in_ok-count.ensures.value in
    each-told _ 4 (length ts) (lit< tt) (numbers-length ts) told

pub returns-clause-out_after : goal.returns-clause-out_after
unfolding parallels_refusal
returns-clause-out_after c = rw (to_z-of_z c.ranges.width, line-starts c.args.line c.args.width c.args.offset) at c.list.ensures.out_after
