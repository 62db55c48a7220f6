use lib.Dec.{lit<}
use mir.Facts.{to_z-of_z}
use Rattle.std.proofs.Common.{Err, ◌≡◌, length, rules}
use Rattle.thick_points.specs.Listing.{thick_points_of, points_refusal}
use Rattle.thick_points.proofs.Answers.{each-told}
use Rattle.thick_points.proofs.Lists.{line-points, points-length}
use Rattle.thick_points.proofs.list_thick_points.Goals as goal

pub returns-in_err-count-clause-value : goal.returns-in_err-count-clause-value
unfolding points_refusal
returns-in_err-count-clause-value c =
    let ts = thick_points_of c.args.line c.args.width in
    let is : c.from_residual.result ≡ Err c.in_err-count.field-0.0 = search rules in
    let told = rw (to_z-of_z c.ranges.width, line-points c.args.line c.args.width) at c.in_err-count.ensures.value in
    rw is (each-told _ 2 (length ts) (lit< tt) (points-length ts) told)

pub returns-in_err-count-clause-out_after : goal.returns-in_err-count-clause-out_after
unfolding points_refusal
returns-in_err-count-clause-out_after c = rw (to_z-of_z c.ranges.width, line-points c.args.line c.args.width) at c.list.ensures.out_after

pub returns-clause-value : goal.returns-clause-value
unfolding points_refusal
returns-clause-value c =
    let ts = thick_points_of c.args.line c.args.width in
    let told = rw (to_z-of_z c.ranges.width, line-points c.args.line c.args.width) at c.in_ok-count.ensures.value in
    each-told _ 2 (length ts) (lit< tt) (points-length ts) told

pub returns-clause-out_after : goal.returns-clause-out_after
unfolding points_refusal
returns-clause-out_after c = rw (to_z-of_z c.ranges.width, line-points c.args.line c.args.width) at c.list.ensures.out_after
