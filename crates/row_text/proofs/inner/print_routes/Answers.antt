use Rattle.std.proofs.Common.{◌*◌, ◌<◌, refl, arith, to_z, w64}
use Rattle.whole.proofs.Bounds.{within_more, within-add}
use Rattle.whole.proofs.Machine.{Hold, hold-as, hold-add, fits-add}
use Rattle.route_file.specs.Form.{route_count}
use Rattle.row_text.specs.Pixels.{entry_pixels, all_pixels}
use Rattle.row_text.proofs.Sums.{sum-begun, sum-turn, sum_done}
use Rattle.row_text.proofs.Laws.{most, entry-pixels}
use Rattle.row_text.proofs.inner.print_routes.Goals as goal

pub loop-k-init : goal.loop-k-init
unfolding all_pixels
loop-k-init c = record { small = record { bound = omega arith }; all = sum-begun (entry_pixels c.args.limits c.args.file.now) (route_count c.args.file.now) }

pub overflow_add-total : goal.overflow_add-total
overflow_add-total c =
    let few : c.loop-k.k < 16 = omega (arith, c.requires.formed.few) in
    let sum : Hold c.loop-k.total-bits (to_z w64 c.loop-k.total-bits) (most * most * 16) = record { is = refl; small = within_more c.loop-k.invariant.small (omega (arith, few)) } in
    fits-add sum (hold-as c.print_entry-total.ensures (entry-pixels c.requires.roomy _ _) tt) tt

pub loop-k-preserved : goal.loop-k-preserved
loop-k-preserved c =
    let few : c.loop-k.k < 16 = omega (arith, c.requires.formed.few) in
    let more : c.loop-k.k < route_count c.args.file.now = omega arith in
    let sum : Hold c.loop-k.total-bits (to_z w64 c.loop-k.total-bits) (most * most * 16) = record { is = refl; small = within_more c.loop-k.invariant.small (omega (arith, few)) } in
    let pixels = hold-as c.print_entry-total.ensures (entry-pixels c.requires.roomy c.args.file.now c.loop-k.k) tt in
    let next = (hold-add sum pixels tt).is in
    record {
      small = rw next (within_more (within-add c.loop-k.invariant.small pixels.small) (omega arith));
      all = rw next (sum-turn (entry_pixels c.args.limits c.args.file.now) (to_z w64 c.loop-k.total-bits) _ (route_count c.args.file.now) c.loop-k.k c.loop-k.invariant.all more);
    }

pub returns : goal.returns
returns c = sum_done (entry_pixels c.args.limits c.args.file.now) (to_z w64 c.loop-k.total-bits) _ (route_count c.args.file.now) c.loop-k.k c.loop-k.invariant.all (omega arith)
