use Rattle.std.proofs.Common.{◌≡◌, ◌-◌, ◌<◌, sym, ap, ◌∙◌, arith}
use Rattle.whole.proofs.Places.{list-end, list-next}
use Rattle.route.specs.Joined.{segments_in}
use Rattle.route.specs.Rows.{range_values, with_all, drawn_in, rows_in}
use Rattle.route.proofs.Kept.{segment-near}
use Rattle.route.proofs.inner.rows_of.Goals as goal

pub loop-k-init : goal.loop-k-init
unfolding rows_in
loop-k-init c = let all : segments_in c.args.route.now - 0 ≡ segments_in c.args.route.now = omega arith in rw all

pub drawn_rows-requires : goal.drawn_rows-requires
drawn_rows-requires c = rw c.segment.ensures (segment-near c.requires (omega arith))

pub loop-k-preserved : goal.loop-k-preserved
unfolding with_all
loop-k-preserved c =
    let more : c.loop-k.k < segments_in c.args.route.now = omega arith in
    rw (c.with_rows.ensures, c.drawn_rows.ensures, c.segment.ensures)
    (ap (with_all (range_values c.loop-k.rows)) (sym (list-next (drawn_in c.args.route.now) (segments_in c.args.route.now) c.loop-k.k more)) ∙ c.loop-k.invariant)

pub returns : goal.returns
unfolding with_all
returns c =
    sym (ap (with_all (range_values c.loop-k.rows)) (list-end (drawn_in c.args.route.now) (segments_in c.args.route.now) c.loop-k.k (omega arith))) ∙ c.loop-k.invariant
