use Rattle.route_file.proofs.Laws.{entry_inside}
use Rattle.route_file.proofs.entry.Goals as goal

pub entry_at-entry-requires : goal.entry_at-entry-requires
entry_at-entry-requires c = entry_inside c.args.file.now c.args.k c.in_ok-check_form.ensures (rw c.count_of.ensures at c.if-count_of-k.false)
