use Rattle.std.proofs.Common.{sym, ◌∙◌}
use Rattle.line_join.proofs.Room.{some-filler-near}
use Rattle.line_join.proofs.inner.cap.Goals as goal

pub midpoint-mid-requires : goal.midpoint-mid-requires
midpoint-mid-requires c = some-filler-near c.requires (sym c.filler.ensures ∙ c.in-Some.is)
