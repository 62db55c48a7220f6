use mathlib.Core.Path.{sym, ◌∙◌}
use Rattle.shapes.specs.Limits.{corner_limit}
use Rattle.board.proofs.Sound.{sound-iff}
use Rattle.board.proofs.Board.offer.Goals as goal

pub offer_sound-requires : goal.offer_sound-requires
offer_sound-requires c = ((sound-iff corner_limit c.args.self.now).0 (sym c.is_sound.ensures ∙ c.if-not-is_sound.false)).few
