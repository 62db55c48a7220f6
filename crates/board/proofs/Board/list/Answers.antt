use mathlib.Core.Path.{sym, ◌∙◌}
use lib.Dec.{lit≤}
use Rattle.shapes.specs.Limits.{corner_limit}
use Rattle.board.proofs.Sound.{sound-iff, sound_more}
use Rattle.board.proofs.Board.list.Goals as goal

pub list_sound-requires : goal.list_sound-requires
list_sound-requires c = sound_more ((sound-iff corner_limit c.args.self.now).0 (sym c.is_sound.ensures ∙ c.if-not-is_sound.false)) (lit≤ tt)
