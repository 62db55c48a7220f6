use mathlib.Core.Path.{sym, ap, ◌∙◌}
use mathlib.Core.Bool.{and-true, and-false}
use Prim.Native.Nat.{◌*◌}
use native.Mathlib.Omega.{arith}
use borrow.Author.Rules.{rules}
use borrow.Author.Tests.{le-leb, lt-leb}
use lib.Dec.{leb}
use lib.ListN.{length}
use Rattle.board.specs.Boards.{live, told, told_to}
use Rattle.board.proofs.Sound.{sound-iff, sound_more}
use Rattle.board_records.specs.Records.{both_listed, numbers_to}
use Rattle.board_records.proofs.inner.list_within.Goals as goal

pub list_sound-requires : goal.list_sound-requires
list_sound-requires c =
    sound_more ((sound-iff c.args.limit c.args.board.now).0 (sym c.is_sound.ensures ∙ c.if-not-is_sound.false)) c.requires

pub runs_of-requires : goal.runs_of-requires
runs_of-requires c = ((sound-iff c.args.limit c.args.board.now).0 (sym c.is_sound.ensures ∙ c.if-not-is_sound.false)).few

pub returns-then-not-is_sound : goal.returns-then-not-is_sound
unfolding both_listed numbers_to
returns-then-not-is_sound c = rw (← c.is_sound.ensures, c.if-not-is_sound.true) (search rules)

pub returns-then-runs_of-room : goal.returns-then-runs_of-room
unfolding both_listed numbers_to
returns-then-runs_of-room c =
    let b = c.args.board.now in
    let long = ap length c.runs_of.ensures in
    let few = lt-leb (length (live b)) c.args.room (omega arith) in
    rw (← c.is_sound.ensures, c.if-not-is_sound.false, few, and-false (leb (2 * length (live b)) (length c.args.out.now))) (search rules)

pub returns : goal.returns
unfolding both_listed numbers_to told told_to
returns c =
    let b = c.args.board.now in
    let long = ap length c.runs_of.ensures in
    let many = le-leb (length (live b)) c.args.room (omega arith) in
    rw (← c.is_sound.ensures, c.if-not-is_sound.false, many, and-true (leb (2 * length (live b)) (length c.args.out.now))) c.list_sound.ensures
