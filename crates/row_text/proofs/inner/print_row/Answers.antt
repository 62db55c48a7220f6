use Rattle.std.proofs.Common.{ap, ◌∙◌, rules, w64}
use mir.Facts.{to_z-of_z}
use Rattle.board.specs.Runs.{total}
use Rattle.board.specs.Boards.{live}
use Rattle.route.proofs.Drawn.{drawn-sound}
use Rattle.row_text.specs.Pixels.{lit_on}
use Rattle.row_text.proofs.inner.print_row.Goals as goal

pub print_runs-requires : goal.print_runs-requires
print_runs-requires c =
    let e = rw (c.unwrap-board.ensures, to_z-of_z c.ranges.row) at c.row_board.ensures in
    rw (ap (λ a. a.board) e) (drawn-sound c.requires.kept c.requires.within).few

pub total_of-requires : goal.total_of-requires
total_of-requires c =
    let e = rw (c.unwrap-board.ensures, to_z-of_z c.ranges.row) at c.row_board.ensures in
    rw (ap (λ a. a.board) e) (drawn-sound c.requires.kept c.requires.within)

pub returns : goal.returns
unfolding lit_on
returns c =
    let e = rw (c.unwrap-board.ensures, to_z-of_z c.ranges.row) at c.row_board.ensures in
    to_z-of_z {w = w64} {z = c.total_of.result} (search rules) ∙ c.total_of.ensures ∙ ap (λ a. total (live a.board)) e
