use Rattle.std.proofs.Common.{refl, ◌∙◌, rules, w64}
use mir.Facts.{to_z-of_z}
use Rattle.shapes.specs.Limits.{panel}
use Rattle.shapes.proofs.Numbers.{number-some}
use Rattle.row_text.proofs.Laws.{file-refused, file-drawn, file-formed}
use Rattle.row_text.proofs.print_file.Goals as goal

pub returns-in-Err : goal.returns-in-Err
returns-in-Err c = file-refused c.args.file.now c.in-Err.ensures panel (number-some _)

pub print_routes-total-requires-clause-formed : goal.print_routes-total-requires-clause-formed
print_routes-total-requires-clause-formed c = file-formed c.args.file.now c.in_default.ensures refl

pub returns : goal.returns
returns c =
    to_z-of_z {w = w64} {z = c.print_routes-total.result} (search rules) ∙ rw c.panel.ensures at c.print_routes-total.ensures
    ∙ file-drawn c.args.file.now c.in_default.ensures refl panel
