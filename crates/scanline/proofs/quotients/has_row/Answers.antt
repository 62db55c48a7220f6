use mathlib.Core.Path.{◌≡◌, sym, ap₂, ◌∙◌}
use borrow.Author.Rules.{rules}
use lib.IntN.{ℤ}
use lib.Signed.{le_z}
use mir.Syntax.{w64}
use mir.Val.{SFits, of_z, to_z}
use mir.Facts.{to_z-of_z}
use Rattle.std.specs.Int.{int_min, int_max}
use Rattle.whole.specs.Number.{lesser, greater}
use Rattle.scanline.specs.Rows.{has_row}
use Rattle.scanline.proofs.Choices.{min_lesser, max_greater}
use Rattle.scanline.proofs.quotients.has_row.Goals as goal

low : (y z m row : ℤ) → SFits w64 y → SFits w64 z → SFits w64 m → SFits w64 row → m ≡ int_min (to_z w64 (of_z w64 y)) (to_z w64 (of_z w64 z)) → le_z (to_z w64 (of_z w64 m)) (to_z w64 (of_z w64 row)) ≡ le_z (lesser y z) row
low y z m row f g h r is = ap₂ le_z (to_z-of_z h ∙ is ∙ ap₂ int_min (to_z-of_z f) (to_z-of_z g) ∙ min_lesser y z) (to_z-of_z r)

high : (y z m row : ℤ) → SFits w64 y → SFits w64 z → SFits w64 m → SFits w64 row → m ≡ int_max (to_z w64 (of_z w64 y)) (to_z w64 (of_z w64 z)) → le_z (to_z w64 (of_z w64 row)) (to_z w64 (of_z w64 m)) ≡ le_z row (greater y z)
high y z m row f g h r is = ap₂ le_z (to_z-of_z r) (to_z-of_z h ∙ is ∙ ap₂ int_max (to_z-of_z f) (to_z-of_z g) ∙ max_greater y z)

pub returns-then-min-row : goal.returns-then-min-row
unfolding has_row
returns-then-min-row c =
    let l = c.args.line in
    let a = low l.start.y l.end.y c.min.result c.args.row (search rules) (search rules) (search rules) c.ranges.row c.min.ensures.value in
    let b = high l.start.y l.end.y c.max.result c.args.row (search rules) (search rules) (search rules) c.ranges.row c.max.ensures.value in
    b ∙ rw (sym a ∙ c.if-min-row.true)

pub returns-else-min-row : goal.returns-else-min-row
unfolding has_row
returns-else-min-row c =
    let l = c.args.line in
    let a = low l.start.y l.end.y c.min.result c.args.row (search rules) (search rules) (search rules) c.ranges.row c.min.ensures.value in
    c.if-min-row.false ∙ rw (sym a ∙ c.if-min-row.false)
