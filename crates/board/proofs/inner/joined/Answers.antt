use mathlib.Core.Path.{◌≡◌}
use native.Mathlib.Omega.{arith}
use borrow.Author.Rules.{rules}
use lib.IntN.{ℤ}
use mir.Syntax.{w64}
use mir.Facts.{to_z-of_z}
use Rattle.std.specs.Int.{int_max}
use Rattle.std.proofs.lemmas.Int.{ints}
use Rattle.std.proofs.lemmas.Grind.{common_steps}
use Rattle.whole.specs.Number.{lesser, greater}
use Rattle.board.specs.Runs.{joined}
use Rattle.board.proofs.inner.joined.Goals as goal

max-is : (a b : ℤ) → int_max a b ≡ greater a b
unfolding greater
max-is a b = grind (arith, ints, common_steps)

pub returns : goal.returns
unfolding joined lesser
returns c =
    let s = c.args in
    rw (
      to_z-of_z {w = w64} {z = c.min.result} (search rules),
      to_z-of_z {w = w64} {z = c.max.result} (search rules),
      c.min.ensures.value,
      c.max.ensures.value,
      to_z-of_z {w = w64} {z = s.a.start} (search rules),
      to_z-of_z {w = w64} {z = s.b.start} (search rules),
      to_z-of_z {w = w64} {z = s.a.end} (search rules),
      to_z-of_z {w = w64} {z = s.b.end} (search rules),
      max-is s.a.end s.b.end,
    )
