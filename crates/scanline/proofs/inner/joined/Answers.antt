use borrow.Author.Rules.{rules}
use mir.Syntax.{w64}
use mir.Facts.{to_z-of_z}
use Rattle.scanline.proofs.Choices.{min_lesser, max_greater}
use Rattle.scanline.proofs.inner.joined.Goals as goal

pub returns : goal.returns
returns c =
    let s = c.args.span in
    let o = c.args.other in
    cc (
      to_z-of_z {w = w64} {z = s.row} (search rules),
      to_z-of_z {w = w64} {z = s.start} (search rules),
      to_z-of_z {w = w64} {z = s.end} (search rules),
      to_z-of_z {w = w64} {z = o.start} (search rules),
      to_z-of_z {w = w64} {z = o.end} (search rules),
      to_z-of_z {w = w64} {z = c.min.result} (search rules),
      to_z-of_z {w = w64} {z = c.max.result} (search rules),
      min_lesser s.start o.start,
      max_greater s.end o.end,
      c.min.ensures.value,
      c.max.ensures.value,
    )
