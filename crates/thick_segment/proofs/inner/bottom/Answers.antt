use Rattle.std.proofs.Common.{rules, w64}
use mir.Facts.{to_z-of_z}
use Rattle.thick_segment.specs.Segments.{bottom_of}
use Rattle.thick_segment.proofs.Extremes.{max-greater}
use Rattle.thick_segment.proofs.inner.bottom.Goals as goal

pub returns : goal.returns
unfolding bottom_of
returns c =
    cc (
      to_z-of_z {w = w64} {z = c.max.result} (search rules),
      to_z-of_z {w = w64} {z = c.lower.result} (search rules),
      to_z-of_z {w = w64} {z = c.lower-2.result} (search rules),
      c.max.ensures.value,
      max-greater c.lower.result c.lower-2.result,
    )
