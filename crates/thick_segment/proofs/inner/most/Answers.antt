use Rattle.std.proofs.Common.{rules, ◌≡◌, refl, w64, to_z, of_z}
use mir.Facts.{to_z-of_z}
use Rattle.whole.specs.Number.{greater}
use Rattle.thick_segment.specs.Segments.{most}
use Rattle.thick_segment.proofs.Extremes.{max-greater}
use Rattle.thick_segment.proofs.inner.most.Goals as goal

pub returns : goal.returns
unfolding most
returns c =
    let a = c.args.a in
    let b = c.args.b in
    let x : to_z w64 (of_z w64 c.max.result) ≡ greater a.x b.x =
    cc (
      to_z-of_z {w = w64} {z = c.max.result} (search rules),
      to_z-of_z {w = w64} {z = a.x} (search rules),
      to_z-of_z {w = w64} {z = b.x} (search rules),
      c.max.ensures.value,
      max-greater a.x b.x,
    ) in
    let y : to_z w64 (of_z w64 c.max-2.result) ≡ greater a.y b.y =
    cc (
      to_z-of_z {w = w64} {z = c.max-2.result} (search rules),
      to_z-of_z {w = w64} {z = a.y} (search rules),
      to_z-of_z {w = w64} {z = b.y} (search rules),
      c.max-2.ensures.value,
      max-greater a.y b.y,
    ) in
    rw (x, y) refl
