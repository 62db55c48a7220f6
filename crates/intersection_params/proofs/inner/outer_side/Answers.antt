use mir.Facts.{to_z-of_z}
use Rattle.intersection_params.specs.Crossing.{side_of}
use Rattle.intersection_params.proofs.inner.outer_side.Goals as goal

pub returns-then-determinant-lt0 : goal.returns-then-determinant-lt0
unfolding side_of
returns-then-determinant-lt0 c = simp (simp (to_z-of_z c.ranges.determinant) at c.if-determinant-lt0.true)

pub returns-else-determinant-lt0 : goal.returns-else-determinant-lt0
unfolding side_of
returns-else-determinant-lt0 c = simp (simp (to_z-of_z c.ranges.determinant) at c.if-determinant-lt0.false)
