use mir.Facts.{to_z-of_z}
use Rattle.bresenham.specs.Walk.{direction_of}
use Rattle.bresenham.proofs.inner.direction.Goals as goal

pub returns-then-d-lt0 : goal.returns-then-d-lt0
unfolding direction_of
returns-then-d-lt0 c = simp (simp (to_z-of_z c.ranges.d) at c.if-d-lt0.true)

pub returns-else-d-lt0 : goal.returns-else-d-lt0
unfolding direction_of
returns-else-d-lt0 c = simp (simp (to_z-of_z c.ranges.d) at c.if-d-lt0.false)
