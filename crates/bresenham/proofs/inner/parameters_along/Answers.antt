use mir.Facts.{to_z-of_z}
use mir.Syntax.{w64}
use mir.Val.{SFits, to_z, of_z}
use Rattle.std.proofs.Common.{◌≡◌, ℤ, pos, ap, ◌∙◌, rules}
use lib.IntN.{nat_abs}
use Rattle.whole.specs.Number.{Within}
use Rattle.whole.proofs.Machine.{Hold, hold, hold-as, lt-hold}
use Rattle.bresenham.specs.Walk.{step_limit, direction_of, parameters_along}
use Rattle.bresenham.proofs.inner.parameters_along.Goals as goal

-- what a call of `direction` and one of `magnitude` hand back, of a coordinate that is taken from its bits
turned-bits : {d r : ℤ} → Within d step_limit → SFits w64 r → r ≡ direction_of (to_z w64 (of_z w64 d)) → to_z w64 (of_z w64 r) ≡ direction_of d
turned-bits h f e = to_z-of_z f ∙ (e ∙ ap direction_of (hold h tt).is)

size-bits : {d r : ℤ} → Within d step_limit → r ≡ pos (nat_abs (to_z w64 (of_z w64 d))) → Hold (of_z w64 r) (pos (nat_abs d)) step_limit
size-bits h e = hold-as (e ∙ ap (λ z. pos (nat_abs z)) (hold h tt).is) (record { bound = h.bound }) tt

pub returns-then-width-height : goal.returns-then-width-height
unfolding parameters_along
returns-then-width-height c =
    let x = turned-bits c.requires.x_near (search rules) c.direction.ensures in
    let y = turned-bits c.requires.y_near (search rules) c.direction-2.ensures in
    let width = size-bits c.requires.x_near c.magnitude-width.ensures in
    let height = size-bits c.requires.y_near c.magnitude-height.ensures in
    simp (lt-hold width height c.if-width-height.true) (rw (c.walk_along.ensures, x, y, width.is, height.is))

pub returns : goal.returns
unfolding parameters_along
returns c =
    let x = turned-bits c.requires.x_near (search rules) c.direction.ensures in
    let y = turned-bits c.requires.y_near (search rules) c.direction-2.ensures in
    let width = size-bits c.requires.x_near c.magnitude-width.ensures in
    let height = size-bits c.requires.y_near c.magnitude-height.ensures in
    simp (lt-hold width height c.if-width-height.false) (rw (c.walk_along-2.ensures, x, y, width.is, height.is))
