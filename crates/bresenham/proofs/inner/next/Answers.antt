use Prim.Native.Nat.{◌+◌}
use lib.Dec.{lit≤}
use mir.Syntax.{w64}
use mir.Val.{of_z}
use Rattle.std.proofs.Common.{◌≡◌, ap}
use Rattle.whole.proofs.Machine.{Hold, hold, hold-as, fits-add, hold-add}
use Rattle.shapes.proofs.Laws.{near-more}
use Rattle.bresenham.specs.declared.Parameters.{Parameters}
use Rattle.bresenham.specs.declared.Bresenham.{Bresenham}
use Rattle.bresenham.specs.Walk.{step_limit, Sized, Placed, turned, next_of, handed}
use Rattle.bresenham.proofs.Laws.{turned-placed}
use Rattle.bresenham.proofs.inner.next.Goals as goal

-- the error after a minor move, in its bits
error : {p : Parameters} {b r : Bresenham} → Sized p → Placed b → r ≡ turned p b → Hold (of_z w64 r.error) (turned p b).error (step_limit + step_limit)
error q r e = hold-as (ap (λ (b : Bresenham). b.error) e) (turned-placed q r).1 tt

pub plus-requires-clause-near : goal.plus-requires-clause-near
plus-requires-clause-near c = rw c.turn-turned.ensures (near-more (turned-placed c.requires.sized c.requires.placed).0 (lit≤ tt))

pub overflow_add-at : goal.overflow_add-at
overflow_add-at c = fits-add (error c.requires.sized c.requires.placed c.turn-turned.ensures) (hold c.requires.sized.gain_small tt) tt

pub returns-clause-point : goal.returns-clause-point
unfolding next_of handed
returns-clause-point c = ap (λ (b : Bresenham). b.point) c.turn-turned.ensures

pub returns-clause-after : goal.returns-clause-after
unfolding next_of handed
returns-clause-after c =
    rw ((hold-add (error c.requires.sized c.requires.placed c.turn-turned.ensures) (hold c.requires.sized.gain_small tt) tt).is, c.plus.ensures, c.turn-turned.ensures)
