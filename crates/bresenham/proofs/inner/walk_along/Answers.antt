use Rattle.whole.proofs.Machine.{hold, literal, hold-mul}
use Rattle.bresenham.specs.Walk.{along}
use Rattle.bresenham.proofs.inner.walk_along.Goals as goal

pub returns : goal.returns
unfolding along
returns c =
    let a = hold c.requires.within tt in
    rw ((hold-mul (literal 2 tt) (hold c.requires.within_2 tt) tt).is, (hold-mul (literal 2 tt) a tt).is, a.is)
