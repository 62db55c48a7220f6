use lib.Dec.{lit≤}
use Rattle.shapes.proofs.Laws.{near-more, near-turn, near-delta}
use Rattle.linear_equation.proofs.inner.from_line.Goals as goal

pub quarter_turn-normal-requires : goal.quarter_turn-normal-requires
quarter_turn-normal-requires c = rw c.delta.ensures (near-more (near-delta c.requires) (lit≤ tt))

pub dot_product-distance-requires-clause-near_2 : goal.dot_product-distance-requires-clause-near_2
dot_product-distance-requires-clause-near_2 c = rw (c.quarter_turn-normal.ensures, c.delta.ensures) (near-more (near-turn (near-delta c.requires)) (lit≤ tt))
