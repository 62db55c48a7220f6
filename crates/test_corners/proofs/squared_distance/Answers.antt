use lib.Dec.{lit≤}
use Rattle.shapes.specs.Limits.{corner_limit}
use Rattle.shapes.proofs.Laws.{near-more, near-minus, true-near}
use Rattle.test_corners.proofs.squared_distance.Goals as goal

pub minus-requires-clause-near : goal.minus-requires-clause-near
minus-requires-clause-near c = near-more (true-near corner_limit c.args.b (cc)) (lit≤ tt)

pub minus-requires-clause-near_2 : goal.minus-requires-clause-near_2
minus-requires-clause-near_2 c = near-more (true-near corner_limit c.args.a (cc)) (lit≤ tt)

pub squared_length-requires : goal.squared_length-requires
squared_length-requires c =
    rw c.minus.ensures (near-more (near-minus (true-near corner_limit c.args.b (cc)) (true-near corner_limit c.args.a (cc))) (lit≤ tt))
