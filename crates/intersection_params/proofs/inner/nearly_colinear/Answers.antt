use lib.Dec.{lit≤}
use mir.Facts.{to_z-of_z}
use mir.Syntax.{w64}
use mir.Val.{of_z}
use Rattle.std.proofs.Common.{◌^◌, rules}
use Rattle.whole.proofs.Bounds.{within_more}
use Rattle.whole.proofs.Machine.{Hold, hold, hold-as, fits-mul, hold-mul}
use Rattle.shapes.specs.Shape.{dot_product, delta}
use Rattle.shapes.proofs.Laws.{near-more, near-delta, within-dot}
use Rattle.intersection_params.specs.Crossing.{solution_of, nearly_colinear}
use Rattle.intersection_params.proofs.Room.{solution-roomy}
use Rattle.intersection_params.proofs.inner.nearly_colinear.Goals as goal

determinant : (c : goal.After-dot_product-dot) → Hold (of_z w64 c.solve-d.result.determinant) (solution_of c.args.first c.args.second).determinant (2 ^ 31)
determinant c = rw c.solve-d.ensures (hold (solution-roomy c.requires.line_near c.requires.line_near_2).determinant_within tt)

dot : (c : goal.After-dot_product-dot) → Hold (of_z w64 c.dot_product-dot.result) (dot_product (delta c.args.first) (delta c.args.second)) (2 ^ 31)
dot c = hold-as {r = c.dot_product-dot.result} (cc) (within-dot (near-delta c.requires.line_near) (near-delta c.requires.line_near_2)) tt

pub dot_product-dot-requires-clause-near : goal.dot_product-dot-requires-clause-near
dot_product-dot-requires-clause-near c = rw c.delta.ensures (near-more (near-delta c.requires.line_near) (lit≤ tt))

pub dot_product-dot-requires-clause-near_2 : goal.dot_product-dot-requires-clause-near_2
dot_product-dot-requires-clause-near_2 c = rw c.delta-2.ensures (near-more (near-delta c.requires.line_near_2) (lit≤ tt))

pub overflow_mul-result : goal.overflow_mul-result
overflow_mul-result c = fits-mul (determinant c) (determinant c) tt

pub magnitude-requires : goal.magnitude-requires
magnitude-requires c = rw (dot c).is (within_more (dot c).small (lit≤ tt))

pub returns : goal.returns
unfolding nearly_colinear
returns c =
    let d = determinant c.before in
    rw ((hold-mul d d tt).is, to_z-of_z {w = w64} {z = c.magnitude.result} (search rules), c.magnitude.ensures, (dot c.before).is)
