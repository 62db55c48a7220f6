use Rattle.std.proofs.Common.{◌≡◌, sym, ap, ◌∙◌}
use Rattle.shapes.specs.declared.Line.{Line}
use Rattle.intersection_params.specs.declared.Intersection.{Intersection}
use Rattle.intersection_params.specs.declared.Solution.{Solution}
use Rattle.intersection_params.specs.Crossing.{solution_of, drawn_of, crossing_of, divisions_of}
use Rattle.intersection_params.proofs.Room.{solution-roomy, some-drawn}
use Rattle.line_join.specs.Origins.{origin_of}
use Rattle.line_join.specs.Join.{meet}
use Rattle.line_join.proofs.bend.meet.Goals as goal

-- what the edges' solution says of their crossing
module _ (second first : Line) {s : Solution} (solved : s ≡ solution_of second first) {x : Intersection} (is : drawn_of s ≡ x) where
  crossed : crossing_of second first ≡ x
  unfolding crossing_of
  crossed = ap drawn_of (sym solved) ∙ is

pub drawn-requires : goal.drawn-requires
drawn-requires c = rw c.solve-solution.ensures (solution-roomy c.requires.line_near c.requires.line_near_2)

pub returns-in_default : goal.returns-in_default
unfolding meet origin_of
returns-in_default c = let a = c.args in simp (crossed a.second a.first c.solve-solution.ensures (sym c.drawn.ensures ∙ c.in_default.is))

pub returns-then-nearly_colinear : goal.returns-then-nearly_colinear
unfolding meet origin_of
returns-then-nearly_colinear c =
    let a = c.args in
    simp (crossed a.second a.first c.solve-solution.ensures (sym c.drawn.ensures ∙ c.in-At.is), sym c.nearly_colinear.ensures ∙ c.if-nearly_colinear.true)

pub divisions-requires-clause-roomy : goal.divisions-requires-clause-roomy
divisions-requires-clause-roomy c = rw c.solve-solution.ensures (solution-roomy c.requires.line_near c.requires.line_near_2)

pub divisions-requires-clause-determinant_nonzero : goal.divisions-requires-clause-determinant_nonzero
divisions-requires-clause-determinant_nonzero c = some-drawn c.solve-solution.result (sym c.drawn.ensures ∙ c.in-At.is)

pub returns : goal.returns
unfolding meet origin_of
returns c =
    let a = c.args in
    simp (
      crossed a.second a.first c.solve-solution.ensures (sym c.drawn.ensures ∙ c.in-At.is),
      sym c.nearly_colinear.ensures ∙ c.if-nearly_colinear.false,
      c.divisions.ensures ∙ ap divisions_of c.solve-solution.ensures,
    )
