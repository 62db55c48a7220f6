-- The two long edges of a segment.
use Rattle.shapes.specs.declared.Line.{Line}
use Rattle.shapes.specs.declared.Sides.{Sides}

abbrev pub EdgePair : Type 0
EdgePair = Sides Line
