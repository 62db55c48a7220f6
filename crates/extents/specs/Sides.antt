-- What the edges of a line come in: one for each side.
use Rattle.shapes.specs.declared.Line.{Line}
use Rattle.shapes.specs.declared.Sides.{Sides}
use Rattle.extents.specs.declared.Edge.{Edge}

abbrev pub Ends : Type 0
Ends = Sides Edge

abbrev pub Edges : Type 0
Edges = Sides Line
