-- What a join has one of for each side.
use Rattle.shapes.specs.declared.Point.{Point}
use Rattle.shapes.specs.declared.Sides.{Sides}
use Rattle.line_join.specs.declared.Origin.{Origin}

abbrev pub Corners : Type 0
Corners = Sides Point

abbrev pub Origins : Type 0
Origins = Sides Origin
