-- The polyline's segments as the Rust has them: `new` takes the start join from the first two points; `next_segment` looks at the
-- points that remain, and the end join of a segment is the start join of the next.
use Rattle.std.specs.Prelude.{List, [], ◌∷◌, ℤ}
use Rattle.shapes.specs.declared.Point.{Point}
use Rattle.shapes.specs.declared.Offset.TheVariants.{None}
use Rattle.line_join.specs.declared.Join.{Join}
use Rattle.line_join.specs.Join.{start_of, end_of, join_of}
use Rattle.thick_segment.specs.declared.Segment.{Segment}

unfoldable pub next_segments : ℤ → Join → List Point → List Segment
next_segments w start [] = []
next_segments w start (a ∷ []) = []
next_segments w start (a ∷ b ∷ []) = record { start = start; end = end_of a b w None } ∷ next_segments w (end_of a b w None) (b ∷ [])
next_segments w start (a ∷ b ∷ c ∷ ps) = record { start = start; end = join_of a b c w None } ∷ next_segments w (join_of a b c w None) (b ∷ c ∷ ps)

unfoldable pub polyline_segments : ℤ → List Point → List Segment
polyline_segments w [] = []
polyline_segments w (a ∷ []) = []
polyline_segments w (a ∷ b ∷ ps) = next_segments w (start_of a b w None) (a ∷ b ∷ ps)
