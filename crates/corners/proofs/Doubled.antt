-- The cases on doubled points hold, by computation. Assumes nothing.
use mathlib.Core.Path.{refl}
use Rattle.whole.specs.Number.{is_within}
use Rattle.whole.specs.Places.{some_from}
use Rattle.shapes.specs.Shape.{same_point}
use Rattle.shapes.specs.Strokes.{is_thin, stroke_refusal}
use Rattle.coordinates.specs.Points.{point_at, point_count, place_after, segments_of}
use Rattle.coordinates.specs.Neighbours.{is_doubled}
use Rattle.coordinates.specs.Refusal.{is_odd, is_miscounted, are_within, route_refusal}
use Rattle.corners.specs.Cases.{Holds, Every}
use Rattle.corners.specs.Doubled.{doubles}

pub doubles-hold : Every doubles
unfolding Every Holds doubles route_refusal is_doubled some_from segments_of place_after point_at point_count same_point are_within is_within is_miscounted is_odd stroke_refusal is_thin
doubles-hold = (refl, (refl, (refl, (refl, (refl, (refl, (refl, (refl, (refl, (refl, (refl, (refl, tt))))))))))))
