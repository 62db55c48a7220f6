use Rattle.std.proofs.Common.{◌≡◌}
use Rattle.scanline_intersections.specs.Segments.{spans_from}
use Rattle.scanline_intersections.specs.Merging.{merged_next, next_merged}
use Rattle.scanline_intersections.proofs.inner.merge.Given as goal

-- the walk stands at the place, with its width and its row, and what is left to merge gives the answer
abbrev pub invariant-loop-place : goal.invariant-loop-place
invariant-loop-place l = record {
  stands : l.walk.place ≡ l.place;
  width : l.walk.width ≡ l.fn.walk.width;
  row : l.walk.span.row ≡ l.fn.walk.span.row;
  left :
      merged_next l.place l.fn.walk.width l.walk.span (spans_from l.coordinates l.fn.walk.width l.fn.walk.span.row l.place) ≡ next_merged l.coordinates l.fn.walk;
}
