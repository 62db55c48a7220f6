-- `ThickSegmentIter` as it is printed: `new` takes the first window of three points, or two points alone; `next` answers the segment of
-- its two joins, and makes the next end join of the next window, else of the route's end; past an end join that is an End it stops.
use Rattle.std.specs.Prelude.{Bool, true, false, cond, List, [], ◌∷◌, ℕ, zero, suc, ℤ}
use Rattle.shapes.specs.declared.Point.{Point}
use Rattle.shapes.specs.declared.Offset.TheVariants.{None}
use Rattle.line_join.specs.declared.Kind.{Kind}
use Rattle.line_join.specs.declared.Kind.TheVariants.{Miter, Bevel, Degenerate, Colinear, Start, End}
use Rattle.line_join.specs.declared.Join.{Join}
use Rattle.line_join.specs.Join.{start_of, end_of, join_of}
use Rattle.thick_segment.specs.declared.Segment.{Segment}
use Rattle.coordinates.specs.Points.{last_two}

-- what the iterator keeps: the points that the windows left go over, its two joins, and whether it has stopped
pub record Iterator : Type 0 where
  pub windows : List Point
  pub start : Join
  pub end : Join
  pub stop : Bool

abbrev pub is_end : Kind → Bool
is_end Miter = false
is_end (Bevel s) = false
is_end (Degenerate s) = false
is_end Colinear = false
is_end Start = false
is_end End = true

-- past the last window; p and q are the route's last two points
abbrev pub past_windows : ℤ → Point → Point → Iterator → Iterator
past_windows w p q it =
    cond (is_end it.end.kind) (record { windows = it.windows; start = it.end; end = it.end; stop = true })
    (record { windows = it.windows; start = it.end; end = end_of p q w None; stop = false })

-- the iterator after `next`, where it has not stopped
abbrev pub moved_by : ℤ → Point → Point → List Point → Iterator → Iterator
moved_by w p q [] it = past_windows w p q it
moved_by w p q (a ∷ []) it = past_windows w p q it
moved_by w p q (a ∷ b ∷ []) it = past_windows w p q it
moved_by w p q (a ∷ b ∷ c ∷ ps) it = record { windows = b ∷ c ∷ ps; start = it.end; end = join_of a b c w None; stop = false }

abbrev pub moved : ℤ → Point → Point → Iterator → Iterator
moved w p q it = moved_by w p q it.windows it

-- what `calls` of `next` answer: none once it has stopped
unfoldable pub answered : ℤ → Point → Point → Iterator → ℕ → List Segment
answered w p q it zero = []
answered w p q it (suc calls) = cond it.stop [] (record { start = it.start; end = it.end } ∷ answered w p q (moved w p q it) calls)

-- a route of fewer than two points has no segments; what `calls` of `next` answer from `new` on
unfoldable pub open_segments : ℤ → List Point → ℕ → List Segment
open_segments w [] calls = []
open_segments w (a ∷ []) calls = []
open_segments w (a ∷ b ∷ []) calls =
    answered w a b (record { windows = []; start = start_of a b w None; end = end_of a b w None; stop = false }) calls
open_segments w (a ∷ b ∷ c ∷ ps) calls =
    last_two (λ p q. answered w p q (record { windows = b ∷ c ∷ ps; start = start_of a b w None; end = join_of a b c w None; stop = false }) calls) b c ps
