-- `ClosedThickSegmentIter` as it is printed: `new` makes the first join; `next` takes the windows of three points, then the join at the
-- last point, which it knows by the index, and at last the first join again, and stops.
use Rattle.std.specs.Prelude.{Bool, true, false, cond, List, [], ◌∷◌, ℕ, zero, suc, eqb, ℤ, length}
use Rattle.shapes.specs.declared.Point.{Point}
use Rattle.shapes.specs.declared.Offset.{Offset}
use Rattle.line_join.specs.declared.Join.{Join}
use Rattle.line_join.specs.Join.{start_of, join_of}
use Rattle.thick_segment.specs.declared.Segment.{Segment}
use Rattle.coordinates.specs.Points.{last_two}

abbrev pub between : Join → Join → Segment
between a b = record { start = a; end = b }

-- what an iterator knows of its points: how many there are, the first and the last two; and the first join
pub record Known : Type 0 where
  pub count : ℕ
  pub first : Point
  pub before : Point
  pub last : Point
  pub join : Join

-- and what it keeps: the points that the windows left go over, the join that the next segment starts with, the index, and whether it
-- has stopped
pub record Iterator : Type 0 where
  pub windows : List Point
  pub start : Join
  pub idx : ℕ
  pub stop : Bool

-- what `next` makes: the join at which its segment ends, the windows that are left, and whether it stops
pub record Turn : Type 0 where
  pub end : Join
  pub windows : List Point
  pub stop : Bool

abbrev pub past_windows : ℤ → Offset → Known → ℕ → List Point → Turn
past_windows w o known idx ps =
    cond (eqb idx known.count) (record { end = join_of known.before known.last known.first w o; windows = ps; stop = false })
    (record { end = known.join; windows = ps; stop = true })

abbrev pub turned : ℤ → Offset → Known → ℕ → List Point → Turn
turned w o known idx [] = past_windows w o known idx []
turned w o known idx (a ∷ []) = past_windows w o known idx (a ∷ [])
turned w o known idx (a ∷ b ∷ []) = past_windows w o known idx (a ∷ b ∷ [])
turned w o known idx (a ∷ b ∷ c ∷ ps) = record { end = join_of a b c w o; windows = b ∷ c ∷ ps; stop = false }

-- what `calls` of `next` answer: none once it has stopped
unfoldable pub answered : ℤ → Offset → Known → Iterator → ℕ → List Segment
answered w o known it zero = []
answered w o known it (suc calls) =
    let t = turned w o known (suc it.idx) it.windows in
    cond it.stop [] (between it.start t.end ∷ answered w o known (record { windows = t.windows; start = t.end; idx = suc it.idx; stop = t.stop }) calls)

-- what they answer from `new` on; of one point the Rust stops at an index
unfoldable pub closed_segments : ℤ → Offset → List Point → ℕ → List Segment
closed_segments w o [] calls = []
closed_segments w o (a ∷ []) calls = []
closed_segments w o (a ∷ b ∷ []) calls =
    let join = start_of a b w o in
    answered w o (record { count = 2; first = a; before = a; last = b; join = join }) (record { windows = []; start = join; idx = 1; stop = false }) calls
closed_segments w o (a ∷ b ∷ c ∷ ps) calls =
    last_two
    (λ y z.
    let join = join_of z a b w o in
    answered w o (record { count = length (a ∷ b ∷ c ∷ ps); first = a; before = y; last = z; join = join }) (record { windows = a ∷ b ∷ c ∷ ps; start = join; idx = 1; stop = false }) calls)
    b c ps
