-- What 01's order says of a join's kind and of its refusal, in words: when it is which; what 02's K4 says of its origins; and of which
-- join K9 speaks.
use Rattle.std.specs.Prelude.{◌≡◌, ◌↔◌, ◌⊎◌, ◌≢◌, true, false, ℕ, ◌<◌, ℤ, pos, ◌≤ℤ◌, ◌<ℤ◌}
use Rattle.shapes.specs.declared.Point.{Point}
use Rattle.shapes.specs.declared.Line.{Line}
use Rattle.shapes.specs.declared.Side.{Side}
use Rattle.shapes.specs.declared.Side.TheVariants.{Left, Right}
use Rattle.shapes.specs.declared.Divisions.{Divisions}
use Rattle.shapes.specs.Shape.{minus, squared_length}
use Rattle.intersection_params.specs.declared.Intersection.TheVariants.{At}
use Rattle.intersection_params.specs.Crossing.{nearly_colinear}
use Rattle.intersection_params.specs.Words.{bend, IsDrawn, IsDivided}
use Rattle.extents.specs.Sides.{Edges}
use Rattle.line_join.specs.declared.Kind.{Kind}
use Rattle.line_join.specs.declared.Kind.TheVariants.{Miter, Bevel, Degenerate, Colinear, Start, End}
use Rattle.line_join.specs.Sides.{Corners}
use Rattle.line_join.specs.declared.Origin.{Origin}
use Rattle.line_join.specs.declared.Origin.TheVariants.{Crossing, NotACrossing}
use Rattle.line_join.specs.Sides.{Origins}
use Rattle.line_join.specs.declared.Join.{Join}
use Rattle.line_join.specs.Miter.{miter_limit}
use Rattle.line_join.specs.Join.{meet, outer, overlapping}
use Rattle.line_join.specs.Caps.{JoinNear}

module _ (first second : Edges) where
  -- one of the two determinants is 0
  abbrev pub Parallel : Type 0
  Parallel = (bend second.left first.left ≡ pos 0) ⊎ (bend second.right first.right ≡ pos 0)

  -- both pairs of edges cross, where `crossing` says; the outer side is that of the left crossing
  pub record Bend (side : Side) (crossing : Corners) : Type 0 where
    pub left_at : meet second.left first.left ≡ At crossing.left side
    pub other : Side
    pub right_at : meet second.right first.right ≡ At crossing.right other

  -- the lines overlap
  pub record Overlap (side : Side) : Type 0 where
    pub crossing : Corners
    pub bend : Bend side crossing
    pub overlaps : overlapping side first second ≡ true

  -- they do not, and the squared distance of the outer corner from the middle point is within the limit
  pub record Short (mid : Point) (w : ℤ) : Type 0 where
    pub side : Side
    pub crossing : Corners
    pub bend : Bend side crossing
    pub apart : overlapping side first second ≡ false
    pub within : squared_length (minus (outer side crossing) mid) ≤ℤ miter_limit w

  -- they do not, and it is beyond
  pub record Long (mid : Point) (w : ℤ) (side : Side) : Type 0 where
    pub crossing : Corners
    pub bend : Bend side crossing
    pub apart : overlapping side first second ≡ false
    pub beyond : miter_limit w <ℤ squared_length (minus (outer side crossing) mid)

  -- when a join is of a kind
  abbrev pub HasKind : Point → ℤ → Kind → Type 0
  HasKind mid w Miter = Short mid w
  HasKind mid w (Bevel s) = Long mid w s
  HasKind mid w (Degenerate s) = Overlap s
  HasKind mid w Colinear = Parallel
  HasKind mid w Start = ⊥
  HasKind mid w End = ⊥

-- which refusal n is, and exactly when, where W says that the width is good, P that the points are, and C that the corners are
pub record Refusals (W P C : Type 0) (n : ℕ) : Type 0 where
  pub none : (n ≡ 0) ↔ (W × (P × C))
  pub width : (n ≡ 3) ↔ (W → ⊥)
  pub points : (n ≡ 4) ↔ (W × (P → ⊥))
  pub corners : (n ≡ 5) ↔ (W × (P × (C → ⊥)))

-- ---- the bend that 5 names

-- of `count` joins in the order of a walk: the first with a corner beyond k has this position, and every join before it is within
pub record Named (k : ℕ) (join : ℕ → Join) (count bend : ℕ) : Type 0 where
  pub place : ℕ
  pub inside : place < count
  pub outside : JoinNear k (join place) → ⊥
  pub before : (i : ℕ) → i < place → JoinNear k (join i)
  pub told : (join place).position ≡ bend

-- what an answer of such joins tells of them: 5 and a position exactly when what is tested before lets through (Free) and the join of that
-- position is named; with every other refusal, and with none, 0
pub record BendTold (Free : Type 0) (k : ℕ) (join : ℕ → Join) (count refusal bend : ℕ) : Type 0 where
  pub five : (p : ℕ) → ((refusal ≡ 5) × (bend ≡ p)) ↔ (Free × Named k join count p)
  pub other : refusal ≢ 5 → bend ≡ 0

-- ---- what two edges meet at

-- an end in the place of a crossing that rounding spoils: the edges are not parallel, p is the first edge's end, and the side is Left
-- exactly when the directions' determinant is negative
pub record Ended (second first : Line) (p : Point) (s : Side) : Type 0 where
  pub crosses : bend second first ≢ pos 0
  pub at_end : p ≡ first.end
  pub left : (s ≡ Left) ↔ (bend second first <ℤ pos 0)

-- ---- when lines overlap

-- the edge on the inner side
abbrev pub inner_edge : Side → Edges → Line
inner_edge Left e = e.right
inner_edge Right e = e.left

-- what a determinant says of a point on the outer side of a line, or on the line
abbrev pub Outward : Side → ℤ → Type 0
Outward Left d = d ≤ℤ pos 0
Outward Right d = pos 0 ≤ℤ d

-- ---- where a join's corners come from

-- the edge and the origin on a side
abbrev pub edge_on : Side → Edges → Line
edge_on Left e = e.left
edge_on Right e = e.right

abbrev pub origin_on : Side → Origins → Origin
origin_on Left o = o.left
origin_on Right o = o.right

-- the kinds that take ends of edges on a side: a bevel on its outer side, all others but a miter on both
abbrev pub TakesEnds : Kind → Side → Type 0
TakesEnds Miter s = ⊥
TakesEnds (Bevel outside) s = s ≡ outside
TakesEnds (Degenerate outside) s = Unit
TakesEnds Colinear s = Unit
TakesEnds Start s = Unit
TakesEnds End s = Unit

module _ (first second : Edges) (s : Side) (j : Join) where
  -- the corners of a side are the ends of its edges, by the join's kind
  pub record AtEdges : Type 0 where
    pub by_kind : TakesEnds j.kind s
    pub ending_at : outer s j.ending ≡ (edge_on s first).end
    pub starting_at : outer s j.starting ≡ (edge_on s second).start

  -- they are one, the first edge's end, since the edges run nearly alike
  pub record AtEnd : Type 0 where
    pub alike : nearly_colinear (edge_on s second) (edge_on s first) ≡ true
    pub ending_at : outer s j.ending ≡ (edge_on s first).end
    pub starting_at : outer s j.starting ≡ (edge_on s first).end

  -- an edge's end was taken
  abbrev pub EndTaken : Type 0
  EndTaken = TakesEnds j.kind s ⊎ (nearly_colinear (edge_on s second) (edge_on s first) ≡ true)

  -- they are one, the drawn crossing of the side's edges, whose coordinates come out so
  pub record AtCrossing (ds : Divisions) : Type 0 where
    pub not_taken : EndTaken → ⊥
    pub outside : Side
    pub ending_at : IsDrawn (edge_on s second) (edge_on s first) (outer s j.ending) outside
    pub starting_at : outer s j.starting ≡ outer s j.ending
    pub divided : IsDivided (edge_on s second) (edge_on s first) ds

  -- what an origin says of its side's corners
  abbrev pub ComesFrom : Origin → Type 0
  ComesFrom NotACrossing = AtEdges ⊎ AtEnd
  ComesFrom (Crossing ds) = AtCrossing ds
