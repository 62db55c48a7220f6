-- What inner functions ask is met: widths, edges, crossings and corners are small. Assumes nothing.
use mathlib.Core.Path.{◌≡◌, subst}
use mathlib.Core.Logic.{◌↔◌}
use mathlib.Core.Bool.{Bool, true, false, cond}
use Prim.Native.Nat.{ℕ, ◌+◌, ◌*◌, ◌≤◌}
use lib.Dec.{T, lit≤}
use lib.IntN.{ℤ, pos}
use Rattle.std.specs.Prelude.{Option, Some, None}
use Rattle.whole.specs.Number.{eq_z}
use Rattle.whole.specs.Rounded.{rounded}
use Rattle.whole.proofs.Bounds.{within_more}
use Rattle.whole.proofs.Squares.{rounded-within}
use Rattle.whole.proofs.Tests.{and-iff}
use Rattle.shapes.specs.declared.Point.{Point}
use Rattle.shapes.specs.declared.Line.{Line}
use Rattle.shapes.specs.declared.Side.{Side}
use Rattle.shapes.specs.declared.Side.TheVariants.{Left, Right}
use Rattle.shapes.specs.declared.Offset.{Offset}
use Rattle.shapes.specs.Limits.{corner_limit, width_limit, line_limit, stroke_limit}
use Rattle.shapes.specs.Shape.{Near, LineNear, point_of, line_of, is_near}
use Rattle.shapes.proofs.Laws.{near-more, line-of-near, near-iff}
use Rattle.shapes.proofs.Widths.{thin-within}
use Rattle.intersection_params.specs.declared.Intersection.{Intersection}
use Rattle.intersection_params.specs.declared.Intersection.TheVariants.{At, Colinear}
use Rattle.intersection_params.specs.Crossing.{solution_of, side_of, drawn_of, crossing_of, nearly_colinear}
use Rattle.intersection_params.proofs.Room.{solution-roomy}
use Rattle.extents.specs.Edges.{EdgesNear, extents_of}
use Rattle.extents.proofs.Laws.{edges-near, edges_more}
use Rattle.shapes.specs.Strokes.{Thin}
use Rattle.line_join.specs.Miter.{corner_room}
use Rattle.line_join.specs.declared.Kind.{Kind}
use Rattle.line_join.specs.declared.Kind.TheVariants as kind
use Rattle.line_join.specs.declared.Kind.TheVariants.{Miter, Bevel, Degenerate, Start, End}
use Rattle.line_join.specs.Sides.{Corners}
use Rattle.line_join.specs.declared.Join.{Join}
use Rattle.line_join.specs.Join.{mended, meet, outer}
use Rattle.line_join.specs.Caps.{CornersNear, JoinNear, is_corners_near, is_join_near, between, filler_by, filler_of}

-- ---- edges: the one place that cites how far they lie from a line

-- of a line between points within k
pub edges-within : {j k : ℕ} {a b : Point} {w : ℤ} (o : Offset) → k ≤ line_limit → k + (4 * width_limit + 3) ≤ j → Near k a → Near k b → Thin w → EdgesNear j (extents_of (line_of a b) w o)
edges-within {k = k} {a} {b} {w} o fits le p q h = edges_more (edges-near k width_limit (line_of a b) w o (line-of-near p q) fits (thin-within h).bound) le

pub edges_room : {a b : Point} {w : ℤ} (o : Offset) → Near stroke_limit a → Near stroke_limit b → Thin w → EdgesNear line_limit (extents_of (line_of a b) w o)
edges_room o p q h = edges-within o (lit≤ tt) (lit≤ tt) p q h

-- ---- crossings

-- the point of an intersection, if there is one, is small
abbrev pub Inside : Intersection → Type 0
Inside (At p s) = Near corner_room p
Inside Colinear = T true

chosen-room : (t : Bool) (p : Point) (s : Side) → Near corner_room p → Inside (cond t Colinear (At p s))
chosen-room true p s h = tt
chosen-room false p s h = h

crossing-room : {a b : Line} → LineNear line_limit a → LineNear line_limit b → Inside (crossing_of a b)
unfolding crossing_of drawn_of
crossing-room {a} {b} h i =
    let s = solution_of a b in
    let r = solution-roomy h i in
    let point : Near corner_room (point_of (rounded s.x s.determinant) (rounded s.y s.determinant)) = record {
      x_near = within_more (rounded-within r.x_within r.determinant_within) (lit≤ tt);
      y_near = within_more (rounded-within r.y_within r.determinant_within) (lit≤ tt);
    } in
    chosen-room (eq_z s.determinant (pos 0)) _ (side_of s.determinant) point

mended-room : (t : Bool) {end : Point} (x : Intersection) → Near corner_room end → Inside x → Inside (mended t end x)
mended-room true (At p s) e h = e
mended-room false (At p s) e h = h
mended-room t Colinear e h = tt

pub meet-room : {second first : Line} → LineNear line_limit second → LineNear line_limit first → Inside (meet second first)
unfolding meet
meet-room {second} {first} h i =
    mended-room (nearly_colinear second first) (crossing_of second first) (near-more i.end_near (lit≤ tt)) (crossing-room h i)

-- ---- corners

pub outer-near : {k : ℕ} (s : Side) {c : Corners} → CornersNear k c → Near k (outer s c)
outer-near Left h = h.left_near
outer-near Right h = h.right_near

pub corners-near-more : {j k : ℕ} {c : Corners} → CornersNear j c → j ≤ k → CornersNear k c
corners-near-more h le = record { left_near = near-more h.left_near le; right_near = near-more h.right_near le }

pub join-near-more : {i k : ℕ} {j : Join} → JoinNear i j → i ≤ k → JoinNear k j
join-near-more h le = record { ending_near = corners-near-more h.ending_near le; starting_near = corners-near-more h.starting_near le }

-- the tests of bounds
pub corners-near-iff : (k : ℕ) (c : Corners) → (is_corners_near k c ≡ true) ↔ CornersNear k c
unfolding is_corners_near
corners-near-iff k c =
    let both = and-iff (is_near k c.left) (is_near k c.right) (near-iff k c.left) (near-iff k c.right) in
    (λ e. record { left_near = (both.0 e).0; right_near = (both.0 e).1 }, λ h. both.1 (h.left_near, h.right_near))

pub join-near-iff : (k : ℕ) (j : Join) → (is_join_near k j ≡ true) ↔ JoinNear k j
unfolding is_join_near
join-near-iff k j =
    let both = and-iff (is_corners_near k j.ending) (is_corners_near k j.starting) (corners-near-iff k j.ending) (corners-near-iff k j.starting) in
    (λ e. record { ending_near = (both.0 e).0; starting_near = (both.0 e).1 }, λ h. both.1 (h.ending_near, h.starting_near))

-- what passes the entries' test is small enough
pub join-room : (j : Join) → is_join_near corner_limit j ≡ true → JoinNear line_limit j
join-room j e = join-near-more ((join-near-iff corner_limit j).0 e) (lit≤ tt)

-- the filler line, if there is one, lies as near as the corners
abbrev pub FillerNear : ℕ → Option Line → Type 0
FillerNear k (Some l) = LineNear k l
FillerNear k None = T true

between-near : {k : ℕ} (s : Side) {e t : Corners} → CornersNear k e → CornersNear k t → LineNear k (between s e t)
between-near s p q = line-of-near (outer-near s p) (outer-near s q)

filler-by : {n : ℕ} (k : Kind) {e t : Corners} → CornersNear n e → CornersNear n t → FillerNear n (filler_by k e t)
filler-by Miter p q = tt
filler-by (Bevel s) p q = between-near s p q
filler-by (Degenerate s) p q = between-near s p q
filler-by kind.Colinear p q = tt
filler-by Start p q = tt
filler-by End p q = tt

pub filler-near : {k : ℕ} {j : Join} → JoinNear k j → FillerNear k (filler_of j)
unfolding filler_of
filler-near {j} h = filler-by j.kind h.ending_near h.starting_near

pub some-filler-near : {k : ℕ} {j : Join} {l : Line} → JoinNear k j → filler_of j ≡ Some l → LineNear k l
some-filler-near {k} near is = subst (FillerNear k) is (filler-near near)
