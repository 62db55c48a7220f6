-- What 01 says of segments in words. Assumes nothing.
use mathlib.Core.Path.{◌≡◌, refl, sym, ap, ◌∙◌}
use mathlib.Core.Logic.{◌↔◌}
use mathlib.Core.Bool.{Bool, true, false}
use mathlib.Core.List.Memᴰ
use mathlib.Core.List.{List, [], ◌∷◌, ◌++◌, Memᴰ}
use Prim.Native.Nat.{ℕ}
use lib.IntN.{ℤ, pos, ◌-ℤ◌}
use Rattle.whole.proofs.Tests.{clash}
use Rattle.whole.proofs.Spans.{within-lesser, within-greater}
use Rattle.shapes.specs.declared.Point.{Point}
use Rattle.shapes.specs.declared.Line.{Line}
use Rattle.shapes.specs.declared.Span.{Span}
use Rattle.shapes.specs.Shape.{point_of, Near, LineNear}
use Rattle.scanline.specs.Spans.{new_span}
use Rattle.shapes.specs.Spans.{is_empty, SpanSound}
use Rattle.bresenham.specs.Points.{line_points}
use Rattle.scanline.specs.Meeting.{seen_all, seen, met}
use Rattle.scanline.specs.Words.{met_at, End, kept, came, Least}
use Rattle.shapes.proofs.Columns.{covers-some}
use Rattle.scanline.proofs.Folds.{seen-least, seen_none}
use Rattle.scanline.proofs.Laws.{met-sound}
use Rattle.shapes.proofs.Laws.{same-exactly}
use Rattle.thick_segment.proofs.Drawn.{drawn-near}
use Rattle.thick_segment.proofs.Scanned.{Each, none, more}
use Rattle.thick_segment.specs.declared.Segment.{Segment}
use Rattle.thick_segment.specs.declared.Rectangle.{Rectangle}
use Rattle.thick_segment.specs.Segments.{SegmentNear, is_skeleton, edges_of, least, most, box_of, union, bounding_box, drawn, met_all, span_on}
use Rattle.thick_segment.specs.Words.{points_of, drawn_points, RectangleNear}

-- ---- a skeleton: the left and the right of the start join's first_edge_end are equal

pub skeleton-exactly : (s : Segment) → (is_skeleton s ≡ true) ↔ (s.start.ending.left ≡ s.start.ending.right)
unfolding is_skeleton
skeleton-exactly s = same-exactly s.start.ending.left s.start.ending.right

-- ---- the span is that of all drawn points

seen-append : (t : Span) (ps qs : List Point) → seen_all t (ps ++ qs) ≡ seen_all (seen_all t ps) qs
unfolding seen_all
seen-append t [] qs = refl
seen-append t (p ∷ ps) qs = seen-append (seen t p) ps qs

all_seen : (t : Span) (ls : List Line) → met_all t ls ≡ seen_all t (points_of ls)
unfolding met_all met seen_all points_of
all_seen t [] = refl
all_seen t (l ∷ ls) = all_seen (met t l) ls ∙ sym (seen-append t (line_points l) (points_of ls))

span-seen : (s : Segment) (row : ℤ) → span_on s row ≡ seen_all (new_span row) (drawn_points s)
unfolding span_on drawn_points
span-seen s row = all_seen (new_span row) (drawn s)

-- the least span that holds the columns of the drawn points on the row
pub span-least : (s : Segment) (row : ℤ) → Least (new_span row) (drawn_points s) (span_on s row)
span-least s row = rw (span-seen s row) (seen-least (new_span row) (drawn_points s))

-- empty exactly when no drawn line has a point on the row
pub span-empty : (s : Segment) (row : ℤ) → (is_empty (span_on s row) ≡ true) ↔ ((q : Point) → Memᴰ q (drawn_points s) → q.y ≡ row → ⊥)
unfolding is_empty
span-empty s row = (
  λ empty q m on. clash empty (covers-some (span_on s row) q.x ((span-least s row).holds q.x (met_at q m on refl))),
  λ off. ap is_empty (span-seen s row ∙ seen_none (new_span row) (drawn_points s) off),
)

-- its ends are columns of drawn points
end-drawn : {row e c : ℤ} {ps : List Point} → End (new_span row) e ps c → Memᴰ (point_of c row) ps
unfolding is_empty
end-drawn (kept some is) = absurd (clash refl some)
end-drawn (came q m on at) = Memᴰ.cast (rw (← at, ← on)) m

pub span-ends : (s : Segment) (row : ℤ) → is_empty (span_on s row) ≡ false → Memᴰ (point_of (span_on s row).start row) (drawn_points s) × Memᴰ (point_of ((span_on s row).end -ℤ pos 1) row) (drawn_points s)
span-ends s row some = (end-drawn ((span-least s row).first some), end-drawn ((span-least s row).final some))

-- ---- columns and rows are as near as the joins' corners

all_sound : {k : ℕ} (t : Span) (ls : List Line) → Each k ls → SpanSound k t → SpanSound k (met_all t ls)
unfolding met_all
all_sound t [] none h = h
all_sound t (l ∷ ls) (more near e) h = all_sound (met t l) ls e (met-sound t l near h)

new-sound : {k : ℕ} (row : ℤ) → SpanSound k (new_span row)
unfolding is_empty
new-sound row c h = absurd (clash refl (covers-some (new_span row) c h))

pub span-sound : {k : ℕ} (s : Segment) (row : ℤ) → SegmentNear k s → SpanSound k (span_on s row)
unfolding span_on
span-sound s row h = all_sound (new_span row) (drawn s) (drawn-near s h) (new-sound row)

least-near : {k : ℕ} {a b : Point} → Near k a → Near k b → Near k (least a b)
unfolding least
least-near p q = record { x_near = within-lesser p.x_near q.x_near; y_near = within-lesser p.y_near q.y_near }

most-near : {k : ℕ} {a b : Point} → Near k a → Near k b → Near k (most a b)
unfolding most
most-near p q = record { x_near = within-greater p.x_near q.x_near; y_near = within-greater p.y_near q.y_near }

line-box : {k : ℕ} {l : Line} → LineNear k l → RectangleNear k (box_of l)
unfolding box_of
line-box h = record { first_near = least-near h.start_near h.end_near; last_near = most-near h.start_near h.end_near }

union-box : {k : ℕ} {a b : Rectangle} → RectangleNear k a → RectangleNear k b → RectangleNear k (union a b)
unfolding union
union-box p q = record { first_near = least-near p.first_near q.first_near; last_near = most-near p.last_near q.last_near }

box-by : {k : ℕ} (s : Segment) (t : Bool) → is_skeleton s ≡ t → RectangleNear k (box_of (edges_of s).right) → RectangleNear k (box_of (edges_of s).left) → RectangleNear k (bounding_box s)
unfolding bounding_box
box-by s true e p q = rw e q
box-by s false e p q = rw e (union-box p q)

pub box-near : {k : ℕ} (s : Segment) → SegmentNear k s → RectangleNear k (bounding_box s)
unfolding edges_of
box-near {k} s h =
    let a = h.start_near.starting_near in
    let b = h.end_near.ending_near in
    box-by s (is_skeleton s) refl
    (line-box {l = (edges_of s).right} (record { start_near = a.right_near; end_near = b.right_near }))
    (line-box {l = (edges_of s).left} (record { start_near = b.left_near; end_near = a.left_near }))
