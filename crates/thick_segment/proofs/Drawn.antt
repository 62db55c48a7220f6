-- The lines of a segment that are drawn: six at most, each as near as the joins' corners, and none above or below them. Assumes nothing.
use mathlib.Core.Path.{◌≡◌, refl}
use mathlib.Core.Logic.{◌⊎◌, ⊎_elim}
use mathlib.Core.Bool.{Bool, true, false}
use mathlib.Core.List.{List, [], ◌∷◌, ◌++◌}
use Prim.Native.Nat.{ℕ, ◌≤◌}
use native.Mathlib.Omega.{arith}
use lib.Dec.{lit≤}
use lib.IntN.{ℤ}
use lib.ListN.{length, length-append}
use lib.Signed.{◌≤ℤ◌, ◌<ℤ◌}
use Rattle.whole.specs.Number.{lesser, greater}
use Rattle.whole.proofs.Laws.{lesser-le, le-greater, lesser-one, greater-one}
use Rattle.whole.proofs.Linear.{linear}
use Rattle.whole.proofs.Middle.{mid-low, mid-high, mid-within}
use Rattle.whole.proofs.Orders.{ordered}
use Rattle.whole.proofs.Tests.{else-false}
use Rattle.shapes.specs.declared.Point.{Point}
use Rattle.shapes.specs.declared.Line.{Line}
use Rattle.shapes.specs.declared.Side.{Side}
use Rattle.shapes.specs.declared.Side.TheVariants.{Left, Right}
use Rattle.shapes.specs.declared.Span.{Span}
use Rattle.shapes.specs.Shape.{line_of, Near, plus, minus, delta, midpoint}
use Rattle.shapes.proofs.Laws.{line-of-near}
use Rattle.scanline.specs.Spans.{new_span}
use Rattle.scanline.specs.Meeting.{met}
use Rattle.scanline.specs.Rows.{has_row}
use Rattle.scanline.proofs.Rows.{row-exactly}
use Rattle.scanline.proofs.Laws.{met-off}
use Rattle.line_join.specs.declared.Kind.{Kind}
use Rattle.line_join.specs.declared.Kind.TheVariants.{Miter, Bevel, Degenerate, Colinear, Start, End}
use Rattle.line_join.specs.Sides.{Corners}
use Rattle.line_join.specs.declared.Join.{Join}
use Rattle.std.specs.Prelude.{Some}
use Rattle.line_join.specs.declared.Caps.{Caps}
use Rattle.line_join.specs.declared.Caps.TheVariants.{One, Two}
use Rattle.line_join.specs.Join.{outer}
use Rattle.line_join.specs.Caps.{JoinNear, between, filler_by, capped_by, filler_of, cap_of, start_caps_of, end_caps_of}
use Rattle.thick_segment.proofs.Scanned.{Each, none, more}
use Rattle.thick_segment.specs.declared.Segment.{Segment}
use Rattle.thick_segment.specs.declared.Rows.{Rows}
use Rattle.thick_segment.specs.Rows.{rows_from}
use Rattle.thick_segment.specs.Words.{HasRow}
use Rattle.thick_segment.specs.Segments.{SegmentNear, top_of, bottom_of, is_skeleton, cap_lines, edges_of, drawn, met_all, span_on}

pub caps-most : (k : Caps) → length (cap_lines k) ≤ 2
caps-most (One l) = lit≤ tt
caps-most (Two l m) = lit≤ tt

drawn-by : (s : Segment) (t : Bool) → is_skeleton s ≡ t → length (drawn s) ≤ 6
unfolding drawn
drawn-by s true e = rw e (lit≤ tt)
drawn-by s false e = rw (e, length-append, length-append) (omega (arith, caps-most (start_caps_of s.start), caps-most (end_caps_of s.end)))

pub drawn-most : (s : Segment) → length (drawn s) ≤ 6
drawn-most s = drawn-by s (is_skeleton s) refl

-- ---- what holds of all corners, and of the middle of two points where it holds of both, holds of the ends of each drawn line

module _ (P : Point → Type 0) where
  pub record CornersHave (c : Corners) : Type 0 where
    pub left : P c.left
    pub right : P c.right

  pub record JoinHas (j : Join) : Type 0 where
    pub ending : CornersHave j.ending
    pub starting : CornersHave j.starting

  pub data Ends : List Line → Type 0 where
    no_lines : Ends []
    and-line : {l : Line} {ls : List Line} → P l.start → P l.end → Ends ls → Ends (l ∷ ls)

  ends-append : {xs ys : List Line} → Ends xs → Ends ys → Ends (xs ++ ys)
  ends-append no_lines f = f
  ends-append (and-line p q e) f = and-line p q (ends-append e f)

  outer-has : (s : Side) {c : Corners} → CornersHave c → P (outer s c)
  outer-has Left h = h.left
  outer-has Right h = h.right

  module _ (middle : (l : Line) → P l.start → P l.end → P (midpoint l)) where
    one-cap : {c : Corners} → CornersHave c → Ends (line_of c.left c.right ∷ [])
    one-cap h = and-line h.left h.right no_lines

    two-caps : (s : Side) (j : Join) {c : Corners} → JoinHas j → CornersHave c → Ends (cap_lines (capped_by (Some (between s j.ending j.starting)) c))
    two-caps s j g h =
        let m = middle (between s j.ending j.starting) (outer-has s g.ending) (outer-has s g.starting) in
        and-line h.left m (and-line m h.right no_lines)

    caps-by : (k : Kind) (j : Join) {c : Corners} → JoinHas j → CornersHave c → Ends (cap_lines (capped_by (filler_by k j.ending j.starting) c))
    caps-by Miter j g h = one-cap h
    caps-by (Bevel s) j g h = two-caps s j g h
    caps-by (Degenerate s) j g h = two-caps s j g h
    caps-by Colinear j g h = one-cap h
    caps-by Start j g h = one-cap h
    caps-by End j g h = one-cap h

    caps-have : (j : Join) {c : Corners} → JoinHas j → CornersHave c → Ends (cap_lines (cap_of j c))
    unfolding cap_of filler_of
    caps-have j g h = caps-by j.kind j g h

    drawn-have : (s : Segment) (t : Bool) → is_skeleton s ≡ t → JoinHas s.start → JoinHas s.end → Ends (drawn s)
    unfolding drawn edges_of start_caps_of end_caps_of
    drawn-have s true e a b = rw e (and-line a.starting.right b.ending.right no_lines)
    drawn-have s false e a b =
        rw e (ends-append (caps-have s.start a a.starting) (ends-append (caps-have s.end b b.ending) (and-line a.starting.right b.ending.right (and-line b.ending.left a.starting.left no_lines))))

-- ---- each is as near as the corners

mid-near : {k : ℕ} (l : Line) → Near k l.start → Near k l.end → Near k (midpoint l)
unfolding midpoint plus delta minus
mid-near l p q = record { x_near = mid-within p.x_near q.x_near; y_near = mid-within p.y_near q.y_near }

near-has : {k : ℕ} {j : Join} → JoinNear k j → JoinHas (Near k) j
near-has h = record { ending = record { left = h.ending_near.left_near; right = h.ending_near.right_near }; starting = record { left = h.starting_near.left_near; right = h.starting_near.right_near } }

ends-near : {k : ℕ} {ls : List Line} → Ends (Near k) ls → Each k ls
ends-near no_lines = none
ends-near (and-line p q e) = more (line-of-near p q) (ends-near e)

pub drawn-near : {k : ℕ} (s : Segment) → SegmentNear k s → Each k (drawn s)
drawn-near s h = ends-near (drawn-have (Near _) mid-near s (is_skeleton s) refl (near-has h.start_near) (near-has h.end_near))

-- ---- and lies between the first and the last row of the corners

-- a point is on one of the rows
abbrev pub On : Rows → Point → Type 0
On r p = HasRow r p.y

mid-on : {r : Rows} (l : Line) → On r l.start → On r l.end → On r (midpoint l)
unfolding midpoint plus delta minus
mid-on l p q = record { from = mid-low p.from q.from; to = mid-high p.to q.to }

pub drawn-on : {r : Rows} (s : Segment) → JoinHas (On r) s.start → JoinHas (On r) s.end → Ends (On r) (drawn s)
drawn-on {r} s a b = drawn-have (On r) mid-on s (is_skeleton s) refl a b

rows-have : (j : Join) {first last : ℤ} → first ≤ℤ top_of j → bottom_of j ≤ℤ last → JoinHas (On (rows_from first last)) j
unfolding top_of bottom_of
rows-have j {first} {last} p q =
    let a = j.ending in
    let b = j.starting in
    let l = lesser-le (lesser a.left.y a.right.y) (lesser b.left.y b.right.y) in
    let la = lesser-le a.left.y a.right.y in
    let lb = lesser-le b.left.y b.right.y in
    let g = le-greater (greater a.left.y a.right.y) (greater b.left.y b.right.y) in
    let ga = le-greater a.left.y a.right.y in
    let gb = le-greater b.left.y b.right.y in
    record {
      ending = record { left = record { from = omega linear; to = omega linear }; right = record { from = omega linear; to = omega linear } };
      starting = record { left = record { from = omega linear; to = omega linear }; right = record { from = omega linear; to = omega linear } };
    }

-- a row above or below the rows of both ends is not met
beside : (t : Span) (l : Line) {r : Rows} → On r l.start → On r l.end → (t.row <ℤ r.first) ⊎ (r.last <ℤ t.row) → met t l ≡ t
beside t l p q out =
    met-off t l (else-false (has_row l t.row) (λ e.
    let on = (row-exactly l t.row).0 e in
    ⊎_elim (λ above. ⊎_elim (λ is. omega (ordered, on.low)) (λ is. omega (ordered, on.low)) (lesser-one l.start.y l.end.y))
    (λ below. ⊎_elim (λ is. omega (ordered, on.high)) (λ is. omega (ordered, on.high)) (greater-one l.start.y l.end.y)) out))

all-beside : (t : Span) {r : Rows} {ls : List Line} → Ends (On r) ls → (t.row <ℤ r.first) ⊎ (r.last <ℤ t.row) → met_all t ls ≡ t
unfolding met_all
all-beside t no_lines out = refl
all-beside t {ls = l ∷ ls} (and-line p q e) out = rw (beside t l p q out) (all-beside t e out)

-- so a segment has no column on a row above or below all its corners
pub span-beside : (s : Segment) (row : ℤ) → (row <ℤ lesser (top_of s.start) (top_of s.end)) ⊎ (greater (bottom_of s.start) (bottom_of s.end) <ℤ row) → span_on s row ≡ new_span row
unfolding span_on
span-beside s row out =
    let l = lesser-le (top_of s.start) (top_of s.end) in
    let g = le-greater (bottom_of s.start) (bottom_of s.end) in
    all-beside (new_span row) (drawn-on s (rows-have s.start l.0 g.0) (rows-have s.end l.1 g.1)) out
