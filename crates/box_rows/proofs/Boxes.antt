-- Where the edges of every skeleton lie on one line, the rows of a route are those of its segments' boxes. Assumes nothing.
use mathlib.Core.Path.{◌≡◌, refl, sym, ap, ◌∙◌}
use mathlib.Core.Logic.{⊎_elim}
use mathlib.Core.Bool.{Bool, true, false}
use mathlib.Core.List.{List}
use Prim.Native.Nat.{ℕ, zero, suc, ◌≤◌, ◌<◌}
use native.Mathlib.Numerals.{add-one}
use native.Mathlib.Omega.{arith}
use lib.IntN.{ℤ}
use lib.Signed.{◌≤ℤ◌}
use Rattle.whole.specs.Places.{list_from}
use Rattle.whole.specs.Number.{lesser, greater}
use Rattle.whole.proofs.Columns.{greater-le}
use Rattle.whole.proofs.Laws.{lesser-le, le-lesser, le-greater}
use Rattle.whole.proofs.Linear.{linear, le-or-lt}
use Rattle.shapes.specs.declared.limits.Limits.{Limits}
use Rattle.shapes.specs.declared.Line.{Line}
use Rattle.line_join.specs.Join.{start_of, end_of}
use Rattle.thick_segment.specs.declared.Segment.{Segment}
use Rattle.thick_segment.specs.declared.Rows.{Rows}
use Rattle.thick_segment.specs.Segments.{SegmentNear, is_skeleton, edges_of, least, most, box_of, union, bounding_box}
use Rattle.thick_segment.specs.Rows.{line_rows, box_rows, around, drawn_rows}
use Rattle.thick_segment.specs.Words.{Holds}
use Rattle.thick_segment.specs.Answers.{box_answer}
use Rattle.thick_segment.proofs.Answers.{box-chosen}
use Rattle.thick_segment.proofs.Drawn.{CornersHave, JoinHas, On}
use Rattle.thick_segment.proofs.Lit.{around-first, around-second, holds_on, holds_row, skeleton-rows, rows-among, box-among}
use Rattle.coordinates.specs.Points.{point_count, place_before, segments_of}
use Rattle.coordinates.proofs.Places.{before-inside, before-after}
use Rattle.route_joins.specs.Joins.{join_at, join_count, join_on, end_place, segment_at, segment_of, segment_count}
use Rattle.route_joins.proofs.Near.{place_inside, joins-exactly, several-by}
use Rattle.route_joins.proofs.Open.{first-join, last-join}
use Rattle.route.specs.Joined.{joins_of}
use Rattle.route.specs.Rows.{RowRange, no_rows, ends, with_all}
use Rattle.route.specs.Answers.{draw_refusal, rows_answer}
use Rattle.route.proofs.Bounds.{Bounds, bounds, bounds-least}
use Rattle.route.proofs.AllRows.{all-refusal, all-bend, rows-bounds, rows-none-of, rows-refusal}
use Rattle.route.proofs.Bends.{rows-bend}
use Rattle.route.proofs.Kept.{segment-near, segments-all, segment-is, kept-joins}
use Rattle.route.proofs.Refused.{draw-none}
use Rattle.box_rows.specs.Words.{boxed, box_range, OneLine, OneLined}

-- ---- a segment

-- the same ends in the other order have the same rows
turned : (a b : ℤ) → (lesser a b ≤ℤ lesser b a) × (greater b a ≤ℤ greater a b)
turned a b =
    let l = lesser-le a b in
    let g = le-greater a b in
    (le-lesser (lesser a b) b a l.1 l.0, greater-le b a (greater a b) g.1 g.0)

-- the rows of a line have its ends
start-on : (l : Line) → On (line_rows l) l.start
start-on l = record { from = (lesser-le l.start.y l.end.y).0; to = (le-greater l.start.y l.end.y).0 }

end_on : (l : Line) → On (line_rows l) l.end
end_on l = record { from = (lesser-le l.start.y l.end.y).1; to = (le-greater l.start.y l.end.y).1 }

module _ (s : Segment) (lined : is_skeleton s ≡ true → OneLine s) where
  abbrev box : Rows
  box = box_rows (bounding_box s)

  abbrev right : Rows
  right = line_rows (edges_of s).right

  abbrev left : Rows
  left = line_rows (edges_of s).left

  -- of a skeleton the two edges have the same rows
  same_edges : OneLine s → Holds left right × Holds right left
  unfolding edges_of
  same_edges o =
      let a = s.start.starting.right.y in
      let b = s.end.ending.right.y in
      rw (o.starts, o.ends)
      (record { from = (turned b a).0; to = (turned b a).1 }, record { from = (turned a b).0; to = (turned a b).1 })

  -- a box has the rows of both edges, and the drawn lines have those of the box
  boxed-by : (t : Bool) → is_skeleton s ≡ t → (Holds box right × Holds box left) × Holds (drawn_rows s) box
  unfolding bounding_box union box_of least most around
  boxed-by true e =
      let o = same_edges (lined e) in
      let own : Holds left left = record { from = omega linear; to = omega linear } in
      rw (skeleton-rows s e, e) ((o.0, own), o.1)
  boxed-by false e = (rw e (around-first right left, around-second right left), box-among s e)

  box-drawn : Holds (drawn_rows s) box
  box-drawn = (boxed-by (is_skeleton s) refl).1

  -- rows that hold the box have the corners between which the edges run
  module _ {r : Rows} (h : Holds r box) where
    right-in : Holds r right
    right-in = holds_on h (boxed-by (is_skeleton s) refl).0.0

    left_in : Holds r left
    left_in = holds_on h (boxed-by (is_skeleton s) refl).0.1

    starts-in : CornersHave (On r) s.start.starting
    unfolding edges_of
    starts-in = record { left = holds_row left_in (end_on (edges_of s).left); right = holds_row right-in (start-on (edges_of s).right) }

    ends-in : CornersHave (On r) s.end.ending
    unfolding edges_of
    ends-in = record { left = holds_row left_in (start-on (edges_of s).left); right = holds_row right-in (end_on (edges_of s).right) }

-- ---- a route: rows that hold all boxes have all corners of all joins, and so they hold all drawn lines

module _ (closed : Bool) (cs : List ℤ) (w : ℤ) (lined : OneLined closed cs w) {r : Rows} (all : (i : ℕ) → i < segment_count closed cs → Holds r (boxed closed cs w i)) where
  start-in : (i : ℕ) → i < segment_count closed cs → CornersHave (On r) (join_at closed cs w i).starting
  unfolding segment_of
  start-in i h = starts-in (segment_at closed cs w i) (lined.each i h) (all i h)

  end-in : (i : ℕ) → i < segment_count closed cs → CornersHave (On r) (join_at closed cs w (end_place closed (point_count cs) i)).ending
  unfolding segment_of
  end-in i h = ends-in (segment_at closed cs w i) (lined.each i h) (all i h)

-- of the joins at which an open route starts and ends the two pairs of corners are one
start-join : (cs : List ℤ) (w : ℤ) → (join_at false cs w 0).ending ≡ (join_at false cs w 0).starting
unfolding join_on start_of
start-join cs w = rw (first-join cs w)

end-join : (cs : List ℤ) (w : ℤ) (k : ℕ) → suc (suc k) ≡ point_count cs → (join_at false cs w (suc k)).starting ≡ (join_at false cs w (suc k)).ending
unfolding join_on end_of
end-join cs w k e = rw (last-join cs w k e)

joins-by : (closed : Bool) (cs : List ℤ) (w : ℤ) {r : Rows} → 2 ≤ point_count cs
    → ((i : ℕ) → i < segment_count closed cs → CornersHave (On r) (join_at closed cs w i).starting)
    → ((i : ℕ) → i < segment_count closed cs → CornersHave (On r) (join_at closed cs w (end_place closed (point_count cs) i)).ending)
    → (i : ℕ) → i < point_count cs → JoinHas (On r) (join_at closed cs w i)
unfolding segment_count segments_of end_place
joins-by true cs w several starts ends i h =
    record { ending = rw (before-after h) at (ends (place_before (point_count cs) i) (before-inside h)); starting = starts i h }
joins-by false cs w several starts ends zero h = let first = starts 0 (omega arith) in record { ending = rw (start-join cs w) first; starting = first }
joins-by false cs w several starts ends (suc k) h =
    let last = rw (add-one k) at (ends k (omega arith)) in
    record {
      ending = last;
      starting = ⊎_elim (λ more. starts (suc k) (omega arith)) (λ none. rw (end-join cs w k (omega arith)) last) (le-or-lt (suc (suc (suc k))) (point_count cs));
    }

module _ (closed : Bool) (cs : List ℤ) (w : ℤ) (several : 2 ≤ point_count cs) (lined : OneLined closed cs w) where
  drawn-in : {r : Rows} → ((i : ℕ) → i < segment_count closed cs → Holds r (boxed closed cs w i)) → (i : ℕ) → i < segment_count closed cs → Holds r (drawn_rows (segment_at closed cs w i))
  unfolding segment_count segment_of
  drawn-in all i h =
      let has = joins-by closed cs w several (start-in closed cs w lined all) (end-in closed cs w lined all) in
      let p = place_inside closed h in
      rows-among (segment_at closed cs w i) (has i p.0) (has (end_place closed (point_count cs) i) p.1)

-- ---- 01's old rows are the least that hold all boxes

pub box-bounds : (closed : Bool) (cs : List ℤ) (w : ℤ) → 0 < segment_count closed cs → Bounds (boxed closed cs w) (segment_count closed cs) (box_range closed cs w)
unfolding box_range
box-bounds closed cs w h = bounds (boxed closed cs w) (segment_count closed cs) h

-- the boxes are those that `edges_bounding_box` answers

module _ (limits : Limits) (closed : Bool) (cs : List ℤ) (w : ℤ) (free : draw_refusal limits closed cs w ≡ 0) {i : ℕ} (h : i < segment_count closed cs) where
  segment-corners : SegmentNear limits.corner (segment_at closed cs w i)
  unfolding joins_of
  segment-corners =
      let a = (draw-none limits closed cs w).0 free in
      let kept = kept-joins limits.corner closed cs w a.0.few ((joins-exactly limits.corner closed cs w).1 a.1) in
      let inside : i < segments_of closed (join_count cs) = rw (segments-all a.0) h in
      rw (segment-is limits.corner closed cs w inside) at (segment-near kept inside)

  pub box-asked : box_rows (box_answer limits.corner (segment_at closed cs w i)).rectangle ≡ boxed closed cs w i
  box-asked = rw ((box-chosen limits.corner (segment_at closed cs w i)).holds segment-corners)

-- ---- so the rows of the drawn lines are those of the boxes

same-range : {a b : RowRange} → a.refusal ≡ b.refusal → a.bend ≡ b.bend → a.some ≡ b.some → Holds (ends a) (ends b) → Holds (ends b) (ends a) → a ≡ b
same-range {a} {b} n bend some p q =
    let first : a.first ≡ b.first = omega (linear, p.from, q.from) in
    let last : a.last ≡ b.last = omega (linear, p.to, q.to) in
    rw (n, bend, some, first, last)

module _ (limits : Limits) (closed : Bool) (cs : List ℤ) (w : ℤ) (free : draw_refusal limits closed cs w ≡ 0) (lined : OneLined closed cs w) where
  abbrev rows : RowRange
  rows = rows_answer limits closed cs w

  abbrev old : RowRange
  old = box_range closed cs w

  some-rows : 0 < segment_count closed cs → rows ≡ old
  unfolding box_range segment_count
  some-rows h =
      let b = rows-bounds limits closed cs w free h in
      let o = box-bounds closed cs w h in
      let several = several-by (point_count cs) closed ((draw-none limits closed cs w).0 free).0.several h in
      let all = list_from (boxed closed cs w) 0 (segment_count closed cs) in
      let accepted = rows-refusal limits closed cs w ∙ free in
      let unnamed = (rows-bend limits closed cs w).other (λ five. omega (arith, accepted, five)) in
      same-range (accepted ∙ sym (all-refusal (no_rows 0 0) all refl)) (unnamed ∙ sym (all-bend (no_rows 0 0) all refl)) (b.some ∙ sym o.some)
      (bounds-least (boxed closed cs w) o (λ i g. holds_on (b.holds i g) (box-drawn (segment_at closed cs w i) (lined.each i g))))
      (bounds-least (λ i. drawn_rows (segment_at closed cs w i)) b (drawn-in closed cs w several lined o.holds))

  no-rows : segment_count closed cs ≡ 0 → rows ≡ old
  unfolding box_range with_all list_from
  no-rows none = rows-none-of limits closed cs w free none ∙ sym (ap (λ m. with_all (no_rows 0 0) (list_from (boxed closed cs w) 0 m)) none)

  -- where the edges of every skeleton lie on one line, the rows are those that 01 had before
  pub rows-boxes : rows ≡ old
  rows-boxes = ⊎_elim (λ some. some-rows some) (λ none. no-rows (omega arith)) (le-or-lt 1 (segment_count closed cs))
