-- The rows of the lines that are drawn: every drawn point is on one of them, and the first and the last each have one. Assumes nothing.
use mathlib.Core.Path.{◌≡◌, refl, ap, ◌∙◌}
use mathlib.Core.Logic.{◌⊎◌, ⊎_elim}
use mathlib.Core.Bool.{Bool, true, false}
use mathlib.Core.List.Memᴰ
use mathlib.Core.List.{List, [], ◌∷◌, ◌++◌, Memᴰ}
use Prim.Native.Nat.{ℕ}
use lib.IntN.{ℤ}
use lib.Signed.{◌≤ℤ◌}
use Rattle.whole.specs.Number.{lesser, greater}
use Rattle.whole.proofs.Laws.{lesser-le, le-lesser, le-greater, lesser-one, greater-one, lesser-first, greater-first}
use Rattle.whole.proofs.Columns.{greater-le}
use Rattle.whole.proofs.Linear.{linear}
use Rattle.whole.proofs.Spans.{within-lesser, within-greater}
use Rattle.whole.proofs.Tests.{else-false}
use Rattle.shapes.specs.declared.Point.{Point}
use Rattle.shapes.specs.declared.Line.{Line}
use Rattle.shapes.specs.Shape.{point_of}
use Rattle.shapes.specs.Spans.{is_empty}
use Rattle.bresenham.specs.Paces.{Between}
use Rattle.bresenham.specs.Points.{line_points}
use Rattle.bresenham.proofs.Lines.{line-rows}
use Rattle.scanline.specs.Rows.{first_on}
use Rattle.scanline.proofs.Rows.{first-at, on-column}
use Rattle.line_join.specs.Caps.{start_caps_of, end_caps_of}
use Rattle.thick_segment.specs.declared.Segment.{Segment}
use Rattle.thick_segment.specs.declared.Rows.{Rows}
use Rattle.thick_segment.specs.Segments.{SegmentNear, is_skeleton, cap_lines, edges_of, least, most, box_of, union, bounding_box, drawn, span_on}
use Rattle.thick_segment.specs.Rows.{line_rows, box_rows, around, with_lines, drawn_rows}
use Rattle.thick_segment.specs.Words.{points_of, drawn_points, HasRow, Holds, Lit, LitEnds, EndsNear}
use Rattle.thick_segment.proofs.Drawn.{JoinHas, Ends, no_lines, and-line, On, drawn-near, drawn-on}
use Rattle.thick_segment.proofs.Laws.{span-empty}
use Rattle.thick_segment.proofs.Scanned.{Each, none, more}

-- ---- rows around two

pub around-first : (a b : Rows) → Holds (around a b) a
unfolding around
around-first a b = record { from = (lesser-le a.first b.first).0; to = (le-greater a.last b.last).0 }

pub around-second : (a b : Rows) → Holds (around a b) b
unfolding around
around-second a b = record { from = (lesser-le a.first b.first).1; to = (le-greater a.last b.last).1 }

pub holds_on : {a b c : Rows} → Holds a b → Holds b c → Holds a c
holds_on p q = record { from = omega (linear, p.from, q.from); to = omega (linear, p.to, q.to) }

pub holds_row : {a b : Rows} {y : ℤ} → Holds a b → HasRow b y → HasRow a y
holds_row p h = record { from = omega (linear, p.from, h.from); to = omega (linear, p.to, h.to) }

-- rows that are held add nothing
held : {a b : Rows} → Holds a b → around a b ≡ a
unfolding around
held {a} {b} h = rw (lesser-first h.from, greater-first h.to)

-- ---- with those of lines

with-holds : (r : Rows) (ls : List Line) → Holds (with_lines r ls) r
unfolding with_lines
with-holds r [] = record { from = omega linear; to = omega linear }
with-holds r (l ∷ ls) = holds_on (with-holds (around r (line_rows l)) ls) (around-first r (line_rows l))

with_append : (r : Rows) (ls ms : List Line) → with_lines r (ls ++ ms) ≡ with_lines (with_lines r ls) ms
unfolding with_lines
with_append r [] ms = refl
with_append r (l ∷ ls) ms = with_append (around r (line_rows l)) ls ms

-- of a segment: those of a skeleton's right edge; else those of both edges and of the lines that close its ends
pub skeleton-rows : (s : Segment) → is_skeleton s ≡ true → drawn_rows s ≡ line_rows (edges_of s).right
unfolding drawn_rows drawn with_lines
skeleton-rows s e = rw e (held (record { from = omega linear; to = omega linear }))

pub perimeter-rows : (s : Segment) → is_skeleton s ≡ false
    → drawn_rows s ≡ around (with_lines (with_lines (line_rows (edges_of s).right) (cap_lines (start_caps_of s.start))) (cap_lines (end_caps_of s.end))) (line_rows (edges_of s).left)
unfolding drawn_rows drawn with_lines
perimeter-rows s e =
    let right = line_rows (edges_of s).right in
    let start = cap_lines (start_caps_of s.start) in
    let end = cap_lines (end_caps_of s.end) in
    let edges = (edges_of s).right ∷ (edges_of s).left ∷ [] in
    rw e
    (with_append right start (end ++ edges) ∙ with_append (with_lines right start) end edges
    ∙ ap (λ r. around r (line_rows (edges_of s).left)) (held (holds_on (with-holds (with_lines right start) end) (with-holds right start))))

-- rows that hold two hold those around them
around-among : {r a b : Rows} → Holds r a → Holds r b → Holds r (around a b)
unfolding around
around-among p q = record { from = le-lesser _ _ _ p.from q.from; to = greater-le _ _ _ p.to q.to }

line-among : {r : Rows} (l : Line) → On r l.start → On r l.end → Holds r (line_rows l)
line-among l p q = record { from = le-lesser _ _ _ p.from q.from; to = greater-le _ _ _ p.to q.to }

with-among : {r : Rows} (a : Rows) {ls : List Line} → Holds r a → Ends (On r) ls → Holds r (with_lines a ls)
unfolding with_lines
with-among a h no_lines = h
with-among a {ls = l ∷ ls} h (and-line p q e) = with-among (around a (line_rows l)) (around-among h (line-among l p q)) e

-- so rows that have all corners of a segment's joins hold its rows
pub rows-among : {r : Rows} (s : Segment) → JoinHas (On r) s.start → JoinHas (On r) s.end → Holds r (drawn_rows s)
unfolding drawn_rows edges_of
rows-among s a b = with-among (line_rows (edges_of s).right) (line-among (edges_of s).right a.starting.right b.ending.right) (drawn-on s a b)

-- the rows of its box are among them, unless it is a skeleton
pub box-among : (s : Segment) → is_skeleton s ≡ false → Holds (drawn_rows s) (box_rows (bounding_box s))
unfolding bounding_box union box_of least most around
box-among s e =
    let right = line_rows (edges_of s).right in
    let start = cap_lines (start_caps_of s.start) in
    let end = cap_lines (end_caps_of s.end) in
    let capped = with_lines (with_lines right start) end in
    rw (e, perimeter-rows s e)
    (around-among (holds_on (around-first capped (line_rows (edges_of s).left)) (holds_on (with-holds (with_lines right start) end) (with-holds right start))) (around-second capped (line_rows (edges_of s).left)))

-- every point of the lines is on one of the rows
with_row : (r : Rows) (ls : List Line) {q : Point} → Memᴰ q (points_of ls) → HasRow (with_lines r ls) q.y
unfolding with_lines points_of
with_row r [] {q = q} m = elim m [ ]
with_row r (l ∷ ls) m =
    let wide = around r (line_rows l) in
    ⊎_elim (λ h. let b = line-rows l h in holds_row (holds_on (with-holds wide ls) (around-second r (line_rows l))) (record { from = b.low; to = b.high })) (with_row wide ls)
    (Memᴰ.append_cases (line_points l) m)

-- ---- and the first and the last are rows of points

lit-more : {ps qs : List Point} {y : ℤ} → ((q : Point) → Memᴰ q ps → Memᴰ q qs) → Lit ps y → Lit qs y
lit-more all lit = record { point = lit.point; among = all lit.point lit.among; on_row = lit.on_row }

-- a line has a point on each row between its ends
row-lit : (l : Line) (y : ℤ) → Between l.start.y l.end.y y → Lit (line_points l) y
row-lit l y b = record { point = point_of (first_on l y) y; among = on-column l y b (first-at l y b); on_row = refl }

line-lit : (l : Line) → LitEnds (line_points l) (line_rows l)
line-lit l =
    let a = l.start.y in
    let b = l.end.y in
    let order : lesser a b ≤ℤ greater a b = omega (linear, (lesser-le a b).0, (le-greater a b).0) in
    record { first_lit = row-lit l (lesser a b) (record { low = omega linear; high = order }); last_lit = row-lit l (greater a b) (record { low = order; high = omega linear }) }

-- one of two rows
either-lit : {ps : List Point} {a b y : ℤ} → (y ≡ a) ⊎ (y ≡ b) → Lit ps a → Lit ps b → Lit ps y
either-lit which p q = ⊎_elim (λ e. rw e p) (λ e. rw e q) which

around-lit : {ps : List Point} {a b : Rows} → LitEnds ps a → LitEnds ps b → LitEnds ps (around a b)
unfolding around
around-lit {a = a} {b = b} p q =
    record {
      first_lit = either-lit (lesser-one a.first b.first) p.first_lit q.first_lit;
      last_lit = either-lit (greater-one a.last b.last) p.last_lit q.last_lit;
    }

with-lit : {ps : List Point} (r : Rows) (ls : List Line) → ((q : Point) → Memᴰ q (points_of ls) → Memᴰ q ps) → LitEnds ps r → LitEnds ps (with_lines r ls)
unfolding with_lines points_of
with-lit r [] all lit = lit
with-lit {ps} r (l ∷ ls) all lit =
    let e = line-lit l in
    let here : (q : Point) → Memᴰ q (line_points l) → Memᴰ q ps = λ q m. all q (Memᴰ.append_left (points_of ls) m) in
    with-lit (around r (line_rows l)) ls (λ q m. all q (Memᴰ.append_right (line_points l) m))
    (around-lit lit (record { first_lit = lit-more here e.first_lit; last_lit = lit-more here e.last_lit }))

-- ---- of a segment

points-behind : (ls ms : List Line) {q : Point} → Memᴰ q (points_of ms) → Memᴰ q (points_of (ls ++ ms))
unfolding points_of
points-behind [] ms m = m
points-behind (l ∷ ls) ms m = Memᴰ.append_right (line_points l) (points-behind ls ms m)

-- the right edge is drawn
right-drawn : (s : Segment) (t : Bool) → is_skeleton s ≡ t → (q : Point) → Memᴰ q (line_points (edges_of s).right) → Memᴰ q (drawn_points s)
unfolding drawn_points drawn points_of
right-drawn s true e q m = rw e (Memᴰ.append_left [] m)
right-drawn s false e q m =
    let edges = (edges_of s).right ∷ (edges_of s).left ∷ [] in
    let start = cap_lines (start_caps_of s.start) in
    let end = cap_lines (end_caps_of s.end) in
    rw e (points-behind start (end ++ edges) (points-behind end edges (Memᴰ.append_left _ m)))

module _ (s : Segment) where
  -- every drawn point is on one of its rows
  pub point-row : {q : Point} → Memᴰ q (drawn_points s) → HasRow (drawn_rows s) q.y
  unfolding drawn_rows drawn_points
  point-row m = with_row (line_rows (edges_of s).right) (drawn s) m

  -- and its first and its last row each have one
  pub ends-lit : LitEnds (drawn_points s) (drawn_rows s)
  unfolding drawn_rows drawn_points
  ends-lit =
      let e = line-lit (edges_of s).right in
      let here = right-drawn s (is_skeleton s) refl in
      with-lit (line_rows (edges_of s).right) (drawn s) (λ q m. m) (record { first_lit = lit-more here e.first_lit; last_lit = lit-more here e.last_lit })

  -- so no fewer rows have all drawn points
  pub rows-least : (r : Rows) → ((q : Point) → Memᴰ q (drawn_points s) → HasRow r q.y) → Holds r (drawn_rows s)
  rows-least r all =
      let first = ends-lit.first_lit in
      let last = ends-lit.last_lit in
      record { from = rw first.on_row at (all first.point first.among).from; to = rw last.on_row at (all last.point last.among).to }

  -- a row outside has no column, and one with a drawn point has some
  pub row-dark : (row : ℤ) → (HasRow (drawn_rows s) row → ⊥) → is_empty (span_on s row) ≡ true
  row-dark row off = (span-empty s row).1 (λ q m on. off (rw on at (point-row m)))

  pub row-bright : (row : ℤ) → Lit (drawn_points s) row → is_empty (span_on s row) ≡ false
  row-bright row lit = else-false (is_empty (span_on s row)) (λ none. (span-empty s row).0 none lit.point lit.among lit.on_row)

  pub rows-ordered : (drawn_rows s).first ≤ℤ (drawn_rows s).last
  rows-ordered = let h = point-row ends-lit.first_lit.among in omega (linear, h.from, h.to)

-- ---- as near as the joins' corners

with-near : {k : ℕ} (r : Rows) (ls : List Line) → EndsNear k r → Each k ls → EndsNear k (with_lines r ls)
unfolding with_lines around
with-near r [] near none = near
with-near r (l ∷ ls) near (more line each) =
    with-near (around r (line_rows l)) ls
    (record {
      first_near = within-lesser near.first_near (within-lesser line.start_near.y_near line.end_near.y_near);
      last_near = within-greater near.last_near (within-greater line.start_near.y_near line.end_near.y_near);
    })
    each

pub drawn-rows-near : {k : ℕ} (s : Segment) → SegmentNear k s → EndsNear k (drawn_rows s)
unfolding drawn_rows edges_of
drawn-rows-near s h =
    let a = h.start_near.starting_near.right_near.y_near in
    let b = h.end_near.ending_near.right_near.y_near in
    with-near (line_rows (edges_of s).right) (drawn s) (record { first_near = within-lesser a b; last_near = within-greater a b }) (drawn-near s h)
