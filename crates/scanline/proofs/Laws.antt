-- What 01 says of spans in words. Assumes nothing.
use mathlib.Core.Path.{◌≡◌, refl, sym, ap, ◌∙◌}
use mathlib.Core.Logic.{◌⊎◌, ◌↔◌, inl, inr, ⊎_elim}
use mathlib.Core.Bool.{Bool, true, false, ◌||◌}
use mathlib.Core.List.Memᴰ
use mathlib.Core.List.{List, Memᴰ}
use Prim.Native.Nat.{ℕ}
use lib.IntN.{ℤ, pos, neg_ℤ, ◌+ℤ◌, ◌-ℤ◌}
use lib.Signed.{lt_z, le_z}
use Rattle.whole.specs.Number.{Within}
use Rattle.whole.proofs.Linear.{sum, diff}
use Rattle.whole.proofs.Laws.{lesser-le, le-greater}
use Rattle.whole.proofs.Orders.{ordered}
use Rattle.whole.proofs.Tests.{clash, else-true, else-false, and_left, and_right, or-second}
use Rattle.whole.proofs.Spans.{within_low, within-high, within_of, lesser-other, greater-other}
use Rattle.shapes.specs.declared.Point.{Point}
use Rattle.shapes.specs.declared.Line.{Line}
use Rattle.shapes.specs.declared.Span.{Span}
use Rattle.shapes.specs.Shape.{point_of, LineNear}
use Rattle.shapes.proofs.Columns.{covers-some, covers-first}
use Rattle.shapes.specs.Spans.{span_of, Covers, is_empty, SpanSound}
use Rattle.scanline.specs.Spans.{touches, in_range, printed_touches, join, new_span, try_extended, try_taken}
use Rattle.bresenham.specs.Points.{line_points}
use Rattle.bresenham.proofs.Lines.{line-columns, line-rows}
use Rattle.scanline.specs.Meeting.{met}
use Rattle.scanline.specs.Rows.{has_row}
use Rattle.scanline.specs.Words.{Apart, Column, before, met_at, End, kept, came, Least}
use Rattle.scanline.proofs.Folds.{seen-least, seen_none}
use Rattle.scanline.proofs.Rows.{row-exactly, ends-within, met-contiguous}

-- ---- meeting a line

-- the span after is the least one that holds the span before and the columns of the line's points on its row, and its ends
-- are such columns
pub met-least : (s : Span) (l : Line) → Least s (line_points l) (met s l)
unfolding met
met-least s l = seen-least s (line_points l)

-- those columns are contiguous (`met-contiguous`, in Rows.antt), so an empty span covers afterwards just the columns of the line's points on its row
point-of : {s : Span} {ps : List Point} {e c : ℤ} → is_empty s ≡ true → End s e ps c → Memᴰ (point_of c s.row) ps
point-of none (kept some is) = absurd (clash none some)
point-of none (came q m on at) = Memᴰ.cast (rw (← at, ← on)) m

pub met-covers : (s : Span) (l : Line) (c : ℤ) → is_empty s ≡ true → Covers (met s l) c ↔ Memᴰ (point_of c s.row) (line_points l)
met-covers s l c none =
    let w = met-least s l in
    let r = met s l in (
      λ h.
          let some = covers-some r c h in
          met-contiguous l (point_of r.start s.row) (point_of (r.end -ℤ pos 1) s.row) c (point-of none (w.first some)) (point-of none (w.final some)) refl h.from (omega (ordered, diff r.end (pos 1))),
      λ m. w.holds c (met_at (point_of c s.row) m refl refl),
    )

met-none : (s : Span) (l : Line) → ((q : Point) → Memᴰ q (line_points l) → q.y ≡ s.row → ⊥) → met s l ≡ s
unfolding met
met-none s l off = seen_none s (line_points l) off

-- empty after exactly when empty before and no point is on the row
pub met-empty : (s : Span) (l : Line) → (is_empty (met s l) ≡ true) ↔ ((is_empty s ≡ true) × ((q : Point) → Memᴰ q (line_points l) → q.y ≡ s.row → ⊥))
met-empty s l =
    let w = met-least s l in
    let r = met s l in (
      λ none. (
        else-true (is_empty s) (λ some. clash none (covers-some r s.start (w.holds s.start (before (covers-first s some))))),
        λ q m on. clash none (covers-some r q.x (w.holds q.x (met_at q m on refl))),
      ),
      λ h. ap is_empty (met-none s l h.1) ∙ h.0,
    )

-- a row outside the line's rows
pub met-off : (s : Span) (l : Line) → has_row l s.row ≡ false → met s l ≡ s
met-off s l e = met-none s l (λ q m on. clash ((row-exactly l s.row).1 (rw (← on) (line-rows l m))) e)

-- ---- columns from -k to k

-- the span that has all of them
abbrev box : ℕ → Span
box k = span_of (pos 0) (neg_ℤ (pos k)) (pos k +ℤ pos 1)

box-covers : {k : ℕ} {c : ℤ} → Within c k → Covers (box k) c
box-covers {k} {c} w = omega (ordered, within_low w, within-high w, sum (pos k) (pos 1))

covers-box : {k : ℕ} {c : ℤ} → Covers (box k) c → Within c k
covers-box {k} {c} h = within_of h.from (omega (ordered, sum (pos k) (pos 1)))

-- a line within k keeps the span within k
pub met-sound : {k : ℕ} (s : Span) (l : Line) → LineNear k l → SpanSound k s → SpanSound k (met s l)
met-sound {k} s l near sound = λ c h. covers-box ((met-least s l).least (box k) (λ c h. box-covers (column-within h)) c h)
  where
    column-within : {c : ℤ} → Column s (line_points l) c → Within c k
    column-within {c} (before h) = sound c h
    column-within (met_at q m on at) = rw (← at) (ends-within near.start_near.x_near near.end_near.x_near (line-columns l m))

-- ---- try_extend

-- W6's order: an empty current span takes the other's start and end, whatever they are
pub join-from-empty : (s o : Span) → is_empty s ≡ true → try_extended s o ≡ record { joined = true; span = span_of s.row o.start o.end }
unfolding try_extended
join-from-empty s o e = rw e

-- an empty other changes nothing
pub join-with-empty : (s o : Span) → is_empty s ≡ false → is_empty o ≡ true → try_extended s o ≡ record { joined = true; span = s }
unfolding try_extended
join-with-empty s o e f = rw (e, f)

pub join-touching : (s o : Span) → is_empty s ≡ false → is_empty o ≡ false → touches s o ≡ true → try_extended s o ≡ record { joined = true; span = join s o }
unfolding try_extended
join-touching s o e f g = rw (e, f, g)

pub join_apart : (s o : Span) → is_empty s ≡ false → is_empty o ≡ false → touches s o ≡ false → try_extended s o ≡ record { joined = false; span = s }
unfolding try_extended
join_apart s o e f g = rw (e, f, g)

-- overlapping or adjacent exactly where no dark column lies between
apart_by : (s o : Span) (t u : Bool) → le_z o.start s.end ≡ t → le_z s.start o.end ≡ u → (touches s o ≡ false) ↔ Apart s o
unfolding touches
apart_by s o true true e f = (λ h. absurd (clash (simp (e, f)) h), λ a. absurd (⊎_elim (λ w. omega ordered) (λ w. omega ordered) a))
apart_by s o true false e f = (λ h. inr (omega ordered), λ a. simp (e, f))
apart_by s o false u e f = (λ h. inl (omega ordered), λ a. simp e)

pub touches-exactly : (s o : Span) → (touches s o ≡ false) ↔ Apart s o
touches-exactly s o = apart_by s o (le_z o.start s.end) (le_z s.start o.end) refl refl

-- the printed test is the same
range-no : (a b x : ℤ) → (le_z a x ≡ true → le_z x b ≡ true → ⊥) → in_range a b x ≡ false
range-no a b x h = else-false (in_range a b x) (λ e. h (and_left (le_z a x) (le_z x b) e) (and_right (le_z a x) (le_z x b) e))

no-range : (s o : Span) → is_empty s ≡ false → is_empty o ≡ false → Apart s o → printed_touches s o ≡ false
unfolding printed_touches is_empty
no-range s o a b apart =
    let ds = diff s.start (pos 1) in
    let de = diff s.end (pos 1) in
    let os = diff o.start (pos 1) in
    let oe = diff o.end (pos 1) in
    simp (
      range-no (s.start -ℤ pos 1) s.end o.start (λ p q. ⊎_elim (λ w. omega ordered) (λ w. omega ordered) apart),
      range-no (s.start -ℤ pos 1) s.end (o.end -ℤ pos 1) (λ p q. ⊎_elim (λ w. omega ordered) (λ w. omega ordered) apart),
      range-no (o.start -ℤ pos 1) o.end s.start (λ p q. ⊎_elim (λ w. omega ordered) (λ w. omega ordered) apart),
      range-no (o.start -ℤ pos 1) o.end (s.end -ℤ pos 1) (λ p q. ⊎_elim (λ w. omega ordered) (λ w. omega ordered) apart),
    )

printed-by : (s o : Span) (t u v : Bool) → le_z o.start s.end ≡ t → le_z s.start o.end ≡ u → le_z (s.start -ℤ pos 1) o.start ≡ v → is_empty s ≡ false → is_empty o ≡ false → printed_touches s o ≡ touches s o
unfolding printed_touches touches is_empty
printed-by s o true true true e f g a b = simp (g, e, f)
printed-by s o true true false e f g a b =
    let here : le_z (o.start -ℤ pos 1) s.start ≡ true = omega (ordered, diff s.start (pos 1), diff o.start (pos 1)) in
    let mine = in_range (s.start -ℤ pos 1) s.end o.start || in_range (s.start -ℤ pos 1) s.end (o.end -ℤ pos 1) in
    let theirs = in_range (o.start -ℤ pos 1) o.end s.start || in_range (o.start -ℤ pos 1) o.end (s.end -ℤ pos 1) in
    or-second mine theirs (simp (here, f)) ∙ sym (simp (e, f))
printed-by s o true false v e f g a b = no-range s o a b (inr (omega ordered)) ∙ sym (simp (e, f))
printed-by s o false u v e f g a b = no-range s o a b (inl (omega ordered)) ∙ sym (simp e)

pub touches-printed : (s o : Span) → is_empty s ≡ false → is_empty o ≡ false → printed_touches s o ≡ touches s o
touches-printed s o a b = printed-by s o (le_z o.start s.end) (le_z s.start o.end) (le_z (s.start -ℤ pos 1) o.start) refl refl refl a b

-- the join of two that touch covers just what they cover
joined_to : (s o : Span) (c : ℤ) (u v : Bool) → lt_z c s.start ≡ u → lt_z c s.end ≡ v → le_z o.start s.end ≡ true → le_z s.start o.end ≡ true → Covers (join s o) c → Covers s c ⊎ Covers o c
joined_to s o c true v e f a b h = inr (record { from = lesser-other s.start o.start c h.from (omega ordered); below = omega ordered })
joined_to s o c false true e f a b h = inl (omega ordered)
joined_to s o c false false e f a b h = inr (record { from = omega ordered; below = greater-other s.end o.end c h.below (omega ordered) })

join-covers : (s o : Span) → touches s o ≡ true → (c : ℤ) → Covers (join s o) c ↔ (Covers s c ⊎ Covers o c)
unfolding touches
join-covers s o g c =
    let a = and_left (le_z o.start s.end) (le_z s.start o.end) g in
    let b = and_right (le_z o.start s.end) (le_z s.start o.end) g in
    let low = lesser-le s.start o.start in
    let high = le-greater s.end o.end in
    (joined_to s o c (lt_z c s.start) (lt_z c s.end) refl refl a b, ⊎_elim (λ h. omega ordered) (λ h. omega ordered))

no-by : (s o : Span) (a b t : Bool) → is_empty s ≡ a → is_empty o ≡ b → touches s o ≡ t → ((try_extended s o).joined ≡ false) ↔ ((is_empty s ≡ false) × ((is_empty o ≡ false) × Apart s o))
no-by s o true b t e f g = (λ h. absurd (clash refl (rw (join-from-empty s o e) at h)), λ w. absurd (clash e w.0))
no-by s o false true t e f g = (λ h. absurd (clash refl (rw (join-with-empty s o e f) at h)), λ w. absurd (clash f w.1.0))
no-by s o false false true e f g = (λ h. absurd (clash refl (rw (join-touching s o e f g) at h)), λ w. absurd (clash g ((touches-exactly s o).1 w.1.1)))
no-by s o false false false e f g = (λ h. (e, (f, (touches-exactly s o).0 g)), λ w. rw (join_apart s o e f g))

-- no exactly when neither is empty and a dark column lies between them
pub join-no : (s o : Span) → ((try_extended s o).joined ≡ false) ↔ ((is_empty s ≡ false) × ((is_empty o ≡ false) × Apart s o))
join-no s o = no-by s o (is_empty s) (is_empty o) (touches s o) refl refl refl

-- then nothing changes
pub no-stays : (s o : Span) → (try_extended s o).joined ≡ false → (try_extended s o).span ≡ s
no-stays s o h =
    let w = (join-no s o).0 h in
    ap (λ j. j.span) (join_apart s o w.0 w.1.0 ((touches-exactly s o).1 w.1.1))

covers-by : (s o : Span) (c : ℤ) (a b t : Bool) → is_empty s ≡ a → is_empty o ≡ b → touches s o ≡ t → (try_extended s o).joined ≡ true → Covers (try_extended s o).span c ↔ (Covers s c ⊎ Covers o c)
covers-by s o c true b t e f g h =
    rw (join-from-empty s o e) (λ w. inr (record { from = w.from; below = w.below }), ⊎_elim (λ w. absurd (clash e (covers-some s c w))) (λ w. record { from = w.from; below = w.below }))
covers-by s o c false true t e f g h = rw (join-with-empty s o e f) (inl, ⊎_elim (λ w. w) (λ w. absurd (clash f (covers-some o c w))))
covers-by s o c false false true e f g h = rw (join-touching s o e f g) (join-covers s o g c)
covers-by s o c false false false e f g h = absurd (clash h (ap (λ j. j.joined) (join_apart s o e f g)))

-- else the span after covers just what the two covered
pub joined-covers : (s o : Span) → (try_extended s o).joined ≡ true → (c : ℤ) → Covers (try_extended s o).span c ↔ (Covers s c ⊎ Covers o c)
joined-covers s o h c = covers-by s o c (is_empty s) (is_empty o) (touches s o) refl refl refl h

-- ---- try_take: a span that is not empty is handed out once

pub take-some : (s : Span) → is_empty s ≡ false → try_taken s ≡ record { taken = true; span = s; rest = new_span s.row }
unfolding try_taken
take-some s e = rw e

pub take_none : (s : Span) → is_empty s ≡ true → try_taken s ≡ record { taken = false; span = new_span (pos 0); rest = s }
unfolding try_taken
take_none s e = rw e

once_by : (s : Span) (t : Bool) → is_empty s ≡ t → (try_taken (try_taken s).rest).taken ≡ false
unfolding is_empty
once_by s true e = rw (take_none s e, take_none s e)
once_by s false e = rw (take-some s e, take_none (new_span s.row) refl)

-- what is left is empty
pub take-once : (s : Span) → (try_taken (try_taken s).rest).taken ≡ false
take-once s = once_by s (is_empty s) refl
