-- Laws of a span that meets points, whatever points they are: it becomes the least span that holds what it is to hold. Assumes nothing.
use mathlib.Core.Path.{◌≡◌, refl, sym, ap, ◌∙◌}
use mathlib.Core.Logic.{◌⊎◌, inl, inr, ⊎_elim}
use mathlib.Core.Bool.{Bool, true, false}
use mathlib.Core.List.Memᴰ
use mathlib.Core.List.{List, [], ◌∷◌, Memᴰ}
use lib.IntN.{ℤ, pos, ◌+ℤ◌, ◌-ℤ◌}
use lib.Signed.{lt_z, le_z}
use Rattle.whole.specs.Number.{eq_z}
use Rattle.whole.proofs.Linear.{sum, diff}
use Rattle.whole.proofs.Orders.{eq_z-refl, eq_z-no, ordered, eq_z-true, eq_z-false}
use Rattle.shapes.specs.declared.Point.{Point}
use Rattle.shapes.specs.declared.Span.{Span}
use Rattle.shapes.specs.Spans.{span_of, Covers, is_empty}
use Rattle.shapes.proofs.Columns.{covers-some, covers-first, covers-last}
use Rattle.scanline.specs.Spans.{extended}
use Rattle.scanline.specs.Meeting.{seen, seen_all}
use Rattle.scanline.specs.Words.{Column, before, met_at, End, kept, came, Least}

-- ---- one column more

-- an end, of one column
abbrev Kept : Span → ℤ → ℤ → ℤ → Type 0
Kept s e x c = ((is_empty s ≡ false) × (c ≡ e)) ⊎ (x ≡ c)

pub record Extends (s : Span) (x : ℤ) (r : Span) : Type 0 where
  pub row : r.row ≡ s.row
  pub at : Covers r x
  pub on : (c : ℤ) → Covers s c → Covers r c
  pub first : Kept s s.start x r.start
  pub final : Kept s (s.end -ℤ pos 1) x (r.end -ℤ pos 1)

extends-by : (s : Span) (x : ℤ) (a b d : Bool) → le_z s.end s.start ≡ a → lt_z x s.start ≡ b → le_z s.end x ≡ d → Extends s x (extended s x)
unfolding extended is_empty
extends-by s x true b d e f g =
    let one = sum x (pos 1) in
    let last = diff (x +ℤ pos 1) (pos 1) in
    rw e (record { row = refl; at = omega ordered; on = λ c h. absurd (omega ordered); first = inr refl; final = inr (omega ordered) })
extends-by s x false true d e f g =
    rw (e, f) (record { row = refl; at = omega ordered; on = λ c h. omega ordered; first = inr refl; final = inl (e, refl) })
extends-by s x false false true e f g =
    let one = sum x (pos 1) in
    let last = diff (x +ℤ pos 1) (pos 1) in
    rw (e, f, g) (record { row = refl; at = omega ordered; on = λ c h. omega ordered; first = inl (e, refl); final = inr (omega ordered) })
extends-by s x false false false e f g =
    rw (e, f, g) (record { row = refl; at = omega ordered; on = λ c h. h; first = inl (e, refl); final = inl (e, refl) })

pub extends : (s : Span) (x : ℤ) → Extends s x (extended s x)
extends s x = extends-by s x (le_z s.end s.start) (lt_z x s.start) (le_z s.end x) refl refl refl

-- ---- one point more

-- a point that is not on the row changes nothing
pub seen-off : (s : Span) (q : Point) → (q.y ≡ s.row → ⊥) → seen s q ≡ s
unfolding seen
seen-off s q off = rw (eq_z-no q.y s.row off)

pub seen-on : (s : Span) (q : Point) → q.y ≡ s.row → seen s q ≡ extended s q.x
unfolding seen
seen-on s q e = rw (e, eq_z-refl s.row)

-- the point is on the row or not
on-or-off : (s : Span) (q : Point) (t : Bool) → eq_z q.y s.row ≡ t → (q.y ≡ s.row) ⊎ (q.y ≡ s.row → ⊥)
on-or-off s q true e = inl (eq_z-true q.y s.row e)
on-or-off s q false e = inr (eq_z-false q.y s.row e)

split : (s : Span) (q : Point) → (q.y ≡ s.row) ⊎ (q.y ≡ s.row → ⊥)
split s q = on-or-off s q (eq_z q.y s.row) refl

record Sees (s : Span) (q : Point) (r : Span) : Type 0 where
  row : r.row ≡ s.row
  at : q.y ≡ s.row → Covers r q.x
  on : (c : ℤ) → Covers s c → Covers r c
  first : is_empty r ≡ false → End s s.start (q ∷ []) r.start
  final : is_empty r ≡ false → End s (s.end -ℤ pos 1) (q ∷ []) (r.end -ℤ pos 1)

end_of : {s : Span} {q : Point} {e c : ℤ} → q.y ≡ s.row → Kept s e q.x c → End s e (q ∷ []) c
end_of {q} on k = ⊎_elim (λ w. kept w.0 w.1) (λ x. came q (Memᴰ.head refl) on x) k

sees : (s : Span) (q : Point) → Sees s q (seen s q)
sees s q =
    ⊎_elim
    (λ on.
    let x = extends s q.x in
    rw (seen-on s q on) (record { row = x.row; at = λ e. x.at; on = x.on; first = λ e. end_of on x.first; final = λ e. end_of on x.final }))
    (λ off.
    rw (seen-off s q off) (record { row = refl; at = λ e. absurd (off e); on = λ c h. h; first = λ e. kept e refl; final = λ e. kept e refl }))
    (split s q)

-- ---- all points

record Meets (s : Span) (ps : List Point) (r : Span) : Type 0 where
  row : r.row ≡ s.row
  holds : (c : ℤ) → Column s ps c → Covers r c
  first : is_empty r ≡ false → End s s.start ps r.start
  final : is_empty r ≡ false → End s (s.end -ℤ pos 1) ps (r.end -ℤ pos 1)

-- what was an end after one point is one of all
end-one : {s : Span} {q : Point} {ps : List Point} {e c : ℤ} → End s e (q ∷ []) c → End s e (q ∷ ps) c
end-one (kept some is) = kept some is
end-one (came r m on at) = came r (Memᴰ.head (Memᴰ.eq_of_singleton m)) on at

end-all : {s r : Span} {q : Point} {ps : List Point} {e d c : ℤ} → r.row ≡ s.row → (is_empty r ≡ false → End s e (q ∷ []) d) → End r d ps c → End s e (q ∷ ps) c
end-all row one (kept some is) = rw is (end-one (one some))
end-all row one (came r m on at) = came r (Memᴰ.tail m) (on ∙ row) at

column-on : {s r : Span} {q : Point} {ps : List Point} {c : ℤ} → Sees s q r → Column s (q ∷ ps) c → Column r ps c
column-on {c} w (before h) = before (w.on c h)
column-on {s} {r} {q} {ps} {c} w (met_at p m on at) =
    ⊎_elim
    (λ (e : p ≡ q). before (rw (sym at ∙ ap (λ (p : Point). p.x) e) (w.at (sym (ap (λ (p : Point). p.y) e) ∙ on))))
    (λ i. met_at p i (on ∙ sym w.row) at)
    (Memᴰ.cases_cons m)

meets : (s : Span) (ps : List Point) → Meets s ps (seen_all s ps)
unfolding seen_all
meets s [] = record { row = refl; holds = λ c h. held h; first = λ e. kept e refl; final = λ e. kept e refl }
  where
    held : {c : ℤ} → Column s [] c → Covers s c
    held (before h) = h
    held (met_at q m on at) = absurd (Memᴰ.not-nil m)
meets s (q ∷ ps) =
    let w = sees s q in
    let m = meets (seen s q) ps in
    record {
      row = m.row ∙ w.row;
      holds = λ c h. m.holds c (column-on w h);
      first = λ e. end-all w.row w.first (m.first e);
      final = λ e. end-all w.row w.final (m.final e);
    }

-- an end is a column that is to be held
end-first : {s : Span} {ps : List Point} {c : ℤ} → End s s.start ps c → Column s ps c
end-first {s} (kept some is) = before (rw is (covers-first s some))
end-first (came q m on at) = met_at q m on at

end-final : {s : Span} {ps : List Point} {c : ℤ} → End s (s.end -ℤ pos 1) ps c → Column s ps c
end-final {s} (kept some is) = before (rw is (covers-last s some))
end-final (came q m on at) = met_at q m on at

-- a span that covers both ends of another covers it
pub covers-within : (r t : Span) (c : ℤ) → Covers t r.start → Covers t (r.end -ℤ pos 1) → Covers r c → Covers t c
covers-within r t c p q h = omega (ordered, diff r.end (pos 1))

pub seen-least : (s : Span) (ps : List Point) → Least s ps (seen_all s ps)
seen-least s ps =
    let m = meets s ps in
    let r = seen_all s ps in
    record {
      row = m.row;
      holds = m.holds;
      least = λ t all c h.
          let some = covers-some r c h in
          covers-within r t c (all r.start (end-first (m.first some))) (all (r.end -ℤ pos 1) (end-final (m.final some))) h;
      first = m.first;
      final = m.final;
    }

-- no point on the row: nothing changes
pub seen_none : (s : Span) (ps : List Point) → ((q : Point) → Memᴰ q ps → q.y ≡ s.row → ⊥) → seen_all s ps ≡ s
unfolding seen_all
seen_none s [] off = refl
seen_none s (q ∷ ps) off =
    let here = seen-off s q (off q (Memᴰ.head refl)) in
    ap (λ r. seen_all r ps) here ∙ seen_none s ps (λ p m. off p (Memᴰ.tail m))

-- ---- fewer points that come to the same

span-is : {r : Span} {row start end : ℤ} → r.row ≡ row → r.start ≡ start → r.end ≡ end → r ≡ span_of row start end
span-is a b c = rw (← a, ← b, ← c) refl

-- spans of one row that cover the same columns, and one at least, are the same
spans-same : (r t : Span) (c : ℤ) → r.row ≡ t.row → Covers r c → ((c : ℤ) → Covers r c → Covers t c) → ((c : ℤ) → Covers t c → Covers r c) → r ≡ t
spans-same r t c row some to back =
    let e = covers-some r c some in
    let f = covers-some t c (to c some) in
    let a = to r.start (covers-first r e) in
    let b = to (r.end -ℤ pos 1) (covers-last r e) in
    let x = back t.start (covers-first t f) in
    let y = back (t.end -ℤ pos 1) (covers-last t f) in
    let last = diff r.end (pos 1) in
    let final = diff t.end (pos 1) in
    span-is row (omega ordered) (omega ordered)

-- some of the points do, where what they come to covers the columns of all on the row
pub seen_same : (s : Span) (ps qs : List Point) (c : ℤ) → Covers (seen_all s qs) c → ((q : Point) → Memᴰ q qs → Memᴰ q ps) → ((q : Point) → Memᴰ q ps → q.y ≡ s.row → Covers (seen_all s qs) q.x) → seen_all s ps ≡ seen_all s qs
seen_same s ps qs c some among all =
    let p = seen-least s ps in
    let q = seen-least s qs in
    let back = q.least (seen_all s ps) (λ c w. p.holds c (grown w)) in
    spans-same (seen_all s ps) (seen_all s qs) c (p.row ∙ sym q.row) (back c some) (p.least (seen_all s qs) (λ c w. held w)) back
  where
    grown : {c : ℤ} → Column s qs c → Column s ps c
    grown (before h) = before h
    grown (met_at q m on at) = met_at q (among q m) on at

    held : {c : ℤ} → Column s ps c → Covers (seen_all s qs) c
    held {c} (before h) = (seen-least s qs).holds c (before h)
    held (met_at q m on at) = rw (← at) (all q m on)
