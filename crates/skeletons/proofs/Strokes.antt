-- The two edges of a leg, on whichever side: where they start and end, and when they come to the square round a point. Assumes nothing.
use mathlib.Core.Path.{◌≡◌, refl, sym, ap, ◌∙◌}
use mathlib.Core.Logic.{⊎_elim}
use mathlib.Core.Bool.{Bool, true, false}
use Prim.Native.Nat.{ℕ, ◌+◌, ◌≤◌}
use native.Mathlib.Omega.{arith}
use lib.IntN.{ℤ, pos, nat_abs, neg_ℤ, ◌+ℤ◌, ◌-ℤ◌, +ℤ_idr, neg_ℤ-neg_ℤ}
use Rattle.whole.proofs.Linear.{linear, diff, abs-parts, le-or-lt}
use Rattle.shapes.specs.declared.Point.{Point}
use Rattle.shapes.specs.declared.Line.{Line}
use Rattle.shapes.specs.declared.Side.{Side}
use Rattle.shapes.specs.declared.Side.TheVariants.{Left, Right}
use Rattle.shapes.specs.declared.Offset.TheVariants.{None}
use Rattle.shapes.specs.Limits.{line_limit, thick_limit}
use Rattle.shapes.specs.Shape.{LineNear, same_point, minus, dot_product, delta}
use Rattle.shapes.proofs.Laws.{point-is, same-exactly}
use Rattle.bresenham.proofs.Laws.{sides}
use Rattle.parallels.specs.Parallels.{aimed, plan_along, plan_of, parallels_of}
use Rattle.parallels.proofs.Plans.{sound-plan}
use Rattle.extents.specs.declared.Edge.{Edge}
use Rattle.extents.specs.Sides.{Edges}
use Rattle.extents.specs.Sides.{Ends}
use Rattle.extents.specs.Edges.{lasts, fresh_edge, fresh_ends, closed, extents_of}
use Rattle.extents.proofs.Laws.{closed-fresh}
use Rattle.skeletons.specs.Treads.{Mark, Arrived, mark_of, marched}
use Rattle.skeletons.proofs.Apart.{Fairly, paid_for, some-short}
use Rattle.skeletons.proofs.Cells.{Touches}
use Rattle.skeletons.proofs.Frames.{major, minor, reduce, cut-size, sizes}
use Rattle.skeletons.proofs.Legs.{measured}
use Rattle.skeletons.proofs.Marches.{edge_at, Marked, larger, smaller, edges-marched}
use Rattle.skeletons.proofs.Outward.{outward, outward-minus, outward-back, none_out}
use Rattle.skeletons.proofs.Sights.{Sighted, sighted-start, sighted-end, closed-normal, closed-extra, to_whole, to-cut, opposite-steps}

abbrev edge_on : Side → Edges → Line
edge_on Left e = e.left
edge_on Right e = e.right

abbrev pub mark_on : Side → Arrived → Mark
mark_on Left r = r.left
mark_on Right r = r.right

-- what an Extra edge is off, and a Normal one is not
abbrev pub off : Bool → ℤ → ℤ
off true s = s
off false s = pos 0

-- ---- a stroke of width w on both sides of a line: its counts, its edges, and the step along the major axis that an Extra edge is shorter

-- what the parallels ask of both
pub record Fits (l : Line) (w : ℕ) : Type 0 where
  pub near : LineNear line_limit l
  pub small : w ≤ thick_limit

abbrev pub flip : Line → ℕ → Bool
flip l w = (plan_of l (pos w) None).flip

abbrev pub counts : Line → ℕ → Arrived
counts l w = marched (larger l) (smaller l) (flip l w) w

abbrev pub mark_at : Line → ℕ → Side → Mark
mark_at l w side = mark_on side (counts l w)

abbrev pub edge : Line → ℕ → Side → Line
edge l w side = edge_on side (extents_of l (pos w) None)

abbrev pub step : Line → Side → ℤ
step l side = outward side (dot_product (major (aimed l)) (reduce (aimed l)))

-- how far z is along the two axes across the line, seen from o and counted outward
abbrev pub along : Line → Side → Point → Point → ℤ
along l side z o = outward side (dot_product (major (aimed l)) (minus z o))

abbrev pub aside : Line → Side → Point → Point → ℤ
aside l side z o = outward side (dot_product (minor (aimed l)) (minus z o))

-- an edge starts where its counts say, and ends there, seen from the line's end; an Extra one is off by the step that it is shorter
pub record StartsAt (l : Line) (w : ℕ) (side : Side) : Type 0 where
  pub major-at : along l side (edge l w side).start l.start ≡ pos (mark_at l w side).n
  pub minor-at : aside l side (edge l w side).start l.start ≡ pos (mark_at l w side).e

pub record EndsAt (l : Line) (w : ℕ) (side : Side) : Type 0 where
  pub major-at : along l side (edge l w side).end l.end ≡ pos (mark_at l w side).n -ℤ off (mark_at l w side).extra (step l side)
  pub minor-at : aside l side (edge l w side).end l.end ≡ pos (mark_at l w side).e +ℤ off (mark_at l w side).extra (step l side)

-- an edge that has a length
pub record Solid (l : Line) (w : ℕ) (side : Side) : Type 0 where
  pub aim : delta l ≡ aimed l
  pub long : (mark_at l w side).extra ≡ true → 3 ≤ larger l + smaller l

abbrev Still : Line → Type 0
Still l = ((delta l).x ≡ pos 0) × ((delta l).y ≡ pos 0)

pub less : (l : Line) → smaller l ≤ larger l
less l = (sides (aimed l)).less

-- ---- a leg from a point to itself, and any other

aimed-still : (l : Line) → same_point l.start l.end ≡ true → smaller l ≡ 0
unfolding aimed
aimed-still l same = rw same

aimed-moving : (l : Line) → same_point l.start l.end ≡ false → delta l ≡ aimed l
unfolding aimed
aimed-moving l apart = rw apart

still-delta : (l : Line) → same_point l.start l.end ≡ true → Still l
unfolding delta minus
still-delta l same =
    let is = (same-exactly l.start l.end).0 same in
    (omega (linear, diff l.end.x l.start.x, ap (λ p. p.x) is), omega (linear, diff l.end.y l.start.y, ap (λ p. p.y) is))

-- ---- a point that is no steps away

same_by : (p o : Point) → nat_abs (minus p o).x ≡ 0 → nat_abs (minus p o).y ≡ 0 → p ≡ o
unfolding minus
same_by p o x y =
    let x-is : p.x ≡ o.x = omega (linear, diff p.x o.x, abs-parts (p.x -ℤ o.x)) in
    let y-is : p.y ≡ o.y = omega (linear, diff p.y o.y, abs-parts (p.y -ℤ o.y)) in
    point-is x-is y-is

fresh-by : (l : Line) (e : Edge) → e.point ≡ l.start → e.extra ≡ false → e ≡ fresh_edge l
fresh-by l e at plain = rw (at, plain)

module _ {l : Line} {w : ℕ} (fits : Fits l w) where
  abbrev ends : Ends
  ends = lasts (fresh_ends l) (parallels_of l (pos w) None)

  edge-is : (side : Side) → edge l w side ≡ closed l (plan_of l (pos w) None).parallel (edge_at side ends)
  unfolding extents_of
  edge-is Left = refl
  edge-is Right = refl

  marked : (side : Side) → Marked (plan_of l (pos w) None) l.start side (edge_at side ends) (mark_at l w side)
  marked Left = (edges-marched l w fits.near fits.small).left
  marked Right = (edges-marched l w fits.near fits.small).right

  pub some : 1 ≤ larger l
  unfolding plan_of plan_along
  some = let m = measured (aimed l) (pos w) None in omega (linear, m.across-is.far, (sound-plan l (pos w) None fits.near fits.small).across_fair.some)

  pub starts-at : (side : Side) → StartsAt l w side
  unfolding plan_of plan_along closed
  starts-at side =
      let at = ap (λ x. x.start) (edge-is side) in
      record {
        major-at = ap (λ p. along l side p l.start) at ∙ (marked side).strode.major;
        minor-at = ap (λ p. aside l side p l.start) at ∙ (marked side).strode.minor;
      }

  -- an edge of no steps is the leg itself
  pub bare-edge : (side : Side) → mark_at l w side ≡ mark_of 0 0 false → edge l w side ≡ l
  unfolding plan_of plan_along
  bare-edge side is =
      let m = marked side in
      let e = edge_at side ends in
      let v = minus e.point l.start in
      let x = none_out side (dot_product (major (aimed l)) v) (m.strode.major ∙ ap (λ r. pos r.n) is) in
      let y = none_out side (dot_product (minor (aimed l)) v) (m.strode.minor ∙ ap (λ r. pos r.e) is) in
      let at = ⊎_elim (λ s. same_by e.point l.start (sym s.0 ∙ x) (sym s.1 ∙ y)) (λ s. same_by e.point l.start (sym s.1 ∙ y) (sym s.0 ∙ x)) (sizes (aimed l) v) in
      let fresh : e ≡ fresh_edge l = fresh-by l e at (m.extra ∙ ap (λ r. r.extra) is) in
      edge-is side ∙ ap (closed l (plan_of l (pos w) None).parallel) fresh ∙ closed-fresh l (plan_of l (pos w) None).parallel

  pub delta-normal : (side : Side) → (mark_at l w side).extra ≡ false → delta (edge l w side) ≡ delta l
  delta-normal side t = ap delta (edge-is side) ∙ (closed-normal l (plan_of l (pos w) None).parallel (edge_at side ends) ((marked side).extra ∙ t)).0

  pub delta-extra : (side : Side) → (mark_at l w side).extra ≡ true → delta (edge l w side) ≡ minus (delta l) (reduce (aimed l))
  unfolding plan_of plan_along
  delta-extra side t = ap delta (edge-is side) ∙ (closed-extra l (plan_of l (pos w) None).parallel (edge_at side ends) ((marked side).extra ∙ t)).0

  module _ (wide : 1 ≤ w) (side : Side) where
    fairly : (s : Side) → Fairly (larger l) (smaller l) (mark_at l w s)
    fairly Left = (paid_for some (less l) wide (flip l w)).left-fairly
    fairly Right = (paid_for some (less l) wide (flip l w)).right-fairly

    -- an Extra edge has a smaller delta that is not 0
    pub short : (mark_at l w side).extra ≡ true → 1 ≤ smaller l
    short x = let m = mark_at l w side in some-short (larger l) (smaller l) m.n m.e some ((fairly side).late x)

    -- when an edge comes to the square round z, seen from the leg's start, and from its end
    module _ (aim : delta l ≡ aimed l) {z : Point} (h : Touches (edge l w side) z) where
      pub seen_start : Sighted (larger l) (smaller l) (along l side z l.start) (aside l side z l.start) (pos 0) (mark_at l w side)
      seen_start = sighted-start l w aim side (marked side) short z (rw (edge-is side) at h)

      pub seen_end : Sighted (larger l) (smaller l) (along l side z l.end) (aside l side z l.end) (step l side) (mark_at l w side)
      seen_end = sighted-end l w aim side (marked side) short z (rw (edge-is side) at h)

    pub ends_at : EndsAt l w side
    unfolding plan_of plan_along
    ends_at = by m.extra refl
      where
        m : Mark
        m = mark_at l w side

        p : Point
        p = (edge_at side ends).point

        at : (c : Point) {q : Point} → (closed l (plan_of l (pos w) None).parallel (edge_at side ends)).end ≡ q → outward side (dot_product c (minus (edge l w side).end l.end)) ≡ outward side (dot_product c (minus q l.end))
        at c is = ap (λ q. outward side (dot_product c (minus q l.end))) (ap (λ x. x.end) (edge-is side) ∙ is)

        by : (t : Bool) → m.extra ≡ t → EndsAt l w side
        by false t =
            let c = closed-normal l (plan_of l (pos w) None).parallel (edge_at side ends) ((marked side).extra ∙ t) in
            record {
              major-at = rw t (at (major (aimed l)) c.1 ∙ ap (outward side) (to_whole (major (aimed l)) p l) ∙ (marked side).strode.major ∙ sym (+ℤ_idr (pos m.n)));
              minor-at = rw t (at (minor (aimed l)) c.1 ∙ ap (outward side) (to_whole (minor (aimed l)) p l) ∙ (marked side).strode.minor ∙ sym (+ℤ_idr (pos m.e)));
            }
        by true t =
            let c = closed-extra l (plan_of l (pos w) None).parallel (edge_at side ends) ((marked side).extra ∙ t) in
            let s = reduce (aimed l) in
            let back : outward side (dot_product (minor (aimed l)) s) ≡ neg_ℤ (step l side) = ap (outward side) (opposite-steps (aimed l) (short t)) ∙ outward-back side (dot_product (major (aimed l)) s) in
            record {
              major-at =
                  rw t
                  (at (major (aimed l)) c.1 ∙ ap (outward side) (to-cut (major (aimed l)) p l s) ∙ outward-minus side (dot_product (major (aimed l)) (minus p l.start)) (dot_product (major (aimed l)) s)
                  ∙ ap (λ x. x -ℤ step l side) (marked side).strode.major);
              minor-at =
                  rw t
                  (at (minor (aimed l)) c.1 ∙ ap (outward side) (to-cut (minor (aimed l)) p l s) ∙ outward-minus side (dot_product (minor (aimed l)) (minus p l.start)) (dot_product (minor (aimed l)) s)
                  ∙ ap (λ x. x -ℤ outward side (dot_product (minor (aimed l)) s)) (marked side).strode.minor ∙ ap (λ x. pos m.e -ℤ x) back ∙ ap (λ x. pos m.e +ℤ x) (neg_ℤ-neg_ℤ (step l side)));
            }

    -- a leg from a point to itself has edges without length
    still-leg : same_point l.start l.end ≡ true → Still (edge l w side)
    still-leg same = by (mark_at l w side).extra refl
      where
        by : (t : Bool) → (mark_at l w side).extra ≡ t → Still (edge l w side)
        by false t = rw (delta-normal side t) (still-delta l same)
        by true t = absurd (omega (arith, short t, aimed-still l same))

    -- and so has one of 1 and 1 where it is Extra
    still-extra : delta l ≡ aimed l → (mark_at l w side).extra ≡ true → larger l + smaller l ≤ 2 → Still (edge l w side)
    still-extra aim t few =
        let d = delta (edge l w side) in
        let size : nat_abs d.x + nat_abs d.y + 2 ≡ larger l + smaller l = rw (delta-extra side t, aim) (cut-size (aimed l) (short t)) in
        (omega (linear, abs-parts d.x), omega (linear, abs-parts d.y))

    -- any other has one
    pub solid : (Still (edge l w side) → ⊥) → Solid l w side
    solid moves = by (same_point l.start l.end) refl
      where
        by : (t : Bool) → same_point l.start l.end ≡ t → Solid l w side
        by true same = absurd (moves (still-leg same))
        by false apart =
            let aim = aimed-moving l apart in
            record { aim = aim; long = λ t. ⊎_elim (λ more. more) (λ few. absurd (moves (still-extra aim t (omega arith)))) (le-or-lt 3 (larger l + smaller l)) }
