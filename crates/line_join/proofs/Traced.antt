-- 02's K4: a join's origin on a side says where its corners there come from. Assumes nothing.
use mathlib.Core.Path.{◌≡◌, refl, sym, ap, subst, ◌∙◌}
use mathlib.Core.Logic.{◌↔◌, inl, inr, ⊎_elim}
use mathlib.Core.Bool.{Bool, true, false, cond}
use Prim.Native.Nat.{ℕ}
use native.Mathlib.Omega.{arith}
use lib.IntN.{ℤ}
use Rattle.whole.specs.declared.Division.TheVariants.{Exact}
use Rattle.whole.proofs.Tests.{clash}
use Rattle.shapes.specs.declared.Point.{Point}
use Rattle.shapes.specs.declared.Line.{Line}
use Rattle.shapes.specs.declared.Side.{Side}
use Rattle.shapes.specs.declared.Side.TheVariants.{Left, Right}
use Rattle.shapes.specs.declared.Offset.{Offset}
use Rattle.shapes.specs.declared.Divisions.{Divisions}
use Rattle.shapes.specs.Shape.{line_of}
use Rattle.intersection_params.specs.declared.Intersection.{Intersection}
use Rattle.intersection_params.specs.declared.Intersection.TheVariants.{At, Colinear}
use Rattle.intersection_params.specs.Crossing.{solution_of, crossing_of, divisions_of, nearly_colinear}
use Rattle.intersection_params.specs.Words.{TrueCrossing, whole_point}
use Rattle.intersection_params.proofs.Divisions.{divisions-exactly, exact-exactly}
use Rattle.extents.specs.Sides.{Edges}
use Rattle.extents.specs.Edges.{extents_of}
use Rattle.line_join.specs.declared.Kind.{Kind}
use Rattle.line_join.specs.declared.Kind.TheVariants as kind
use Rattle.line_join.specs.Sides.{Corners}
use Rattle.line_join.specs.declared.Origin.{Origin}
use Rattle.line_join.specs.declared.Origin.TheVariants.{Crossing, NotACrossing}
use Rattle.line_join.specs.declared.Join.{Join}
use Rattle.line_join.specs.Origins.{origin_by, origin_of, no_crossings, traced}
use Rattle.line_join.specs.Join.{mended, meet, outer, alike, plain, cut, bent_of, traced_of, start_of, end_of, join_of}
use Rattle.line_join.specs.Words.{Bend, edge_on, origin_on, TakesEnds, EndTaken, ComesFrom}
use Rattle.line_join.proofs.Laws.{miter-is, bevel-is, degenerate-is, colinear-is, kind-exactly}
use Rattle.line_join.proofs.Meeting.{meet-drawn, meet-ended}

-- ---- of two edges that meet

origin-by : (spoilt : Bool) (ds : Divisions) (end : Point) (x : Intersection) {p : Point} {s : Side} → mended spoilt end x ≡ At p s → origin_by spoilt ds x ≡ cond spoilt NotACrossing (Crossing ds)
origin-by spoilt ds end (At q t) e = refl
origin-by spoilt ds end Colinear e = let z : ◌≡◌ {A = ℕ} 0 1 = cc in absurd (omega arith)

-- edges that meet at p
record Meets (second first : Line) (p : Point) : Type 0 where
  outside : Side
  at : meet second first ≡ At p outside

origin-met : {second first : Line} {p : Point} → Meets second first p → (spoilt : Bool) → nearly_colinear second first ≡ spoilt → origin_of second first ≡ cond spoilt NotACrossing (Crossing (divisions_of (solution_of second first)))
unfolding origin_of meet
origin-met {second} {first} m spoilt e = rw e (origin-by spoilt (divisions_of (solution_of second first)) first.end (crossing_of second first) (rw e at m.at))

-- ---- of a join

-- on a side, where both pairs meet
met-on : {first second : Edges} {side : Side} {c : Corners} → Bend first second side c → (s : Side) → Meets (edge_on s second) (edge_on s first) (outer s c)
met-on {side = side} b Left = record { outside = side; at = b.left_at }
met-on b Right = record { outside = b.other; at = b.right_at }

module _ (first second : Edges) (s : Side) where
  abbrev origin : Origin
  origin = origin_of (edge_on s second) (edge_on s first)

  -- a side whose two corners are what its edges meet at
  used-by : (j : Join) → (TakesEnds j.kind s → ⊥) → Meets (edge_on s second) (edge_on s first) (outer s j.ending) → outer s j.starting ≡ outer s j.ending
      → (near : Bool) → nearly_colinear (edge_on s second) (edge_on s first) ≡ near → ComesFrom first second s j origin
  used-by j kept met one true e =
      let end = ((meet-ended (edge_on s second) (edge_on s first) (outer s j.ending) met.outside e).0 met.at).at_end in
      rw (origin-met met true e) (inr (record { alike = e; ending_at = end; starting_at = one ∙ end }))
  used-by j kept met one false e =
      let drawn = (meet-drawn (edge_on s second) (edge_on s first) (outer s j.ending) met.outside e).0 met.at in
      rw (origin-met met false e)
      (record {
        not_taken = ⊎_elim kept (λ near. clash near e);
        outside = met.outside;
        ending_at = drawn;
        starting_at = one;
        divided = (divisions-exactly (edge_on s second) (edge_on s first) drawn.crosses _).0 refl;
      })

  used : (j : Join) → (TakesEnds j.kind s → ⊥) → Meets (edge_on s second) (edge_on s first) (outer s j.ending) → outer s j.starting ≡ outer s j.ending → ComesFrom first second s j origin
  used j kept met one = used-by j kept met one (nearly_colinear (edge_on s second) (edge_on s first)) refl

module _ (first second : Edges) where
  miter-from : {side : Side} {c : Corners} → Bend first second side c → (s : Side) → let j = traced first second (alike kind.Miter c) in ComesFrom first second s j (origin_on s j.origins)
  miter-from b Left = used first second Left _ (λ none. none) (met-on b Left) refl
  miter-from b Right = used first second Right _ (λ none. none) (met-on b Right) refl

  bevel-from : {side : Side} {c : Corners} → Bend first second side c → (s : Side) → let j = traced first second (cut side c first second) in ComesFrom first second s j (origin_on s j.origins)
  bevel-from {side = Left} b Left = inl (record { by_kind = refl; ending_at = refl; starting_at = refl })
  bevel-from {side = Left} b Right = used first second Right _ (λ e. let z : ◌≡◌ {A = ℕ} 0 1 = cc in absurd (omega arith)) (met-on b Right) refl
  bevel-from {side = Right} b Left = used first second Left _ (λ e. let z : ◌≡◌ {A = ℕ} 0 1 = cc in absurd (omega arith)) (met-on b Left) refl
  bevel-from {side = Right} b Right = inl (record { by_kind = refl; ending_at = refl; starting_at = refl })

  -- a join that takes ends of edges on both sides
  plain-from : (k : Kind) (s : Side) → TakesEnds k s → let j = plain k first second in ComesFrom first second s j (origin_on s j.origins)
  plain-from k Left t = inl (record { by_kind = t; ending_at = refl; starting_at = refl })
  plain-from k Right t = inl (record { by_kind = t; ending_at = refl; starting_at = refl })

  module _ (mid : Point) (w : ℤ) (s : Side) where
    abbrev j : Join
    j = traced_of first second mid w

    from-by : (k : Kind) → (bent_of first second mid w).kind ≡ k → ComesFrom first second s j (origin_on s j.origins)
    from-by kind.Miter e = let h = (kind-exactly first second mid w kind.Miter).0 e in rw (miter-is first second mid w h) (miter-from h.bend s)
    from-by (kind.Bevel outside) e = let h = (kind-exactly first second mid w (kind.Bevel outside)).0 e in rw (bevel-is first second mid w h) (bevel-from h.bend s)
    from-by (kind.Degenerate outside) e = rw (degenerate-is first second mid w ((kind-exactly first second mid w (kind.Degenerate outside)).0 e)) (plain-from (kind.Degenerate outside) s tt)
    from-by kind.Colinear e = rw (colinear-is first second mid w ((kind-exactly first second mid w kind.Colinear).0 e)) (plain-from kind.Colinear s tt)
    from-by kind.Start e = absurd ((kind-exactly first second mid w kind.Start).0 e)
    from-by kind.End e = absurd ((kind-exactly first second mid w kind.End).0 e)

    comes-from : ComesFrom first second s j (origin_on s j.origins)
    comes-from = from-by (bent_of first second mid w).kind refl

    taken : ComesFrom first second s j NotACrossing → EndTaken first second s j
    taken = ⊎_elim (λ e. inl e.by_kind) (λ e. inr e.alike)

    one-origin : (o p : Origin) → ComesFrom first second s j o → ComesFrom first second s j p → o ≡ p
    one-origin (Crossing ds) (Crossing es) c d =
        let exactly = divisions-exactly (edge_on s second) (edge_on s first) c.ending_at.crosses in
        ap Crossing (sym ((exactly ds).1 c.divided) ∙ (exactly es).1 d.divided)
    one-origin (Crossing ds) NotACrossing c d = absurd (c.not_taken (taken d))
    one-origin NotACrossing (Crossing es) c d = absurd (d.not_taken (taken c))
    one-origin NotACrossing NotACrossing c d = refl

    -- a side has an origin exactly when its corners come from there
    pub origin-exactly : (o : Origin) → (origin_on s j.origins ≡ o) ↔ ComesFrom first second s j o
    origin-exactly o = (λ e. subst (ComesFrom first second s j) e comes-from, one-origin (origin_on s j.origins) o comes-from)

    -- the corner of a crossing is the true crossing of the side's edges exactly when both coordinates are exact
    pub exact-corner : (ds : Divisions) → origin_on s j.origins ≡ Crossing ds → (ds ≡ record { x = Exact; y = Exact }) ↔ TrueCrossing (edge_on s second) (edge_on s first) (whole_point (outer s j.ending))
    exact-corner ds e =
        let c = (origin-exactly (Crossing ds)).0 e in
        let is = (divisions-exactly (edge_on s second) (edge_on s first) c.ending_at.crosses ds).1 c.divided in
        let exactly = exact-exactly c.ending_at in
        (λ exact. exactly.0 (is ∙ exact), λ true-one. sym is ∙ exactly.1 true-one)

    none-by : (o : Origin) → ComesFrom first second s j o → EndTaken first second s j → o ≡ NotACrossing
    none-by (Crossing ds) c taken = absurd (c.not_taken taken)
    none-by NotACrossing c taken = refl

    -- and none exactly when the end of an edge was taken
    pub none-exactly : (origin_on s j.origins ≡ NotACrossing) ↔ EndTaken first second s j
    none-exactly = (λ e. taken ((origin-exactly NotACrossing).0 e), none-by (origin_on s j.origins) comes-from)

-- the join of three points
module _ (a b c : Point) (w : ℤ) (o : Offset) (s : Side) where
  abbrev First : Edges
  First = extents_of (line_of a b) w o

  abbrev Second : Edges
  Second = extents_of (line_of b c) w o

  -- it is what the laws on kinds and corners speak of, with its origins set
  pub join-traced : join_of a b c w o ≡ traced First Second (bent_of First Second b w)
  unfolding join_of
  join-traced = refl

  pub join-origin-exactly : (from : Origin) → let j = join_of a b c w o in (origin_on s j.origins ≡ from) ↔ ComesFrom First Second s j from
  unfolding join_of
  join-origin-exactly from = origin-exactly First Second b w s from

  pub join-none-exactly : let j = join_of a b c w o in (origin_on s j.origins ≡ NotACrossing) ↔ EndTaken First Second s j
  unfolding join_of
  join-none-exactly = none-exactly First Second b w s

  pub join-exact-corner : (ds : Divisions) → let j = join_of a b c w o in
      origin_on s j.origins ≡ Crossing ds → (ds ≡ record { x = Exact; y = Exact }) ↔ TrueCrossing (edge_on s Second) (edge_on s First) (whole_point (outer s j.ending))
  unfolding join_of
  join-exact-corner ds e = exact-corner First Second b w s ds e

-- a route's first and last join take ends of edges
module _ (a b : Point) (w : ℤ) (o : Offset) where
  pub start-uncrossed : (start_of a b w o).origins ≡ no_crossings
  unfolding start_of
  start-uncrossed = refl

  pub end-uncrossed : (end_of a b w o).origins ≡ no_crossings
  unfolding end_of
  end-uncrossed = refl
