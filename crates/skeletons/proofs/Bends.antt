-- From width 3 on: the two edges of a leg do not end in one point, where the one ends the other does not come to the square, and within a miter's reach no
-- square has all four edges of a bend. Assumes nothing.
use mathlib.Core.Path.{◌≡◌, ap, ◌∙◌}
use mathlib.Core.Logic.{◌⊎◌, inl, inr, ⊎_elim}
use mathlib.Core.Bool.{Bool, true, false}
use Prim.Native.Nat.{ℕ, ◌+◌, ◌-◌, ◌*◌, ◌≤◌}
use native.Mathlib.Nat.{mul-le-mul_left, mul-le-mul_right}
use native.Mathlib.Omega.{arith}
use lib.IntN.{ℤ, pos, nat_abs, neg_ℤ, ◌+ℤ◌, ◌-ℤ◌, +ℤ_idl, +ℤ_idr, +ℤ_invr}
use Rattle.whole.proofs.Bounds.{abs_neg}
use Rattle.whole.proofs.Linear.{linear, sum, diff, opp, abs-parts}
use Rattle.whole.proofs.Tests.{else-false}
use Rattle.shapes.specs.declared.Point.{Point}
use Rattle.shapes.specs.declared.Line.{Line}
use Rattle.shapes.specs.declared.Side.{Side}
use Rattle.shapes.specs.declared.Side.TheVariants.{Left, Right}
use Rattle.shapes.specs.Shape.{line_of, minus, dot_product}
use Rattle.parallels.specs.Parallels.{swapped, aimed}
use Rattle.skeletons.specs.Treads.{Mark, marched}
use Rattle.skeletons.proofs.Apart.{gap-wide, two_steps}
use Rattle.skeletons.proofs.Cells.{Touches}
use Rattle.skeletons.proofs.Finishes.{Spot, excepted-start, excepted-is, excepted-left, excepted-right, ends-apart}
use Rattle.skeletons.proofs.Frames.{major, minor, reduce, Sizes, sizes, one-step}
use Rattle.skeletons.proofs.Marches.{larger, smaller}
use Rattle.skeletons.proofs.Outward.{one-outward, other-side}
use Rattle.skeletons.proofs.Sights.{Reached, Normal, Sighted, normal, extra}
use Rattle.skeletons.proofs.Small.{is_excepted}
use Rattle.skeletons.proofs.Starts.{starts_apart}
use Rattle.skeletons.proofs.Strokes.{Fits, flip, counts, mark_at, edge, step, along, aside, off, Solid, some, less, short, seen_start, seen_end, ends_at}
use Rattle.skeletons.proofs.Together.{both-normal, normal-beside, extra-beside}

-- ---- where edges end

off-most : (x : Bool) (s : ℤ) → nat_abs s ≡ 1 → nat_abs (off x s) ≤ 1
off-most true s e = omega (arith, e)
off-most false s e = omega arith

-- what two edges are off together: their steps are opposite
offs-most : (x y : Bool) (s : ℤ) → nat_abs s ≡ 1 → nat_abs (off x s +ℤ off y (neg_ℤ s)) ≤ 1
offs-most true true s e = omega (arith, ap nat_abs (+ℤ_invr s))
offs-most true false s e = omega (arith, ap nat_abs (+ℤ_idr s))
offs-most false true s e = omega (arith, ap nat_abs (+ℤ_idl (neg_ℤ s)), abs_neg s)
offs-most false false s e = omega arith

-- the square round a point at which an edge ends, n and e steps out and off by t: an edge two steps or more away does not come to it
beside-no : (b c n e : ℕ) (m : Mark) (t s : ℤ) → 1 ≤ c + b → 2 ≤ n + m.n → nat_abs t ≤ 1 → nat_abs (t +ℤ s) ≤ 1 → (m.extra ≡ true → (1 ≤ b) × (3 ≤ c + b + b)) → Sighted (c + b) b (neg_ℤ (pos n -ℤ t)) (neg_ℤ (pos e +ℤ t)) s m → ⊥
beside-no b c n e m t s large two one both long (normal is_normal h) = omega (arith, normal-beside b c n e m.n m.e t one h, mul-le-mul_left (c + b) two)
beside-no b c n e m t s large two one both long (extra is-extra h) =
    let k = c + b - 1 in
    let is : k + 1 ≡ c + b = omega arith in
    let lengths = long is-extra in
    omega (arith, extra-beside b c n e m.n m.e t s both h, mul-le-mul_left k two, ap (λ x. x * (n + m.n)) is, mul-le-mul_right (e + m.e) lengths.0)

beside : (c b n e : ℕ) (m : Mark) (t s : ℤ) → 1 ≤ c → b ≤ c → 2 ≤ n + m.n → nat_abs t ≤ 1 → nat_abs (t +ℤ s) ≤ 1 → (m.extra ≡ true → (1 ≤ b) × (3 ≤ c + b)) → Sighted c b (neg_ℤ (pos n -ℤ t)) (neg_ℤ (pos e +ℤ t)) s m → ⊥
beside c b n e m t s some less two one both long h =
    let is : c ≡ c - b + b = omega arith in
    beside-no b (c - b) n e m t s (omega arith) two one both (λ x. ((long x).0, omega (arith, (long x).1))) (rw is at h)

module _ {l : Line} {w : ℕ} (fits : Fits l w) (three : 3 ≤ w) where
  wide : 1 ≤ w
  wide = omega arith

  pub two-apart : 2 ≤ (counts l w).left.n + (counts l w).right.n
  two-apart = two_steps (some fits) (less l) three (flip l w)

  one : (side : Side) → nat_abs (step l side) ≡ 1
  one side = one-outward side _ (one-step (aimed l))

  -- the two edges do not end in one point
  pub ends-differ : (edge l w Left).end ≡ (edge l w Right).end → ⊥
  ends-differ same =
      let s = step l Left in
      let x = along l Left (edge l w Left).end l.end in
      let p = (ends_at fits wide Left).major-at in
      let q = ap (λ z. along l Right z l.end) same ∙ (ends_at fits wide Right).major-at in
      let t = off (mark_at l w Left).extra s in
      let u = off (mark_at l w Right).extra (neg_ℤ s) in
      let few = offs-most (mark_at l w Left).extra (mark_at l w Right).extra s (one Left) in
      omega (linear, two-apart, few, p, q, diff (pos (mark_at l w Left).n) t, diff (pos (mark_at l w Right).n) u, opp x, sum t u, abs-parts (t +ℤ u))

  two-on : (side : Side) → 2 ≤ (mark_at l w side).n + (mark_at l w (swapped side)).n
  two-on Left = two-apart
  two-on Right = omega (arith, two-apart)

  -- where the one ends the other does not come to the square
  pub one_end : (side : Side) → Touches (edge l w (swapped side)) (edge l w side).end → Solid l w (swapped side) → ⊥
  one_end side h solid =
      let m = mark_at l w side in
      let z = (edge l w side).end in
      let s = step l side in
      let t = off m.extra s in
      let at = ends_at fits wide side in
      let x-is = other-side side (dot_product (major (aimed l)) (minus z l.end)) ∙ ap neg_ℤ at.major-at in
      let y-is = other-side side (dot_product (minor (aimed l)) (minus z l.end)) ∙ ap neg_ℤ at.minor-at in
      let s-is = other-side side (dot_product (major (aimed l)) (reduce (aimed l))) in
      beside (larger l) (smaller l) m.n m.e (mark_at l w (swapped side)) t (neg_ℤ s) (some fits) (less l) (two-on side) (off-most m.extra s (one side)) (offs-most m.extra true s (one side))
      (λ x. (short fits wide (swapped side) x, solid.long x))
      (rw (x-is, y-is, s-is) at (seen_end fits wide (swapped side) solid.aim h))

-- ---- both edges of a leg come to the square round a point near its start, or near its end

-- the deltas as one more than two others
record Deltas (c b : ℕ) : Type 0 where
  over : ℕ
  more : ℕ
  larger-is : c ≡ over + more + 1
  smaller-is : b ≡ over + 1
  long : 1 ≤ over + more

deltas : {c b : ℕ} → b ≤ c → (1 ≤ b) × (3 ≤ c + b) → Deltas c b
deltas {c} {b} less h = record { over = b - 1; more = c - b; larger-is = omega arith; smaller-is = omega arith; long = omega arith }

-- an Extra mark is that of a leg which is not the shortest
abbrev Lengthy : ℕ → ℕ → Mark → Type 0
Lengthy c b m = m.extra ≡ true → (1 ≤ b) × (3 ≤ c + b)

-- the leg that is excepted
abbrev Excepted : ℕ → ℕ → ℕ → Bool → Type 0
Excepted c b w flip = (c ≡ 2) × ((b ≡ 1) × ((w ≡ 6) × (flip ≡ true)))

module _ (c b w : ℕ) (flip : Bool) (x y : ℤ) (some : 1 ≤ c) (less : b ≤ c) (three : 3 ≤ w) where
  abbrev l : Mark
  l = (marched c b flip w).left

  abbrev r : Mark
  r = (marched c b flip w).right

  both-no : Normal c b (x -ℤ pos l.n) (y -ℤ pos l.e) → Normal c b (neg_ℤ x -ℤ pos r.n) (neg_ℤ y -ℤ pos r.e) → ⊥
  both-no h k = omega (arith, gap-wide some less three flip, both-normal c b l.n l.e r.n r.e x y h k)

  module _ (most : w ≤ 64) (reach : Reached w x y) (unless : Excepted c b w flip → ⊥) where
    start-by : Deltas c b → Sighted c b x y (pos 0) l → Sighted c b (neg_ℤ x) (neg_ℤ y) (pos 0) r → ⊥
    start-by d h k =
        let other : flip ≡ true → is_excepted d.over d.more w ≡ false = λ t. else-false (is_excepted d.over d.more w) (λ o. let is = excepted-is d.over d.more w o in unless (omega (arith, d.larger-is), (omega (arith, d.smaller-is), (is.1.1, t)))) in
        starts_apart d.over d.more w flip three most x y reach d.long other (rw (d.larger-is, d.smaller-is) at h) (rw (d.larger-is, d.smaller-is) at k)

    start-never : Lengthy c b l → Lengthy c b r → Sighted c b x y (pos 0) l → Sighted c b (neg_ℤ x) (neg_ℤ y) (pos 0) r → ⊥
    start-never p q (normal s h) (normal t k) = both-no h k
    start-never p q (normal s h) (extra t k) = start-by (deltas less (q t)) (normal s h) (extra t k)
    start-never p q (extra s h) k = start-by (deltas less (p s)) (extra s h) k

module _ (c b : ℕ) (flip : Bool) (x y s : ℤ) (some : 1 ≤ c) (less : b ≤ c) (reach : Reached 6 x y) (one : nat_abs s ≡ 1) (at : (nat_abs x ≡ 3) ⊎ (10 ≤ nat_abs x)) where
  end_by : Deltas c b → Sighted c b x y s (marched c b flip 6).left → Sighted c b (neg_ℤ x) (neg_ℤ y) (neg_ℤ s) (marched c b flip 6).right → ⊥
  end_by d h k = ends-apart d.over d.more flip x y s reach one d.long at (rw (d.larger-is, d.smaller-is) at h) (rw (d.larger-is, d.smaller-is) at k)

  end-never : Lengthy c b (marched c b flip 6).left → Lengthy c b (marched c b flip 6).right → Sighted c b x y s (marched c b flip 6).left → Sighted c b (neg_ℤ x) (neg_ℤ y) (neg_ℤ s) (marched c b flip 6).right → ⊥
  end-never p q (normal t h) (normal u k) = both-no c b 6 flip x y some less (omega arith) h k
  end-never p q (normal t h) (extra u k) = end_by (deltas less (q u)) (normal t h) (extra u k)
  end-never p q (extra t h) k = end_by (deltas less (p t)) (extra t h) k

-- the same of a width that is 6
end-by-six : {w : ℕ} → w ≡ 6 → (c b : ℕ) (flip : Bool) (x y s : ℤ) → 1 ≤ c → b ≤ c → Reached w x y → nat_abs s ≡ 1 → (nat_abs x ≡ 3) ⊎ (10 ≤ nat_abs x)
    → Lengthy c b (marched c b flip w).left → Lengthy c b (marched c b flip w).right → Sighted c b x y s (marched c b flip w).left → Sighted c b (neg_ℤ x) (neg_ℤ y) (neg_ℤ s) (marched c b flip w).right → ⊥
end-by-six is c b flip x y s some less reach one at p q h k = end-never c b flip x y s some less (rw is at reach) one at (rw is at p) (rw is at q) (rw is at h) (rw is at k)

-- ---- the leg that is excepted

excepted-at : (c b w : ℕ) (flip : Bool) (x y : ℤ) → Excepted c b w flip → Sighted c b x y (pos 0) (marched c b flip w).left → Sighted c b (neg_ℤ x) (neg_ℤ y) (pos 0) (marched c b flip w).right → Spot x y
excepted-at c b w flip x y is h k = excepted-start x y (rw (is.0, is.1.0, is.1.1.0, is.1.1.1, excepted-left) at h) (rw (is.0, is.1.0, is.1.1.0, is.1.1.1, excepted-right) at k)

-- ---- the same squares, whichever leg's axes they are counted along

reach-by : (m n k : ℕ) (v : Point) → Sizes m n v → nat_abs v.x * nat_abs v.x + nat_abs v.y * nat_abs v.y ≤ k → m * m + n * n ≤ k
reach-by m n k v is h = ⊎_elim (λ e. rw (e.0, e.1) h) (λ e. rw (e.0, e.1) (omega arith)) is

spot-by : (m n p q : ℕ) (v : Point) → Sizes m n v → Sizes p q v → m ≡ 3 → 10 ≤ n → (p ≡ 3) ⊎ (10 ≤ p)
spot-by m n p q v (inl e) (inl f) three ten = inl (omega (arith, e.0, f.0))
spot-by m n p q v (inl e) (inr f) three ten = inr (omega (arith, e.1, f.0))
spot-by m n p q v (inr e) (inl f) three ten = inr (omega (arith, e.1, f.0))
spot-by m n p q v (inr e) (inr f) three ten = inl (omega (arith, e.0, f.0))

-- ---- all four edges of a bend

module _ {p q r : Point} {w : ℕ} (first_fits : Fits (line_of p q) w) (second_fits : Fits (line_of q r) w) (three : 3 ≤ w) (most : w ≤ 64) {z : Point}
    (reach : Reached w (minus z q).x (minus z q).y)
    (before : (side : Side) → Touches (edge (line_of p q) w side) z × Solid (line_of p q) w side)
    (after : (side : Side) → Touches (edge (line_of q r) w side) z × Solid (line_of q r) w side) where
  abbrev first : Line
  first = line_of p q

  abbrev second : Line
  second = line_of q r

  one-wide : 1 ≤ w
  one-wide = omega arith

  lengthy : {j : Line} → Fits j w → (side : Side) → Solid j w side → Lengthy (larger j) (smaller j) (mark_at j w side)
  lengthy fits side solid x = (short fits one-wide side x, solid.long x)

  -- how far z is from the bend along the axes across a leg
  abbrev x : Line → ℤ
  x j = along j Left z q

  abbrev y : Line → ℤ
  y j = aside j Left z q

  reach_of : (j : Line) → Reached w (x j) (y j)
  reach_of j = reach-by (nat_abs (x j)) (nat_abs (y j)) (2 * w * (2 * w)) (minus z q) (sizes (aimed j) (minus z q)) reach

  second-sees : (side : Side) → Sighted (larger second) (smaller second) (along second side z q) (aside second side z q) (pos 0) (mark_at second w side)
  second-sees side = seen_start second_fits one-wide side (after side).1.aim (after side).0

  first-sees : (side : Side) → Sighted (larger first) (smaller first) (along first side z q) (aside first side z q) (step first side) (mark_at first w side)
  first-sees side = seen_end first_fits one-wide side (before side).1.aim (before side).0

  -- the leg that is excepted after the bend, and any leg before it
  excepted-second : Excepted (larger second) (smaller second) w (flip second w) → ⊥
  excepted-second is =
      let spot = excepted-at (larger second) (smaller second) w (flip second w) (x second) (y second) is (second-sees Left) (second-sees Right) in
      let at = spot-by (nat_abs (x second)) (nat_abs (y second)) (nat_abs (x first)) (nat_abs (y first)) (minus z q) (sizes (aimed second) (minus z q)) (sizes (aimed first) (minus z q)) spot.three spot.ten in
      end-by-six is.1.1.0 (larger first) (smaller first) (flip first w) (x first) (y first) (step first Left) (some first_fits) (less first) (reach_of first) (one-step (aimed first)) at
      (lengthy first_fits Left (before Left).1) (lengthy first_fits Right (before Right).1) (first-sees Left) (first-sees Right)

  pub four-apart : ⊥
  four-apart =
      start-never (larger second) (smaller second) w (flip second w) (x second) (y second) (some second_fits) (less second) three most (reach_of second) excepted-second
      (lengthy second_fits Left (after Left).1) (lengthy second_fits Right (after Right).1) (second-sees Left) (second-sees Right)
