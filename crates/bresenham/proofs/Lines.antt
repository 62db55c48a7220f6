-- The points of a line, in closed form: the n-th of them, and which pixels they are. Assumes nothing.
use mathlib.Core.Path.{◌≡◌, refl, ap, ◌∙◌}
use mathlib.Core.Logic.{⊎_elim}
use mathlib.Core.Bool.{Bool, true, false, cond}
use mathlib.Core.List.Memᴰ
use mathlib.Core.List.{Memᴰ}
use Prim.Native.Nat.{ℕ, zero, suc, ◌+◌, ◌≤◌, ◌<◌}
use native.Mathlib.Nat.{le_refl}
use native.Mathlib.Omega.{arith}
use borrow.Author.Tests.{ltb-true, ltb-false}
use lib.Dec.{ltb}
use lib.IntN.{ℤ, pos, negsuc, nat_abs, ◌+ℤ◌, ◌-ℤ◌, ◌*ℤ◌}
use lib.Signed.{lt_z, ◌≤ℤ◌}
use Rattle.whole.proofs.Linear.{linear, sum, opp, diff, neg-abs, pos-abs, le-or-lt, below_parts}
use Rattle.whole.proofs.Steps.{parts}
use Rattle.whole.proofs.Laws.{lesser-le, le-greater, lesser-one, greater-one}
use Rattle.whole.proofs.Ring.{con, ◌⊕◌, ◌⊖◌, ◌⊗◌, ◌≈◌, ring}
use Rattle.shapes.specs.declared.Point.{Point}
use Rattle.shapes.specs.declared.Line.{Line}
use Rattle.shapes.specs.Shape.{minus, delta}
use Rattle.bresenham.specs.Walk.{direction_of, along, parameters_of}
use Rattle.bresenham.specs.Points.{major_length, line_points}
use Rattle.bresenham.specs.Paces.{turns_at, moved, moved_to, values_from, wide, tall, steep, steps_from, pixel_at, across_at, down_at, point_at, Passes, Between}
use Rattle.bresenham.proofs.Laws.{across, down, is_steep, longer, shorter, parameters-are, sides}
use Rattle.bresenham.proofs.Paces.{turns-within, within-turns, turns-mono, turns-most, walk-points}

-- ---- steps in a direction

pub steps_back : (x d : ℤ) (k : ℕ) → lt_z d (pos 0) ≡ true → steps_from x d k ≡ x -ℤ pos k
unfolding steps_from direction_of
steps_back x d k e = rw e (ring 2 (λ x k. x ⊕ k ⊗ con (negsuc 0) ≈ x ⊖ k) refl x (pos k))

pub steps_on : (x d : ℤ) (k : ℕ) → lt_z d (pos 0) ≡ false → steps_from x d k ≡ x +ℤ pos k
unfolding steps_from direction_of
steps_on x d k e = rw e (ring 2 (λ x k. x ⊕ k ⊗ con (pos 1) ≈ x ⊕ k) refl x (pos k))

-- other numbers of steps lead to other places
same_by : (x d : ℤ) (i j : ℕ) (t : Bool) → lt_z d (pos 0) ≡ t → steps_from x d i ≡ steps_from x d j → i ≡ j
same_by x d i j true e h =
    let w = rw (steps_back x d i e, steps_back x d j e) at h in
    omega (linear, diff x (pos i), diff x (pos j))
same_by x d i j false e h =
    let w = rw (steps_on x d i e, steps_on x d j e) at h in
    omega (linear, sum x (pos i), sum x (pos j))

pub same-steps : (x d : ℤ) {i j : ℕ} → steps_from x d i ≡ steps_from x d j → i ≡ j
same-steps x d {i} {j} h = same_by x d i j (lt_z d (pos 0)) refl h

-- from x to e there are the places that at most |e - x| steps toward e lead to
between-by : (x e : ℤ) (k : ℕ) (t : Bool) → lt_z (e -ℤ x) (pos 0) ≡ t → k ≤ nat_abs (e -ℤ x) → Between x e (steps_from x (e -ℤ x) k)
between-by x e k true f h =
    let least = lesser-le x e in
    let most = le-greater x e in
    rw (steps_back x (e -ℤ x) k f) (omega (linear, diff e x, opp (e -ℤ x), neg-abs (e -ℤ x) f, diff x (pos k)))
between-by x e k false f h =
    let least = lesser-le x e in
    let most = le-greater x e in
    rw (steps_on x (e -ℤ x) k f) (omega (linear, diff e x, pos-abs (e -ℤ x) f, sum x (pos k)))

pub steps-between : (x e : ℤ) {k : ℕ} → k ≤ nat_abs (e -ℤ x) → Between x e (steps_from x (e -ℤ x) k)
steps-between x e {k} h = between-by x e k (lt_z (e -ℤ x) (pos 0)) refl h

pub record Steps (x e z : ℤ) : Type 0 where
  pub is : z ≡ steps_from x (e -ℤ x) (nat_abs (z -ℤ x))
  pub most : nat_abs (z -ℤ x) ≤ nat_abs (e -ℤ x)

steps-by : (x e z : ℤ) (t : Bool) → lt_z (e -ℤ x) (pos 0) ≡ t → Between x e z → Steps x e z
steps-by x e z true f b =
    let way = diff e x in
    let far = diff z x in
    let high : z ≤ℤ x = ⊎_elim (λ g. omega linear) (λ g. omega linear) (greater-one x e) in
    let low : e ≤ℤ z = ⊎_elim (λ g. omega linear) (λ g. omega linear) (lesser-one x e) in
    let size = below_parts (z -ℤ x) (omega linear) in
    let all = below_parts (e -ℤ x) (omega linear) in
    record { is = rw (steps_back x (e -ℤ x) (nat_abs (z -ℤ x)) f) (omega (linear, diff x (pos (nat_abs (z -ℤ x))))); most = omega linear }
steps-by x e z false f b =
    let way = diff e x in
    let far = diff z x in
    let low : x ≤ℤ z = ⊎_elim (λ g. omega linear) (λ g. omega linear) (lesser-one x e) in
    let high : z ≤ℤ e = ⊎_elim (λ g. omega linear) (λ g. omega linear) (greater-one x e) in
    let size = parts {z = z -ℤ x} (omega linear) in
    let all = parts {z = e -ℤ x} (omega linear) in
    record { is = rw (steps_on x (e -ℤ x) (nat_abs (z -ℤ x)) f) (omega (linear, sum x (pos (nat_abs (z -ℤ x))))); most = omega linear }

pub between-steps : (x e z : ℤ) → Between x e z → Steps x e z
between-steps x e z b = steps-by x e z (lt_z (e -ℤ x) (pos 0)) refl b

-- ---- the n-th point

values_same : {f g : ℕ → Point} → ((n : ℕ) → f n ≡ g n) → (m k : ℕ) → values_from f m k ≡ values_from g m k
unfolding values_from
values_same e m zero = refl
values_same e m (suc k) = rw (e m, values_same e (suc m) k)

by-minor : (x σ : ℤ) (n t : ℕ) → moved x (pos 0) σ n t ≡ x +ℤ pos t *ℤ σ
by-minor x σ n t = ring 4 (λ x σ n t. x ⊕ n ⊗ con (pos 0) ⊕ t ⊗ σ ≈ x ⊕ t ⊗ σ) refl x σ (pos n) (pos t)

by-major : (x σ : ℤ) (n t : ℕ) → moved x σ (pos 0) n t ≡ x +ℤ pos n *ℤ σ
by-major x σ n t = ring 4 (λ x σ n t. x ⊕ n ⊗ σ ⊕ t ⊗ con (pos 0) ≈ x ⊕ n ⊗ σ) refl x σ (pos n) (pos t)

module _ (l : Line) where
  abbrev d : Point
  d = delta l

  point-by : (n : ℕ) (s : Bool) → (moved_to (along (cond s (down d) (across d)) (cond s (across d) (down d)) (pos (cond s (tall l) (wide l))) (pos (cond s (wide l) (tall l)))) l.start n (turns_at (cond s (tall l) (wide l)) (cond s (wide l) (tall l)) n)).point ≡ pixel_at l (across_at s (wide l) (tall l) n) (down_at s (wide l) (tall l) n)
  unfolding moved_to along steps_from
  point-by n true = let t = turns_at (tall l) (wide l) n in cc (by-minor l.start.x (direction_of d.x) n t, by-major l.start.y (direction_of d.y) n t)
  point-by n false = let t = turns_at (wide l) (tall l) n in cc (by-major l.start.x (direction_of d.x) n t, by-minor l.start.y (direction_of d.y) n t)

  pub line-points : line_points l ≡ values_from (point_at l) 0 (suc (longer d))
  unfolding line_points major_length parameters_of point_at along
  line-points =
      rw (parameters-are d)
      (walk-points (cond (is_steep d) (down d) (across d)) (cond (is_steep d) (across d) (down d)) (longer d) (shorter d) l.start (sides d).less
      ∙ values_same (λ n. point-by n (is_steep d)) 0 (suc (longer d)))

-- ---- the pixels of a line that goes w columns and h rows

-- the n-th is one of them
record Drawn (s : Bool) (w h k r : ℕ) : Type 0 where
  wide-most : k ≤ w
  tall-most : r ≤ h
  passes : Passes s w h k r

drawn-by : (w h n : ℕ) (s : Bool) → ltb w h ≡ s → n ≤ cond s h w → Drawn s w h (across_at s w h n) (down_at s w h n)
drawn-by w h n true e most =
    let lt = ltb-true w h e in
    record { wide-most = turns-most h w most; tall-most = most; passes = turns-within (omega arith) most }
drawn-by w h n false e most = record { wide-most = most; tall-most = turns-most w h most; passes = turns-within (ltb-false w h e) most }

-- and there is no other
record Found (s : Bool) (w h k r n : ℕ) : Type 0 where
  small : n ≤ cond s h w
  across-is : across_at s w h n ≡ k
  down_is : down_at s w h n ≡ r

found-by : (w h k r : ℕ) (s : Bool) → ltb w h ≡ s → k ≤ w → r ≤ h → Passes s w h k r → Found s w h k r (cond s r k)
found-by w h k r true e hk hr p =
    let lt = ltb-true w h e in
    record { small = hr; across-is = within-turns (omega arith) hr hk p; down_is = refl }
found-by w h k r false e hk hr p = record { small = hk; across-is = refl; down_is = within-turns (ltb-false w h e) hk hr p }

-- rows go on
down-mono : (w h : ℕ) {m n : ℕ} (s : Bool) → m ≤ n → down_at s w h m ≤ down_at s w h n
down-mono w h true le = le
down-mono w h false le = turns-mono w h le

-- ---- the members of the list

pub record Value (f : ℕ → Point) (m k : ℕ) (q : Point) : Type 0 where
  pub index : ℕ
  pub from : m ≤ index
  pub small : index < m + k
  pub is : q ≡ f index

pub value_of : (f : ℕ → Point) (m k : ℕ) {q : Point} → Memᴰ q (values_from f m k) → Value f m k q
unfolding values_from
value_of f m zero i = absurd (Memᴰ.not-nil i)
value_of f m (suc k) i =
    ⊎_elim
    (λ e. record { index = m; from = le_refl m; small = omega arith; is = e })
    (λ j. let v = value_of f (suc m) k j in record { index = v.index; from = omega (arith, v.from); small = omega (arith, v.small); is = v.is })
    (Memᴰ.cases_cons i)

value-at : (f : ℕ → Point) (m k n : ℕ) → m ≤ n → n < m + k → Memᴰ (f n) (values_from f m k)
unfolding values_from
value-at f m zero n low high = absurd (omega arith)
value-at f m (suc k) n low high =
    ⊎_elim (λ le. Memᴰ.head (ap f (omega arith))) (λ lt. Memᴰ.tail (value-at f (suc m) k n lt (omega arith))) (le-or-lt n m)

pub record Pixel (l : Line) (q : Point) : Type 0 where
  pub columns : ℕ
  pub rows : ℕ
  pub wide-most : columns ≤ wide l
  pub tall-most : rows ≤ tall l
  pub is : q ≡ pixel_at l columns rows
  pub passes : Passes (steep l) (wide l) (tall l) columns rows

module _ (l : Line) where
  pub pixel-of : {q : Point} → Memᴰ q (line_points l) → Pixel l q
  unfolding point_at
  pixel-of {q} m =
      let v = value_of (point_at l) 0 (suc (longer (delta l))) (rw (line-points l) at m) in
      let w = drawn-by (wide l) (tall l) v.index (steep l) refl (omega (arith, v.small)) in
      record { columns = _; rows = _; wide-most = w.wide-most; tall-most = w.tall-most; is = v.is; passes = w.passes }

  pub pixel-on : {k r : ℕ} → k ≤ wide l → r ≤ tall l → Passes (steep l) (wide l) (tall l) k r → Memᴰ (pixel_at l k r) (line_points l)
  unfolding point_at
  pixel-on {k} {r} hk hr p =
      let w = found-by (wide l) (tall l) k r (steep l) refl hk hr p in
      rw (line-points l) (Memᴰ.cast (cc) (value-at (point_at l) 0 (suc (longer (delta l))) (cond (steep l) r k) (omega arith) (omega (arith, w.small))))

  -- points between two on one row are on it
  pub level : {i j n : ℕ} → i ≤ j → j ≤ n → (point_at l i).y ≡ (point_at l n).y → (point_at l j).y ≡ (point_at l i).y
  unfolding point_at
  level {i} {j} {n} low high e =
      let same = same-steps l.start.y (delta l).y e in
      ap (steps_from l.start.y (delta l).y) (omega (arith, down-mono (wide l) (tall l) (steep l) low, down-mono (wide l) (tall l) (steep l) high))

-- ---- a line's points lie in the box of its ends

pub line-columns : (l : Line) {q : Point} → Memᴰ q (line_points l) → Between l.start.x l.end.x q.x
unfolding delta minus
line-columns l m = let p = pixel-of l m in rw p.is (steps-between l.start.x l.end.x p.wide-most)

pub line-rows : (l : Line) {q : Point} → Memᴰ q (line_points l) → Between l.start.y l.end.y q.y
unfolding delta minus
line-rows l m = let p = pixel-of l m in rw p.is (steps-between l.start.y l.end.y p.tall-most)
