-- The parallels of a line and their counts: both sides go as the counts say. Assumes nothing.
use mathlib.Core.Path.{◌≡◌, refl, ◌∙◌}
use mathlib.Core.Bool.{Bool, true, false, cond}
use Prim.Native.Nat.{ℕ, ◌+◌, ◌*◌}
use native.Mathlib.Omega.{arith}
use borrow.Author.Tests.{ltb-true, ltb-false, leb-true, leb-false}
use lib.IntN.{ℤ, pos, neg_ℤ, ◌+ℤ◌, ◌-ℤ◌}
use lib.Signed.{lt_z, le_z}
use Rattle.whole.proofs.Linear.{linear, sum, diff, opp}
use Rattle.whole.proofs.Orders.{ordered}
use Rattle.whole.proofs.Ring.{◌⊕◌, ◌⊖◌, ◌⊗◌, ◌≈◌, ring}
use Rattle.shapes.specs.declared.Point.{Point}
use Rattle.shapes.specs.declared.Side.{Side}
use Rattle.shapes.specs.declared.Side.TheVariants.{Left, Right}
use Rattle.shapes.specs.Shape.{plus, minus, dot_product}
use Rattle.bresenham.specs.declared.Parameters.{Parameters}
use Rattle.bresenham.specs.declared.Bresenham.{Bresenham}
use Rattle.bresenham.specs.declared.Met.{Met}
use Rattle.bresenham.specs.Walk.{place_of, next_all, previous_all, increased, decreased}
use Rattle.parallels.specs.declared.Plan.{Plan}
use Rattle.parallels.specs.declared.Flank.{Flank}
use Rattle.parallels.specs.declared.Taken.{Taken}
use Rattle.parallels.specs.Parallels.{across, due, falls, bent, normal_turn, extra_turn, turn_of, next_parallel, Sound, Steady}
use Rattle.parallels.proofs.Steps.{turned}
use Rattle.skeletons.specs.Treads.{Tread, Trod, tread_of, due_at, kept_at, trod_by, trod}
use Rattle.skeletons.proofs.Outward.{outward}

-- ---- a plan by its numbers: a and b, and steps across of one pixel along the axes

pub record Gauged (p : Parameters) (a b : ℕ) : Type 0 where
  pub far : p.threshold ≡ pos a
  pub gains : p.gain ≡ pos (2 * b)
  pub loses : p.loss ≡ pos (2 * a)

pub record Unit (p : Parameters) : Type 0 where
  pub major_unit : dot_product p.major p.major ≡ pos 1
  pub crossed : dot_product p.major p.minor ≡ pos 0
  pub crossed-back : dot_product p.minor p.major ≡ pos 0
  pub minor_unit : dot_product p.minor p.minor ≡ pos 1

pub record Measured (plan : Plan) (a b : ℕ) : Type 0 where
  pub across-is : Gauged plan.perpendicular a b
  pub along-is : Gauged plan.parallel a b
  pub steps : Unit plan.perpendicular

-- a falling error, turned round
abbrev pub upward : Bool → ℤ → ℤ
upward true z = neg_ℤ z
upward false z = z

-- a point is n steps along the major axis from o, and e along the minor one
pub record Strode (plan : Plan) (o : Point) (side : Side) (p : Point) (n e : ℕ) : Type 0 where
  pub major : outward side (dot_product plan.perpendicular.major (minus p o)) ≡ pos n
  pub minor : outward side (dot_product plan.perpendicular.minor (minus p o)) ≡ pos e

-- a side stands where its counts say, with both errors that they make: its own, and that with which its parallels begin
pub record Stands (plan : Plan) (a b : ℕ) (o : Point) (side : Side) (f : Flank) (t : Tread) : Type 0 where
  pub strode : Strode plan o side f.at.point t.n t.e
  pub error : outward side f.at.error ≡ pos (2 * b * t.n) -ℤ pos (2 * a * t.e)
  pub kept : upward (falls plan.flip side) f.error ≡ pos (2 * b * t.e) -ℤ pos (2 * a * t.k)

-- ---- one step more

dot-plus : (u p m o : Point) → dot_product u (minus (plus p m) o) ≡ dot_product u (minus p o) +ℤ dot_product u m
unfolding dot_product minus plus
dot-plus u p m o =
    ring 8 (λ x y p q m n v w. x ⊗ (p ⊕ m ⊖ v) ⊕ y ⊗ (q ⊕ n ⊖ w) ≈ (x ⊗ (p ⊖ v) ⊕ y ⊗ (q ⊖ w)) ⊕ (x ⊗ m ⊕ y ⊗ n)) refl u.x u.y p.x p.y m.x m.y o.x o.y

dot-minus : (u p m o : Point) → dot_product u (minus (minus p m) o) ≡ dot_product u (minus p o) -ℤ dot_product u m
unfolding dot_product minus
dot-minus u p m o =
    ring 8 (λ x y p q m n v w. x ⊗ (p ⊖ m ⊖ v) ⊕ y ⊗ (q ⊖ n ⊖ w) ≈ (x ⊗ (p ⊖ v) ⊕ y ⊗ (q ⊖ w)) ⊖ (x ⊗ m ⊕ y ⊗ n)) refl u.x u.y p.x p.y m.x m.y o.x o.y

-- a number that is farther from 0 on a side, or nearer
abbrev farther : Side → ℤ → ℤ → ℤ
farther Left z d = z +ℤ d
farther Right z d = z -ℤ d

abbrev nearer : Side → ℤ → ℤ → ℤ
nearer Left z d = z -ℤ d
nearer Right z d = z +ℤ d

-- forward on the left, back on the right
abbrev went : Side → Point → Point → Point
went Left p u = plus p u
went Right p u = minus p u

moved : (side : Side) (c u p o : Point) (n d : ℕ) → outward side (dot_product c (minus p o)) ≡ pos n → dot_product c u ≡ pos d → outward side (dot_product c (minus (went side p u) o)) ≡ pos (n + d)
moved Left c u p o n d at by = dot-plus c p u o ∙ omega (linear, sum (dot_product c (minus p o)) (dot_product c u))
moved Right c u p o n d at by =
    let v = dot_product c (minus p o) in
    rw (dot-minus c p u o) (omega (linear, diff v (dot_product c u), opp v, opp (v -ℤ dot_product c u)))

module _ {plan : Plan} {a b : ℕ} (m : Measured plan a b) (o : Point) (side : Side) where
  abbrev q : Parameters
  q = plan.perpendicular

  on-major : {p : Point} {n e : ℕ} → Strode plan o side p n e → Strode plan o side (went side p q.major) (n + 1) e
  on-major {p} {n} {e} s =
      let none : e + 0 ≡ e = omega arith in
      record { major = moved side q.major q.major p o n 1 s.major m.steps.major_unit; minor = rw none at (moved side q.minor q.major p o e 0 s.minor m.steps.crossed-back) }

  on-minor : {p : Point} {n e : ℕ} → Strode plan o side p n e → Strode plan o side (went side p q.minor) n (e + 1)
  on-minor {p} {n} {e} s =
      let none : n + 0 ≡ n = omega arith in
      record { major = rw none at (moved side q.major q.minor p o n 0 s.major m.steps.crossed); minor = moved side q.minor q.minor p o e 1 s.minor m.steps.minor_unit }

-- ---- when a step is due, and when an Extra point is handed out

module _ {p : Parameters} {a b : ℕ} (m : Gauged p a b) where
  due-by : (side : Side) (z : ℤ) (n e : ℕ) (x : Bool) → outward side z ≡ pos (2 * b * n) -ℤ pos (2 * a * e) → due_at a b side n e ≡ x → due p side z ≡ x
  due-by Left z n e true h t = omega (ordered, ltb-true, m, diff (pos (2 * b * n)) (pos (2 * a * e)))
  due-by Left z n e false h t = omega (ordered, ltb-false, m, diff (pos (2 * b * n)) (pos (2 * a * e)))
  due-by Right z n e true h t = omega (ordered, leb-true, m, opp z, opp p.threshold, diff (pos (2 * b * n)) (pos (2 * a * e)))
  due-by Right z n e false h t = omega (ordered, leb-false, m, opp z, opp p.threshold, diff (pos (2 * b * n)) (pos (2 * a * e)))

  -- the error after an Extra point: it carried, or it did not
  abbrev Bends : Bool → Bool → ℤ → ℕ → ℕ → Type 0
  Bends falling x z e k = ((bent p falling z).carry ≡ x) × (upward falling (bent p falling z).error ≡ pos (2 * b * (e + 1)) -ℤ pos (2 * a * (k + cond x 1 0)))

  bent-by : (falling x : Bool) (z : ℤ) (e k : ℕ) → upward falling z ≡ pos (2 * b * e) -ℤ pos (2 * a * k) → kept_at a b falling e k ≡ x → Bends falling x z e k
  unfolding bent increased decreased
  bent-by true true z e k h t =
      let was = diff (pos (2 * b * e)) (pos (2 * a * k)) in
      let less = diff z p.gain in
      let test : le_z (z -ℤ p.gain) (neg_ℤ p.threshold) ≡ true = omega (ordered, leb-true, m, opp z, opp p.threshold) in
      (rw test, rw test (omega (linear, m, opp z, sum (z -ℤ p.gain) p.loss, opp (z -ℤ p.gain +ℤ p.loss), diff (pos (2 * b * (e + 1))) (pos (2 * a * (k + 1))))))
  bent-by true false z e k h t =
      let was = diff (pos (2 * b * e)) (pos (2 * a * k)) in
      let less = diff z p.gain in
      let test : le_z (z -ℤ p.gain) (neg_ℤ p.threshold) ≡ false = omega (ordered, leb-false, m, opp z, opp p.threshold) in
      (rw test, rw test (omega (linear, m, opp z, opp (z -ℤ p.gain), diff (pos (2 * b * (e + 1))) (pos (2 * a * (k + 0))))))
  bent-by false true z e k h t =
      let was = diff (pos (2 * b * e)) (pos (2 * a * k)) in
      let more = sum z p.gain in
      let test : lt_z p.threshold (z +ℤ p.gain) ≡ true = omega (ordered, ltb-true, m) in
      (rw test, rw test (omega (linear, m, diff (z +ℤ p.gain) p.loss, diff (pos (2 * b * (e + 1))) (pos (2 * a * (k + 1))))))
  bent-by false false z e k h t =
      let was = diff (pos (2 * b * e)) (pos (2 * a * k)) in
      let more = sum z p.gain in
      let test : lt_z p.threshold (z +ℤ p.gain) ≡ false = omega (ordered, ltb-false, m) in
      (rw test, rw test (omega (linear, m, diff (pos (2 * b * (e + 1))) (pos (2 * a * (k + 0))))))

  -- the error after a step across
  error-major : (side : Side) (z : ℤ) (n e : ℕ) → outward side z ≡ pos (2 * b * n) -ℤ pos (2 * a * e) → outward side (farther side z p.gain) ≡ pos (2 * b * (n + 1)) -ℤ pos (2 * a * e)
  error-major Left z n e h = omega (linear, m, diff (pos (2 * b * n)) (pos (2 * a * e)), sum z p.gain, diff (pos (2 * b * (n + 1))) (pos (2 * a * e)))
  error-major Right z n e h = omega (linear, m, diff (pos (2 * b * n)) (pos (2 * a * e)), opp z, diff z p.gain, opp (z -ℤ p.gain), diff (pos (2 * b * (n + 1))) (pos (2 * a * e)))

  error-minor : (side : Side) (z : ℤ) (n e : ℕ) → outward side z ≡ pos (2 * b * n) -ℤ pos (2 * a * e) → outward side (nearer side z p.loss) ≡ pos (2 * b * n) -ℤ pos (2 * a * (e + 1))
  error-minor Left z n e h = omega (linear, m, diff (pos (2 * b * n)) (pos (2 * a * e)), diff z p.loss, diff (pos (2 * b * n)) (pos (2 * a * (e + 1))))
  error-minor Right z n e h = omega (linear, m, diff (pos (2 * b * n)) (pos (2 * a * e)), opp z, sum z p.loss, opp (z +ℤ p.loss), diff (pos (2 * b * n)) (pos (2 * a * (e + 1))))

-- ---- one step across a side

-- a Normal one, and an Extra one
abbrev normal_met : Parameters → Side → Bresenham → Met
normal_met p side b = record { point = b.point; extra = false; state = place_of (went side b.point p.major) (farther side b.error p.gain) }

abbrev extra_met : Parameters → Side → Bresenham → Met
extra_met p side b = record { point = b.point; extra = true; state = place_of (went side b.point p.minor) (nearer side b.error p.loss) }

across-normal : (p : Parameters) (side : Side) (b : Bresenham) → due p side b.error ≡ false → across p side b ≡ normal_met p side b
unfolding next_all previous_all
across-normal p Left b e = rw e
across-normal p Right b e = rw e

across-extra : (p : Parameters) (side : Side) (b : Bresenham) → due p side b.error ≡ true → across p side b ≡ extra_met p side b
unfolding next_all previous_all
across-extra p Left b e = rw e
across-extra p Right b e = rw e

turn-normal : (plan : Plan) (side : Side) (f : Flank) → due plan.perpendicular side f.at.error ≡ false → turn_of plan side f ≡ normal_turn (normal_met plan.perpendicular side f.at) f.error
unfolding turn_of
turn-normal plan side f e = rw (across-normal plan.perpendicular side f.at e)

turn-extra : (plan : Plan) (side : Side) (f : Flank) → due plan.perpendicular side f.at.error ≡ true → turn_of plan side f ≡ extra_turn (extra_met plan.perpendicular side f.at) (bent plan.parallel (falls plan.flip side) f.error)
unfolding turn_of
turn-extra plan side f e = rw (across-extra plan.perpendicular side f.at e)

-- ---- the next parallel of a side

pub record Trodden (plan : Plan) (a b : ℕ) (o : Point) (side : Side) (t : Taken) (r : Trod) : Type 0 where
  pub extra : t.extra ≡ r.mark.extra
  pub strode : Strode plan o side t.start.point r.mark.n r.mark.e
  pub stands : Stands plan a b o side t.flank r.after

module _ {plan : Plan} {a b : ℕ} (m : Measured plan a b) {o : Point} (side : Side) where
  -- a Normal point
  normal-trodden : {f : Flank} {t : Tread} → Stands plan a b o side f t → due plan.perpendicular side f.at.error ≡ false → Trodden plan a b o side (turn_of plan side f).taken (trod_by a b false false t)
  unfolding trod_by
  normal-trodden {f} {t} s e =
      rw (turn-normal plan side f e)
      (record { extra = refl; strode = s.strode; stands = record { strode = on-major m o side s.strode; error = error-major m.across-is side f.at.error t.n t.e s.error; kept = s.kept } })

  -- an Extra one, which is handed out
  extra-trodden : {f : Flank} {t : Tread} → Stands plan a b o side f t → due plan.perpendicular side f.at.error ≡ true → kept_at a b (falls plan.flip side) t.e t.k ≡ true → Trodden plan a b o side (turn_of plan side f).taken (trod_by a b true true t)
  unfolding trod_by
  extra-trodden {f} {t} s e h =
      rw (turn-extra plan side f e)
      (record {
        extra = refl;
        strode = s.strode;
        stands = record { strode = on-minor m o side s.strode; error = error-minor m.across-is side f.at.error t.n t.e s.error; kept = (bent-by m.along-is (falls plan.flip side) true f.error t.e t.k s.kept h).1 };
      })

  -- an Extra one, which is passed over: the next is Normal
  passed-trodden : {w : ℕ} {f : Flank} {t : Tread} → Sound w plan → Steady plan f → Stands plan a b o side f t → due plan.perpendicular side f.at.error ≡ true → kept_at a b (falls plan.flip side) t.e t.k ≡ false
      → Trodden plan a b o side (turn_of plan side (turn_of plan side f).taken.flank).taken (trod_by a b true false t)
  unfolding trod_by
  passed-trodden {f} {t} sound steady s e h =
      let is = turn-extra plan side f e in
      let bends = bent-by m.along-is (falls plan.flip side) false f.error t.e t.k s.kept h in
      let none : t.k + 0 ≡ t.k = omega arith in
      let stands : Stands plan a b o side (turn_of plan side f).taken.flank (tread_of t.n (t.e + 1) t.k) =
      rw is (record { strode = on-minor m o side s.strode; error = error-minor m.across-is side f.at.error t.n t.e s.error; kept = rw none at bends.1 }) in
      normal-trodden stands ((turned sound side steady).passed (rw is bends.0)).1

  pub trodden : {w : ℕ} {f : Flank} {t : Tread} → Sound w plan → Steady plan f → Stands plan a b o side f t → Trodden plan a b o side (next_parallel plan side f) (trod a b side (falls plan.flip side) t)
  unfolding next_parallel trod trod_by
  trodden {w} {f} {t} sound steady s = by (due_at a b side t.n t.e) (kept_at a b (falls plan.flip side) t.e t.k) refl refl
    where
      by : (x y : Bool) → due_at a b side t.n t.e ≡ x → kept_at a b (falls plan.flip side) t.e t.k ≡ y → Trodden plan a b o side (next_parallel plan side f) (trod_by a b x y t)
      by false y ex ey =
          let e = due-by m.across-is side f.at.error t.n t.e false s.error ex in
          let met : (turn_of plan side f).met ≡ true = rw (turn-normal plan side f e) in
          rw met (normal-trodden s e)
      by true true ex ey =
          let e = due-by m.across-is side f.at.error t.n t.e true s.error ex in
          let met : (turn_of plan side f).met ≡ true = rw (turn-extra plan side f e) (bent-by m.along-is (falls plan.flip side) true f.error t.e t.k s.kept ey).0 in
          rw met (extra-trodden s e ey)
      by true false ex ey =
          let e = due-by m.across-is side f.at.error t.n t.e true s.error ex in
          let met : (turn_of plan side f).met ≡ false = rw (turn-extra plan side f e) (bent-by m.along-is (falls plan.flip side) false f.error t.e t.k s.kept ey).0 in
          rw met (passed-trodden sound steady s e ey)
