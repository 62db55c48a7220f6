-- The parallels of a line, without the code: what each of them keeps, that they end, and how far they get. Assumes nothing.
use mathlib.Core.Path.{◌≡◌, refl, ap}
use mathlib.Core.Bool.{Bool, true, false, cond}
use mathlib.Core.List.{[], ◌∷◌}
use lib.ListN.{length}
use Prim.Native.Nat.{ℕ, zero, suc, ◌+◌, ◌*◌, ◌≤◌, ◌<◌}
use native.Mathlib.Nat.{le_refl, le_trans, mul-le-mul}
use native.Mathlib.Omega.{arith}
use lib.IntN.{ℤ, pos, nat_abs, ◌+ℤ◌, ◌*ℤ◌}
use lib.Signed.{lt_z, ◌≤ℤ◌}
use Rattle.whole.proofs.Linear.{linear, sum, times, abs-parts}
use Rattle.whole.proofs.Steps.{parts, square-is, square_le, quotient-most, payment-step, payment-most}
use Rattle.shapes.specs.declared.Point.{Point}
use Rattle.shapes.specs.declared.Side.{Side}
use Rattle.shapes.specs.declared.Side.TheVariants.{Left, Right}
use Rattle.parallels.specs.declared.Plan.{Plan}
use Rattle.parallels.specs.declared.Flank.{Flank}
use Rattle.parallels.specs.declared.Parallels.{Parallels}
use Rattle.parallels.specs.declared.Taken.{Taken}
use Rattle.parallels.specs.Parallels.{due, owed, flank_at, sided, swapped, followed, next_parallel, is_done, grown, yield_of, parallels_from, spare, parallels}
use Rattle.parallels.specs.Parallels.{delta_limit, larger, Sound, Paid, Going}
use Rattle.parallels.proofs.Steps.{Away, away-more, owed-least, Took, took}

-- ---- where a parallel follows, the accumulator is small

pub larger-small : {w : ℕ} {plan : Plan} → Sound w plan → (1 ≤ larger plan) × (larger plan ≤ delta_limit)
larger-small {plan} s =
    let fair = s.across_fair in
    let a = parts {z = plan.perpendicular.threshold} (omega linear) in
    (omega linear, omega linear)

module _ (w : ℕ) (plan : Plan) (h : Sound w plan) (acc : ℤ) (some : pos 1 ≤ℤ acc) (e : lt_z plan.threshold (acc *ℤ acc) ≡ false) where
  square-small : nat_abs acc * nat_abs acc ≤ nat_abs plan.threshold
  square-small =
      let test = rw (square-is acc) at e in
      omega (linear, parts h.not_negative)

  follows-below : nat_abs acc ≤ nat_abs plan.threshold
  follows-below =
      let one : 1 ≤ nat_abs acc = omega (linear, abs-parts acc) in
      omega (arith, square-small, mul-le-mul {n₁ = 1} {m₁ = nat_abs acc} one (le_refl (nat_abs acc)))

  follows-most : nat_abs acc ≤ 4 * w * larger plan
  follows-most = square_le (nat_abs acc) (4 * w * larger plan) (le_trans square-small h.threshold_most)

-- ---- the accumulator after a parallel

pub record Grown (plan : Plan) (acc : ℤ) (extra : Bool) : Type 0 where
  pub some : pos 1 ≤ℤ grown plan acc extra
  pub more : nat_abs acc + 1 ≤ nat_abs (grown plan acc extra)
  pub least : nat_abs acc + cond extra 0 2 * larger plan ≤ nat_abs (grown plan acc extra)
  pub most : nat_abs (grown plan acc extra) ≤ nat_abs acc + 2 * larger plan

pub grew : {w : ℕ} {plan : Plan} {acc : ℤ} (extra : Bool) → Sound w plan → pos 1 ≤ℤ acc → (extra ≡ true → pos 1 ≤ℤ plan.perpendicular.gain) → Grown plan acc extra
unfolding grown
grew {plan} {acc} true h some grows =
    let p = plan.perpendicular in
    let fair = h.across_fair in
    let gain = grows refl in
    let after = sum acc p.gain in
    omega (linear, times 2 p.threshold, parts {z = acc} (omega linear), parts {z = p.threshold} (omega linear), parts {z = acc +ℤ p.gain} (omega linear))
grew {plan} {acc} false h some grows =
    let p = plan.perpendicular in
    let fair = h.across_fair in
    let after = sum acc p.loss in
    let twice = times 2 p.threshold in
    omega (linear, parts {z = acc} (omega linear), parts {z = p.threshold} (omega linear), parts {z = acc +ℤ p.loss} (omega linear))

-- ---- one parallel keeps what holds of a state

-- at most so far from the line's start, in each axis
abbrev pub shift : ℕ → ℕ
shift w = 4 * w + 1

paid-more : {o : Point} {plan : Plan} {acc after : ℤ} {side : Side} {f : Flank} → nat_abs acc ≤ nat_abs after → Paid o plan acc side f → Paid o plan after side f
paid-more h p = record { steady = p.steady; far = p.far; reach = p.reach; paid = omega arith }

paid-took : {o : Point} {plan : Plan} {acc : ℤ} {side : Side} {f : Flank} {t : Taken} → Took plan side f t → Grown plan acc t.extra → Paid o plan acc side f → Paid o plan (grown plan acc t.extra) side t.flank
paid-took {plan} {acc} {t} v g p = record { steady = v.steady; far = p.far + cond t.extra 0 2; reach = v.reach p.reach; paid = omega (arith, g.least, p.paid) }

-- both sides of a state, by the one and the other
-- the side that a state was made of, and the other one
pub this-flank : (side next : Side) (this other : Flank) (acc : ℤ) → flank_at side (sided side this other acc next) ≡ this
this-flank Left next this other acc = refl
this-flank Right next this other acc = refl

pub other-flank : (side next : Side) (this other : Flank) (acc : ℤ) → flank_at (swapped side) (sided side this other acc next) ≡ other
other-flank Left next this other acc = refl
other-flank Right next this other acc = refl

pub sided-paid : {o : Point} {plan : Plan} {acc : ℤ} {this other : Flank} (side next : Side) → Paid o plan acc side this → Paid o plan acc (swapped side) other → (x : Side) → Paid o plan acc x (flank_at x (sided side this other acc next))
sided-paid Left next p q Left = p
sided-paid Left next p q Right = q
sided-paid Right next p q Left = q
sided-paid Right next p q Right = p

module _ (w : ℕ) (plan : Plan) (h : Sound w plan) (o : Point) where
  -- the next parallel of the side that is next
  abbrev taken : Parallels → Taken
  taken s = next_parallel plan s.side (flank_at s.side s)

  pub yield-took : (s : Parallels) → Going w plan o s → Took plan s.side (flank_at s.side s) (taken s)
  yield-took s g = took h s.side (g.paid s.side).steady

  yield-grown : (s : Parallels) → Going w plan o s → Grown plan s.accumulator (taken s).extra
  yield-grown s g = grew (taken s).extra h g.some (yield-took s g).grows

  pub going_next : (s : Parallels) → Going w plan o s → is_done plan s ≡ false → Going w plan o (yield_of plan s).state
  unfolding yield_of is_done
  going_next s g e =
      let r = yield-grown s g in
      let small = follows-most w plan h s.accumulator g.some e in
      record {
        some = r.some;
        most = omega (arith, r.most);
        paid = sided-paid s.side (followed plan.offset s.side) (paid-took (yield-took s g) r (g.paid s.side)) (paid-more (omega (arith, r.more)) (g.paid (swapped s.side)));
      }

  -- ---- the parallels end

  pub spare-next : (s : Parallels) → Going w plan o s → is_done plan s ≡ false → spare plan (yield_of plan s).state < spare plan s
  unfolding yield_of spare is_done
  spare-next s g e = omega (arith, (yield-grown s g).more, follows-below w plan h s.accumulator g.some e)

  -- so many or more are all
  enough-by : (n m : ℕ) (s : Parallels) (t : Bool) → is_done plan s ≡ t → Going w plan o s → spare plan s ≤ n → spare plan s ≤ m → parallels_from n plan s ≡ parallels_from m plan s
  unfolding parallels_from
  enough-by zero zero s t e g p q = refl
  enough-by zero (suc m) s true e g p q = rw e refl
  enough-by (suc n) zero s true e g p q = rw e refl
  enough-by (suc n) (suc m) s true e g p q = rw e refl
  enough-by zero (suc m) s false e g p q = absurd (omega (arith, spare-next s g e))
  enough-by (suc n) zero s false e g p q = absurd (omega (arith, spare-next s g e))
  enough-by (suc n) (suc m) s false e g p q =
      let less = spare-next s g e in
      let s₁ = (yield_of plan s).state in
      rw e (ap (λ l. (yield_of plan s).parallel ∷ l) (enough-by n m s₁ (is_done plan s₁) refl (going_next s g e) (omega arith) (omega arith)))

  pub enough : (n m : ℕ) (s : Parallels) → Going w plan o s → spare plan s ≤ n → spare plan s ≤ m → parallels_from n plan s ≡ parallels_from m plan s
  enough n m s g p q = enough-by n m s (is_done plan s) refl g p q

  -- ---- the parallels from a state, one turn of them

  turn_by : (n : ℕ) (s : Parallels) → n ≡ spare plan s → Going w plan o s → is_done plan s ≡ false → parallels_from n plan s ≡ (yield_of plan s).parallel ∷ parallels plan (yield_of plan s).state
  unfolding parallels_from parallels
  turn_by zero s k g e = absurd (omega (arith, spare-next s g e))
  turn_by (suc n) s k g e =
      let less = spare-next s g e in
      let s₁ = (yield_of plan s).state in
      rw e (ap (λ l. (yield_of plan s).parallel ∷ l) (enough n (spare plan s₁) s₁ (going_next s g e) (omega arith) (le_refl (spare plan s₁))))

  pub parallels-turn : (s : Parallels) → Going w plan o s → is_done plan s ≡ false → parallels plan s ≡ (yield_of plan s).parallel ∷ parallels plan (yield_of plan s).state
  unfolding parallels
  parallels-turn s g e = turn_by (spare plan s) s refl g e

  -- ---- how far a parallel is from the line's start

  pub yield-away : (s : Parallels) → Going w plan o s → is_done plan s ≡ false → Away o (shift w) (yield_of plan s).parallel.start.point
  unfolding is_done yield_of
  yield-away s g e =
      let p = g.paid s.side in
      let small = follows-most w plan h s.accumulator g.some e in
      away-more ((yield-took s g).away p.reach) (quotient-most (larger plan) p.far w (nat_abs s.accumulator) (larger-small h).0 p.paid small)

  -- ---- how many follow

  abbrev debt : Parallels → ℕ
  debt s = owed plan.perpendicular Left s.left.at.error + owed plan.perpendicular Right s.right.at.error

  -- a step takes as much off as it adds
  debt-by : (side next : Side) (s : Parallels) (t : Taken) (acc : ℤ) → Took plan side (flank_at side s) t → debt (sided side t.flank (flank_at (swapped side) s) acc next) + 1 ≤ debt s + cond t.extra 0 2
  debt-by Left next s t acc v = omega (arith, v.spent)
  debt-by Right next s t acc v = omega (arith, v.spent)

  yield-debt : (s : Parallels) → Going w plan o s → debt (yield_of plan s).state + 1 ≤ debt s + cond (taken s).extra 0 2
  unfolding yield_of
  yield-debt s g = debt-by s.side (followed plan.offset s.side) s (taken s) s.accumulator (yield-took s g)

  yield-least : (s : Parallels) → Going w plan o s → nat_abs s.accumulator + cond (taken s).extra 0 2 * larger plan ≤ nat_abs (yield_of plan s).state.accumulator
  unfolding yield_of
  yield-least s g = (yield-grown s g).least

  abbrev left_over : ℕ
  left_over = 4 * w * larger plan + 2 * larger plan

  most-by : (n : ℕ) (s : Parallels) (t : Bool) → is_done plan s ≡ t → Going w plan o s → larger plan * length (parallels_from n plan s) + nat_abs s.accumulator ≤ left_over + larger plan * debt s
  unfolding parallels_from
  most-by zero s t e g = omega (arith, g.most)
  most-by (suc n) s true e g = rw e (omega (arith, g.most))
  most-by (suc n) s false e g =
      let s₁ = (yield_of plan s).state in
      let rest = most-by n s₁ (is_done plan s₁) refl (going_next s g e) in
      rw e (payment-step (larger plan) (length (parallels_from n plan s₁)) (nat_abs s.accumulator) (nat_abs s₁.accumulator) (debt s) (debt s₁) (cond (taken s).extra 0 2) left_over rest (yield-least s g) (yield-debt s g))

  -- at most 4w + 4 parallels follow
  pub parallels-most : (s : Parallels) → Going w plan o s → length (parallels plan s) ≤ 4 * w + 4
  unfolding parallels
  parallels-most s g =
      let p = plan.perpendicular in
      let two : debt s ≤ 2 = omega (arith, owed-least (due p Left s.left.at.error), owed-least (due p Right s.right.at.error)) in
      payment-most (larger plan) (length (parallels_from (spare plan s) plan s)) w (nat_abs s.accumulator) (debt s) (larger-small h).0 two (most-by (spare plan s) s (is_done plan s) refl g)

end_by : (n : ℕ) (plan : Plan) (s : Parallels) → is_done plan s ≡ true → parallels_from n plan s ≡ []
unfolding parallels_from
end_by zero plan s e = refl
end_by (suc n) plan s e = rw e refl

pub parallels-end : (plan : Plan) (s : Parallels) → is_done plan s ≡ true → parallels plan s ≡ []
unfolding parallels
parallels-end plan s e = end_by (spare plan s) plan s e

-- ---- width 0: none follows

zero-by : {plan : Plan} {o : Point} (s : Parallels) (t : Bool) → is_done plan s ≡ t → Sound 0 plan → Going 0 plan o s → t ≡ true
unfolding is_done
zero-by s true e h g = refl
zero-by {plan} s false e h g = absurd (omega (linear, follows-most 0 plan h s.accumulator g.some e, parts {z = s.accumulator} (omega linear)))

pub done-at-zero : {plan : Plan} {o : Point} (s : Parallels) → Sound 0 plan → Going 0 plan o s → is_done plan s ≡ true
done-at-zero {plan} s h g = zero-by s (is_done plan s) refl h g
