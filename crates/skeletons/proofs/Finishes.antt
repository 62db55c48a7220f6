-- At width 6 a leg of 2 and 1 may have both edges in one square near its start. Then the leg before it has not, near its end. Assumes nothing.
use mathlib.Core.Path.{◌≡◌, refl, sym, ap, ◌∙◌}
use mathlib.Core.Logic.{◌⊎◌, ⊎_elim}
use mathlib.Core.Bool.{Bool, true, false, ◌&&◌, ◌||◌, false≢true}
use Prim.Native.Nat.{ℕ, ◌+◌, ◌-◌, ◌*◌, ◌≤◌, ◌<◌}
use native.Mathlib.Omega.{arith}
use borrow.Author.Tests.{ltb-true, eqb-true, ne_eqb}
use lib.Dec.{eqb}
use lib.IntN.{ℤ, pos, nat_abs, neg_ℤ, ◌+ℤ◌, ◌-ℤ◌}
use Rattle.whole.specs.Places.{all_from}
use Rattle.whole.proofs.Linear.{diff, abs-parts, le-or-lt}
use Rattle.whole.proofs.Places.{all-exactly}
use Rattle.whole.proofs.Steps.{one-or, square_le}
use Rattle.whole.proofs.Tests.{and_left, and_right}
use Rattle.skeletons.specs.Treads.{mark_of, trod, trod_by, stepped, march, marched}
use Rattle.skeletons.proofs.Apart.{gap_of}
use Rattle.skeletons.proofs.Distances.{Wide, Close, never-ended}
use Rattle.skeletons.proofs.Sights.{Reached, Normal, Extra, Sighted, normal, extra}
use Rattle.skeletons.proofs.Small.{Test, passes, is_excepted, both_pass, pass-by, by_gap}
use Rattle.skeletons.proofs.Starts.{closes, Parted, none-together}
use Rattle.skeletons.proofs.Together.{along-axis}

-- where the edges of that leg come together: 3 steps along the one axis, and 10 or more along the other
pub record Spot (x y : ℤ) : Type 0 where
  pub three : nat_abs x ≡ 3
  pub ten : 10 ≤ nat_abs y

pub excepted-start : (x y : ℤ) → Sighted 2 1 x y (pos 0) (mark_of 2 1 false) → Sighted 2 1 (neg_ℤ x) (neg_ℤ y) (pos 0) (mark_of 3 1 true) → Spot x y
excepted-start x y (extra wrong h) k = absurd (false≢true wrong)
excepted-start x y (normal t h) (normal wrong k) = absurd (false≢true (sym wrong))
excepted-start x y (normal t h) (extra u k) =
    let a = along-axis 1 2 1 3 1 x y (pos 0) (omega arith) h k in
    record { three = ap nat_abs a.at; ten = omega (arith, a.far, abs-parts y, abs-parts (y -ℤ pos 1 -ℤ pos 10), diff y (pos 1), diff (y -ℤ pos 1) (pos 10)) }

-- ---- the leg before it, seen from its end

-- the edges of a leg are nearer at its end
abbrev keeps_end : ℕ → ℕ → Test
keeps_end b c n e p f = by_gap b c 6 (2 * c * (b + c + 1)) n e p f

ends-kept : all_from (λ b. all_from (λ c. eqb (b + c) 0 || both_pass (keeps_end b c) b c 6) 0 (5 - b)) 0 5 ≡ true
unfolding all_from both_pass passes marched march stepped trod trod_by
ends-kept = refl

end-keep : (b c : ℕ) (flip : Bool) → 1 ≤ b + c → b + c < 5 → (flip ≡ true → is_excepted b c 6 ≡ false) → passes (keeps_end b c) (marched (b + c + 1) (b + 1) flip 6) ≡ true
end-keep b c flip some small unless =
    let none : eqb (b + c) 0 ≡ false = ne_eqb (b + c) 0 (λ z. omega arith) in
    pass-by (keeps_end b c) b c 6 flip unless (rw none at ((all-exactly _ (5 - b)).0 ((all-exactly _ 5).0 ends-kept b (omega arith)) c (omega arith)))

-- a Normal edge and an Extra one
module _ (b c n e p f : ℕ) (x y s : ℤ) (reach : Reached 6 x y) (step : nat_abs s ≡ 1) (h : Normal (b + c + 1) (b + 1) (x -ℤ pos n) (y -ℤ pos e)) (k : Extra (b + c + 1) (b + 1) (neg_ℤ x -ℤ pos p +ℤ s) (neg_ℤ y -ℤ pos f -ℤ s)) where
  abbrev g : ℕ
  g = gap_of (b + c + 1) (b + 1) n e p f

  close-end : Close b c 6 (2 * c * (b + c + 1)) g f
  close-end = let all = rw step at (closes b c 6 n e p f x y s (square_le (nat_abs y) (2 * 6) (omega arith)) h k) in omega arith

  end-no : 4 * c * f ≤ g → Wide b c 6 g → (b + c < 5 → keeps_end b c n e p f ≡ true) → ⊥
  end-no late wide few = ⊎_elim (λ long. never-ended b c g f long late wide close-end) (λ small. let kept = few small in omega (arith, close-end, ltb-true)) (le-or-lt 5 (b + c))

-- that leg itself
excepted-end : (x y s : ℤ) → nat_abs s ≡ 1 → (nat_abs x ≡ 3) ⊎ (10 ≤ nat_abs x) → Sighted 2 1 x y s (mark_of 2 1 false) → Sighted 2 1 (neg_ℤ x) (neg_ℤ y) (neg_ℤ s) (mark_of 3 1 true) → ⊥
excepted-end x y s step where-x (extra wrong h) k = false≢true wrong
excepted-end x y s step where-x (normal t h) (normal wrong k) = false≢true (sym wrong)
excepted-end x y s step where-x (normal t h) (extra u k) =
    let a = along-axis 1 2 1 3 1 x y (neg_ℤ s) (omega arith) h k in
    ⊎_elim
    (λ one. let is : nat_abs x ≡ 4 = ap nat_abs (a.at ∙ ap (λ q. neg_ℤ q -ℤ pos 3) one) in ⊎_elim (λ three. omega arith) (λ far. omega arith) where-x)
    (λ one. let is : nat_abs x ≡ 2 = ap nat_abs (a.at ∙ ap (λ q. neg_ℤ q -ℤ pos 3) one) in ⊎_elim (λ three. omega arith) (λ far. omega arith) where-x)
    (one-or s step)

-- ---- both edges of the leg

module _ (b c : ℕ) (flip : Bool) (x y s : ℤ) (reach : Reached 6 x y) (step : nat_abs s ≡ 1) (some : 1 ≤ b + c) where
  abbrev six : 3 ≤ 6
  six = omega arith

  ends_by : (flip ≡ true → is_excepted b c 6 ≡ false) → Sighted (b + c + 1) (b + 1) x y s (marched (b + c + 1) (b + 1) flip 6).left → Sighted (b + c + 1) (b + 1) (neg_ℤ x) (neg_ℤ y) (neg_ℤ s) (marched (b + c + 1) (b + 1) flip 6).right → ⊥
  ends_by unless = none-together b c 6 flip six x y s some parted
    where
      parted : Parted b c 6 flip x y s
      parted n e p f u v t one u-is v-is t-is h k =
          end-no b c n e p f u v t (rw (u-is, v-is) reach) (t-is ∙ step) h k one.late one.wide (λ small. one.passed (keeps_end b c) (end-keep b c flip some small unless))

pub excepted-is : (b c w : ℕ) → is_excepted b c w ≡ true → (b ≡ 0) × ((c ≡ 1) × (w ≡ 6))
excepted-is b c w h =
    let deltas = and_left (eqb b 0 && eqb c 1) (eqb w 6) h in
    (eqb-true b 0 (and_left (eqb b 0) (eqb c 1) deltas), (eqb-true c 1 (and_right (eqb b 0) (eqb c 1) deltas), eqb-true w 6 (and_right (eqb b 0 && eqb c 1) (eqb w 6) h)))

pub excepted-left : (marched 2 1 true 6).left ≡ mark_of 2 1 false
unfolding marched march stepped trod trod_by
excepted-left = refl

pub excepted-right : (marched 2 1 true 6).right ≡ mark_of 3 1 true
unfolding marched march stepped trod trod_by
excepted-right = refl

pub ends-apart : (b c : ℕ) (flip : Bool) (x y s : ℤ) → Reached 6 x y → nat_abs s ≡ 1 → 1 ≤ b + c → (nat_abs x ≡ 3) ⊎ (10 ≤ nat_abs x)
    → Sighted (b + c + 1) (b + 1) x y s (marched (b + c + 1) (b + 1) flip 6).left → Sighted (b + c + 1) (b + 1) (neg_ℤ x) (neg_ℤ y) (neg_ℤ s) (marched (b + c + 1) (b + 1) flip 6).right → ⊥
ends-apart b c flip x y s reach step some where-x h k = by flip (is_excepted b c 6) refl refl
  where
    by : (u v : Bool) → flip ≡ u → is_excepted b c 6 ≡ v → ⊥
    by false v e o = ends_by b c flip x y s reach step some (λ t. absurd (false≢true (sym e ∙ t))) h k
    by true false e o = ends_by b c flip x y s reach step some (λ t. o) h k
    by true true e o = let is = excepted-is b c 6 o in excepted-end x y s step where-x (rw (is.0, is.1.0, e, excepted-left) at h) (rw (is.0, is.1.0, e, excepted-right) at k)
