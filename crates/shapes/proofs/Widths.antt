-- A stroke's width, and its refusals, each exactly when. Assumes nothing.
use mathlib.Core.Path.{◌≡◌, refl}
use mathlib.Core.Logic.{◌↔◌}
use mathlib.Core.Bool.{Bool, true, false, cond}
use Prim.Native.Nat.{ℕ}
use native.Mathlib.Omega.{arith}
use lib.IntN.{ℤ, pos}
use lib.Signed.{le_z}
use mir.Syntax.{w64}
use mir.Val.{to_z, of_z}
use Rattle.whole.specs.Number.{Within}
use Rattle.whole.proofs.Linear.{linear, abs-le}
use Rattle.whole.proofs.Machine.{Hold, hold}
use Rattle.whole.proofs.Tests.{and-iff, le_iff, never, bad-first, good-first, good-later}
use Rattle.shapes.specs.Limits.{width_limit}
use Rattle.shapes.specs.Refusals.{or_else}
use Rattle.shapes.specs.Strokes.{Thin, is_thin, stroke_refusal}

-- ---- widths

pub thin-iff : (w : ℤ) → (is_thin w ≡ true) ↔ Thin w
unfolding is_thin
thin-iff w =
    let both = and-iff (le_z (pos 0) w) (le_z w (pos width_limit)) (le_iff (pos 0) w) (le_iff w (pos width_limit)) in
    (λ e. record { low = (both.0 e).0; high = (both.0 e).1 }, λ h. both.1 (h.low, h.high))

pub thin-within : {w : ℤ} → Thin w → Within w width_limit
thin-within {w} h = record { bound = abs-le w (omega (linear, h.low, h.high)) (omega (linear, h.low, h.high)) }

-- a width in its bits
pub thin-held : {w : ℤ} → Thin w → Hold (of_z w64 w) w width_limit
thin-held h = hold (thin-within h) tt

pub thin-back : {w : ℤ} → Thin w → Thin (to_z w64 (of_z w64 w))
thin-back h = rw (thin-held h).is h

-- ---- refusals: each exactly when it is the first that holds, where P says that the coordinates are near

module _ (w : ℤ) {near : Bool} {P : Type 0} (exactly : (near ≡ true) ↔ P) where
  pub stroke-three : (stroke_refusal w near ≡ 3) ↔ (Thin w → ⊥)
  unfolding stroke_refusal
  stroke-three = good-first (is_thin w) (thin-iff w) (never near (λ e. omega arith) (λ e. omega arith))

  pub stroke-four : (stroke_refusal w near ≡ 4) ↔ (Thin w × (P → ⊥))
  unfolding stroke_refusal
  stroke-four = good-later (is_thin w) (thin-iff w) (λ e. omega arith) (good-first near exactly (λ e. omega arith))

  pub stroke-none : (stroke_refusal w near ≡ 0) ↔ (Thin w × P)
  unfolding stroke_refusal
  stroke-none = good-later (is_thin w) (thin-iff w) (λ e. omega arith) (bad-first near exactly (λ e. omega arith))

-- 3, then 4, then whatever is tested after them
pub stroke-else : (w : ℤ) (near : Bool) (later : ℕ) → or_else (stroke_refusal w near) later ≡ cond (is_thin w) (cond near later 4) 3
unfolding stroke_refusal
stroke-else w near later = by (is_thin w) near
  where
    by : (t u : Bool) → or_else (cond t (cond u 0 4) 3) later ≡ cond t (cond u later 4) 3
    by true true = refl
    by true false = refl
    by false u = refl
