-- 5 is no refusal of a stroke. Assumes nothing.
use mathlib.Core.Logic.{◌≢◌}
use mathlib.Core.Bool.{Bool, true, false, cond}
use Prim.Native.Nat.{ℕ}
use native.Mathlib.Omega.{arith}
use lib.IntN.{ℤ}
use Rattle.shapes.specs.Strokes.{is_thin, stroke_refusal}

stroke-by : (t u : Bool) → let n : ℕ = cond t (cond u 0 4) 3 in n ≢ 5
stroke-by true true e = omega (arith, e)
stroke-by true false e = omega (arith, e)
stroke-by false u e = omega (arith, e)

pub stroke-below : (w : ℤ) (near : Bool) → stroke_refusal w near ≢ 5
unfolding stroke_refusal
stroke-below w near = stroke-by (is_thin w) near
