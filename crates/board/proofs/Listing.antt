-- The numbers of runs, start and end of each in turn. Assumes nothing.
use mathlib.Core.Path.{◌≡◌, refl, ◌∙◌}
use mathlib.Core.List.{List, [], ◌∷◌}
use Prim.Native.Nat.{ℕ, zero, suc, ◌+◌, ◌*◌, ◌<◌}
use native.Mathlib.Omega.{arith}
use lib.IntN.{ℤ}
use lib.ListN.{length, drop, set}
use Rattle.board.specs.declared.Run.{Run}
use Rattle.board.specs.Runs.{flat}
use Rattle.board.proofs.Arrays.{pasted, paste-turn, fill-rest}

pub flat-length : (rs : List Run) → length (flat rs) ≡ 2 * length rs
unfolding flat
flat-length [] = refl
flat-length (r ∷ rs) = omega (arith, flat-length rs)

-- what is left of the numbers are those of the runs that are left
flat-drop : (rs : List Run) (i : ℕ) → drop (2 * i) (flat rs) ≡ flat (drop i rs)
unfolding flat
flat-drop rs zero = refl
flat-drop [] (suc i) = let two : 2 * suc i ≡ suc (suc (2 * i)) = omega arith in rw two
flat-drop (r ∷ rs) (suc i) = let two : 2 * suc i ≡ suc (suc (2 * i)) = omega arith in rw two (flat-drop rs i)

-- the two numbers of one run more
pub flat-turn : (rs rest : List Run) (out : List ℤ) (i : ℕ) (r : Run) → 2 * i + 1 < length out → drop i rs ≡ r ∷ rest
    → set (set (pasted (flat rs) out (2 * i)) (2 * i) r.start) (2 * i + 1) r.end ≡ pasted (flat rs) out (2 * (i + 1))
unfolding flat
flat-turn rs rest out i r h e =
    let two : 2 * (i + 1) ≡ 2 * i + 1 + 1 = omega arith in
    let here : drop (2 * i) (flat rs) ≡ r.start ∷ r.end ∷ flat rest = flat-drop rs i ∙ rw e in
    let then = fill-rest (flat rs) (r.end ∷ flat rest) (2 * i) r.start here in
    rw (two, paste-turn (flat rs) out (r.end ∷ flat rest) (2 * i) r.start (omega arith) here) (paste-turn (flat rs) out (flat rest) (2 * i + 1) r.end h then)
