-- Where an inequality does not do, computing shows that the edges of a leg keep apart near its start: at widths from 3 to 10 for larger deltas up to 8, but for
-- 2 and 1 at width 6, and from 11 to 64 for 2 and 1. Assumes nothing.
use mathlib.Core.Path.{◌≡◌, refl}
use mathlib.Core.Bool.{Bool, true, false, ◌&&◌, ◌||◌}
use Prim.Native.Nat.{ℕ, ◌+◌, ◌-◌, ◌*◌, ◌/◌, ◌≤◌, ◌<◌}
use native.Mathlib.Omega.{arith}
use borrow.Author.Tests.{ne_eqb}
use lib.Dec.{ltb, eqb}
use Rattle.whole.specs.Places.{all_from}
use Rattle.whole.proofs.Places.{all-exactly}
use Rattle.whole.proofs.Tests.{and_left, and_right}
use Rattle.skeletons.specs.Treads.{Mark, Arrived, trod, trod_by, stepped, march, marched}
use Rattle.skeletons.proofs.Apart.{gap_of}

-- a test of a Normal edge n and e steps out on the one side, and an Extra one p and f on the other
abbrev pub Test : Type 0
Test = ℕ → ℕ → ℕ → ℕ → Bool

-- such two pass it, on whichever sides they are; any other two pass
abbrev sided : Test → Bool → Bool → Mark → Mark → Bool
sided test false false l r = true
sided test false true l r = test l.n l.e r.n r.e
sided test true false l r = test r.n r.e l.n l.e
sided test true true l r = true

unfoldable pub passes : Test → Arrived → Bool
passes test r = sided test r.left.extra r.right.extra r.left r.right

-- ---- the deltas being b + 1 and b + c + 1

-- the one leg whose edges do come to one square near its start, where `flip` is true (Finishes.antt)
abbrev pub is_excepted : ℕ → ℕ → ℕ → Bool
is_excepted b c w = eqb b 0 && eqb c 1 && eqb w 6

-- `flip` being false, and true
unfoldable pub both_pass : Test → ℕ → ℕ → ℕ → Bool
both_pass test b c w = passes test (marched (b + c + 1) (b + 1) false w) && (is_excepted b c w || passes test (marched (b + c + 1) (b + 1) true w))

pub pass-by : (test : Test) (b c w : ℕ) (flip : Bool) → (flip ≡ true → is_excepted b c w ≡ false) → both_pass test b c w ≡ true → passes test (marched (b + c + 1) (b + 1) flip w) ≡ true
unfolding both_pass
pass-by test b c w false unless h = and_left (passes test (marched (b + c + 1) (b + 1) false w)) (is_excepted b c w || passes test (marched (b + c + 1) (b + 1) true w)) h
pass-by test b c w true unless h = rw (unless refl) at (and_right (passes test (marched (b + c + 1) (b + 1) false w)) (is_excepted b c w || passes test (marched (b + c + 1) (b + 1) true w)) h)

-- the gap is too wide; what x adds is what the edges are nearer at an end
abbrev pub by_gap : ℕ → ℕ → ℕ → ℕ → Test
by_gap b c w x n e p f = ltb (2 * (b + c) * (b + c + b + 1) + (b + c + b) + 2 * c * (2 * w + f) + x) (2 * (b + c) * gap_of (b + c + 1) (b + 1) n e p f)

-- the Extra edge lies along an axis, and comes to the other beyond the miter's reach
abbrev pub by_axis : ℕ → ℕ → ℕ → Test
by_axis b c w n e p f = let far = (c + 1) * (n + p) + e - (c + 2) / 2 in eqb b 0 && ltb (2 * w * (2 * w)) (p * p + far * far)

abbrev pub keeps : ℕ → ℕ → ℕ → Test
keeps b c w n e p f = by_gap b c w 0 n e p f || by_axis b c w n e p f

-- widths from 3 to 10, and from 11 to 64
few-kept : all_from (λ b. all_from (λ c. all_from (λ v. eqb (b + c) 0 || both_pass (keeps b c (3 + v)) b c (3 + v)) 0 8) 0 (8 - b)) 0 8 ≡ true
unfolding all_from both_pass passes marched march stepped trod trod_by
few-kept = refl

many-kept : all_from (λ v. both_pass (keeps 0 1 (11 + v)) 0 1 (11 + v)) 0 54 ≡ true
unfolding all_from both_pass passes marched march stepped trod trod_by
many-kept = refl

pub few-keep : (b c w : ℕ) (flip : Bool) → 1 ≤ b + c → b + c < 8 → 3 ≤ w → w ≤ 10 → (flip ≡ true → is_excepted b c w ≡ false) → passes (keeps b c w) (marched (b + c + 1) (b + 1) flip w) ≡ true
few-keep b c w flip some small three ten unless =
    let is : 3 + (w - 3) ≡ w = omega arith in
    let none : eqb (b + c) 0 ≡ false = ne_eqb (b + c) 0 (λ z. omega arith) in
    let all = (all-exactly _ (8 - b)).0 ((all-exactly _ 8).0 few-kept b (omega arith)) c (omega arith) in
    pass-by (keeps b c w) b c w flip unless (rw (none, is) at ((all-exactly _ 8).0 all (w - 3) (omega arith)))

pub many-keep : (b c w : ℕ) (flip : Bool) → b ≡ 0 → c ≡ 1 → 11 ≤ w → w ≤ 64 → passes (keeps b c w) (marched (b + c + 1) (b + 1) flip w) ≡ true
many-keep b c w flip zero one eleven most =
    let is : 11 + (w - 11) ≡ w = omega arith in
    let other : is_excepted 0 1 w ≡ false = ne_eqb w 6 (λ z. omega arith) in
    rw (zero, one) (pass-by (keeps 0 1 w) 0 1 w flip (λ _. other) (rw is at ((all-exactly _ 54).0 many-kept (w - 11) (omega arith))))
