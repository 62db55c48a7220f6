-- Two edges of which one is Extra do not come together within a miter's reach: what the numbers say of it. Assumes nothing.
use mathlib.Core.Path.{◌≡◌, ap}
use mathlib.Core.Logic.{◌⊎◌, ⊎_elim}
use Prim.Native.Nat.{ℕ, ◌+◌, ◌-◌, ◌*◌, ◌≤◌, ◌<◌}
use native.Mathlib.Nat.{mul-le-mul, mul-le-mul_left, mul-le-mul_right, le_of_mul-le-mul_left}
use native.Mathlib.Omega.{arith}
use Rattle.whole.proofs.Linear.{le-or-lt}
use Rattle.whole.proofs.Squares.{two-squares}

-- a sum whose square is above the threshold
long-sum : (a b w s : ℕ) → 2 * w * (2 * w) * (a * a + b * b) < s * s → 2 * w * (4 * a + 3 * b) ≤ 5 * s
long-sum a b w s over =
    let x = 2 * w * (4 * a + 3 * b) in
    ⊎_elim (λ low. low)
    (λ high.
    let short : 5 * s ≤ x = omega arith in
    absurd (omega (arith, over, mul-le-mul {n₁ = 5 * s} {m₁ = 5 * s} {n₂ = x} {m₂ = x} short short, mul-le-mul_left {m = (4 * a + 3 * b) * (4 * a + 3 * b)} {n = 25 * (a * a + b * b)} (2 * w * (2 * w)) (omega (arith, two-squares (3 * a) (4 * b))))))
    (le-or-lt x (5 * s))

-- steps along the minor axis, c being the larger delta less the smaller
few-late : (b c n e g : ℕ) → 1 ≤ c + b → (c + b) * e ≤ b * n → (c + b) * n ≤ g → 4 * c * e ≤ g
few-late b c n e g some late way =
    le_of_mul-le-mul_left {k = c + b}
    (omega (arith, mul-le-mul_left (4 * c) late, mul-le-mul_right {m = 4 * c * b} {n = (c + b) * (c + b)} n (omega (arith, two-squares c b)), mul-le-mul_left (c + b) way))
    some

-- ---- deltas b + 1 and b + c + 1: a gap that the accumulator pays for is too wide for two edges to come together, where `Many` holds. What x
-- adds is what the edges of a leg are nearer at its end

module _ (b c w : ℕ) where
  -- the gap is as wide as the width asks for
  abbrev pub Wide : ℕ → Type 0
  Wide g = 2 * w * (4 * (b + c + 1) + 3 * (b + 1)) ≤ 10 * g + 5 * (b + c + 1) + 15 * (b + 1)

  module _ (x : ℕ) where
    -- the edges come together e + 2w from where they start, along the minor axis
    abbrev pub Close : ℕ → ℕ → Type 0
    Close g e = 2 * (b + c) * g ≤ 2 * (b + c) * (b + c + b + 1) + (b + c + b) + 2 * c * (2 * w + e) + x

    -- the deltas and the width are large enough
    abbrev Many : Type 0
    Many = 160 * b * b + 220 * b * c + 60 * c * c + 140 * b + 135 * c + w * (32 * c + 14) + 20 * x < w * (56 * b * b + 88 * b * c + 42 * b + 32 * c * c) + 20

    never : (g e : ℕ) → 1 ≤ b + c → Many → 4 * c * e ≤ g → Wide g → Close g e → ⊥
    never g e some many late wide close =
        let q = 4 * (b + c) - 1 in
        let is : q + 1 ≡ 4 * (b + c) = omega arith in
        let times : (m : ℕ) → (q + 1) * m ≡ 4 * (b + c) * m = λ m. ap (λ n. n * m) is in
        omega (arith, close, late, mul-le-mul_left q wide, times g, times w, times (w * b), times (w * c), times b, times c)

-- what one more of width adds to both sides of it
more-wide : (b c v : ℕ) → 32 * c + 14 ≤ 56 * b * b + 88 * b * c + 42 * b + 32 * c * c → v * (32 * c + 14) ≤ v * (56 * b * b + 88 * b * c + 42 * b + 32 * c * c)
more-wide b c v h = mul-le-mul_left {m = 32 * c + 14} {n = 56 * b * b + 88 * b * c + 42 * b + 32 * c * c} v h

-- from width 3 on, for larger deltas of 9 or more
pub never-long : (b c v g e : ℕ) → 8 ≤ b + c → 4 * c * e ≤ g → Wide b c (3 + v) g → Close b c (3 + v) 0 g e → ⊥
never-long b c v g e long =
    let b-long = mul-le-mul_right b long in
    let c-long = mul-le-mul_right c long in
    never b c (3 + v) 0 g e (omega arith) (omega (arith, more-wide b c v (omega arith)))

-- from width 11 on, for all but 2 and 1
pub never-wide : (b c v g e : ℕ) → (1 ≤ b) ⊎ (2 ≤ c) → 4 * c * e ≤ g → Wide b c (11 + v) g → Close b c (11 + v) 0 g e → ⊥
never-wide b c v g e =
    ⊎_elim
    (λ some.
    let b-more = mul-le-mul_right b some in
    let c-more = mul-le-mul_right c some in
    never b c (11 + v) 0 g e (omega arith) (omega (arith, more-wide b c v (omega arith))))
    (λ two. let c-more = mul-le-mul_right c two in never b c (11 + v) 0 g e (omega arith) (omega (arith, more-wide b c v (omega arith))))

-- at width 6 also at the end of a leg, for larger deltas of 6 or more
pub never-ended : (b c g e : ℕ) → 5 ≤ b + c → 4 * c * e ≤ g → Wide b c 6 g → Close b c 6 (2 * c * (b + c + 1)) g e → ⊥
never-ended b c g e long = never b c 6 (2 * c * (b + c + 1)) g e (omega arith) (omega (arith, mul-le-mul_right b long, mul-le-mul_right c long))

-- ---- what the accumulator pays for with one Extra edge, and where its step is due

pub wide_of : (b c w s g : ℕ) → 2 * w * (2 * w) * ((b + c + 1) * (b + c + 1) + (b + 1) * (b + 1)) < s * s → s + (b + c + 1) ≤ 2 * (g + (b + c + 1) + (b + 1)) + (b + 1) → Wide b c w g
wide_of b c w s g over paid = omega (arith, long-sum (b + c + 1) (b + 1) w s over)

pub late_of : (b c n e g : ℕ) → 2 * (b + c + 1) * e + (b + c + 1) ≤ 2 * (b + 1) * n → (b + c + 1) * n ≤ g → 4 * c * e ≤ g
late_of b c n e g late way = few-late (b + 1) c n e g (omega arith) (omega arith) (omega arith)

-- two Extra edges are as far apart as two Normal ones
pub extra-wide : (b c n e : ℕ) → 1 ≤ b + c → 2 ≤ n → b + c + 1 + (b + 1) < (b + c + 1) * n + (b + 1) * e → (b + c + 1) * n + (b + 1) * e + 2 ≤ b + c + 1 + (b + 1) + (n + e) → ⊥
extra-wide b c n e some two wide close =
    let more = mul-le-mul_left (b + c) two in
    ⊎_elim (λ three. omega (arith, mul-le-mul_left b three)) (λ few. omega arith) (le-or-lt 3 (n + e))
