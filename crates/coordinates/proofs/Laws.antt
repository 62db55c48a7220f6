-- What a route's list and width are refused with: each number exactly when it is the first of 01's table that holds, and then K6's 12.
-- Assumes nothing.
use mathlib.Core.Path.{◌≡◌, refl, sym, ◌∙◌}
use mathlib.Core.Logic.{◌↔◌, ◌≢◌, ◌⊎◌, inl, inr, ⊎_elim}
use mathlib.Core.Bool.{Bool, true, false, ◌&&◌, cond}
use mathlib.Core.List.{List}
use Prim.Native.Nat.{ℕ, ◌*◌, ◌<◌, ◌≤◌}
use native.Mathlib.Omega.{arith}
use lib.Dec.{eqb, ltb}
use lib.IntN.{ℤ}
use lib.ListN.{length}
use Rattle.whole.proofs.Tests.{and-iff, or-iff, ltb_iff, eqb-iff, else-false, never, bad-first, bad-later, good-first, good-later}
use Rattle.shapes.specs.Limits.{route_points}
use Rattle.shapes.specs.Refusals.{or_else}
use Rattle.shapes.specs.Strokes.{Thin, is_thin, stroke_refusal}
use Rattle.shapes.proofs.Choices.{or-zero}
use Rattle.shapes.proofs.Widths.{thin-iff, stroke-else}
use Rattle.coordinates.specs.Points.{point_at, point_count}
use Rattle.coordinates.specs.Neighbours.{is_doubled, Doubled}
use Rattle.coordinates.specs.Refusal.{is_odd, is_miscounted, are_within, route_refusal, AllWithin, Accepted}
use Rattle.coordinates.proofs.Lists.{count-within, within-exactly}
use Rattle.coordinates.proofs.Neighbours.{doubled-exactly}

-- a number is left over
abbrev pub Odd : List ℤ → Type 0
Odd cs = 2 * point_count cs < length cs

-- more than 256 points, or a closed route of one
abbrev pub Miscounted : Bool → ℕ → Type 0
Miscounted closed n = (route_points < n) ⊎ ((closed ≡ true) × (n ≡ 1))

odd-exactly : (cs : List ℤ) → (is_odd cs ≡ true) ↔ Odd cs
unfolding is_odd
odd-exactly cs = ltb_iff (2 * point_count cs) (length cs)

miscounted-exactly : (closed : Bool) (n : ℕ) → (is_miscounted closed n ≡ true) ↔ Miscounted closed n
unfolding is_miscounted
miscounted-exactly closed n = or-iff (ltb route_points n) (closed && eqb n 1) (ltb_iff route_points n) (and-iff closed (eqb n 1) (λ e. e, λ e. e) (eqb-iff n 1))

module _ (k : ℕ) (closed : Bool) (cs : List ℤ) (w : ℤ) where
  abbrev n : ℕ
  n = route_refusal k closed cs w

  abbrev Sound : Type 0
  Sound = (Odd cs → ⊥) × ((Miscounted closed (point_count cs) → ⊥) × (Thin w × (AllWithin k cs × (Doubled closed cs → ⊥))))

  -- ---- the chain, test by test

  abbrev stroke : ℕ
  stroke = stroke_refusal w (are_within k cs)

  abbrev last : ℕ
  last = cond (is_doubled closed cs) 12 0

  -- 3, 4 and 12, where the list has a sound length
  abbrev rest : ℕ
  rest = cond (is_thin w) (cond (are_within k cs) last 4) 3

  chain : n ≡ cond (is_odd cs) 1 (cond (is_miscounted closed (point_count cs)) 2 rest)
  unfolding route_refusal
  chain = rw (stroke-else w (are_within k cs) last)

  rest-never : {m : ℕ} → 0 < m → m ≢ 3 → m ≢ 4 → m ≢ 12 → rest ≡ m → ⊥
  rest-never some three four twelve =
      never (is_thin w)
      (never (are_within k cs) (never (is_doubled closed cs) (λ e. twelve (sym e)) (λ e. omega (arith, some, e))) (λ e. four (sym e)))
      (λ e. three (sym e))

  after-odd : {Q : Type 0} {m : ℕ} → (1 ≡ m → ⊥) → (cond (is_miscounted closed (point_count cs)) 2 rest ≡ m) ↔ Q → (n ≡ m) ↔ ((Odd cs → ⊥) × Q)
  after-odd one q = rw chain (bad-later (is_odd cs) (odd-exactly cs) one q)

  after-count : {Q : Type 0} {m : ℕ} → (1 ≡ m → ⊥) → (2 ≡ m → ⊥) → (rest ≡ m) ↔ Q → (n ≡ m) ↔ ((Odd cs → ⊥) × ((Miscounted closed (point_count cs) → ⊥) × Q))
  after-count one two q = after-odd one (bad-later (is_miscounted closed (point_count cs)) (miscounted-exactly closed (point_count cs)) two q)

  after-width : {Q : Type 0} {m : ℕ} → (1 ≡ m → ⊥) → (2 ≡ m → ⊥) → (3 ≡ m → ⊥) → (cond (are_within k cs) last 4 ≡ m) ↔ Q
      → (n ≡ m) ↔ ((Odd cs → ⊥) × ((Miscounted closed (point_count cs) → ⊥) × (Thin w × Q)))
  after-width one two three q = after-count one two (good-later (is_thin w) (thin-iff w) three q)

  -- ---- each number

  pub refused-1 : (n ≡ 1) ↔ Odd cs
  refused-1 =
      rw chain
      (bad-first (is_odd cs) (odd-exactly cs)
      (never (is_miscounted closed (point_count cs)) (λ e. omega arith) (rest-never (omega arith) (λ e. omega arith) (λ e. omega arith) (λ e. omega arith))))

  pub refused-2 : (n ≡ 2) ↔ ((Odd cs → ⊥) × Miscounted closed (point_count cs))
  refused-2 =
      after-odd (λ e. omega arith)
      (bad-first (is_miscounted closed (point_count cs)) (miscounted-exactly closed (point_count cs)) (rest-never (omega arith) (λ e. omega arith) (λ e. omega arith) (λ e. omega arith)))

  pub refused-3 : (n ≡ 3) ↔ ((Odd cs → ⊥) × ((Miscounted closed (point_count cs) → ⊥) × (Thin w → ⊥)))
  refused-3 =
      after-count (λ e. omega arith) (λ e. omega arith)
      (good-first (is_thin w) (thin-iff w) (never (are_within k cs) (never (is_doubled closed cs) (λ e. omega arith) (λ e. omega arith)) (λ e. omega arith)))

  pub refused-4 : (n ≡ 4) ↔ ((Odd cs → ⊥) × ((Miscounted closed (point_count cs) → ⊥) × (Thin w × (AllWithin k cs → ⊥))))
  refused-4 =
      after-width (λ e. omega arith) (λ e. omega arith) (λ e. omega arith)
      (good-first (are_within k cs) (within-exactly k cs) (never (is_doubled closed cs) (λ e. omega arith) (λ e. omega arith)))

  -- K6: 1 to 4 do not apply, and two consecutive points are equal
  pub refused-12 : (n ≡ 12) ↔ ((Odd cs → ⊥) × ((Miscounted closed (point_count cs) → ⊥) × (Thin w × (AllWithin k cs × Doubled closed cs))))
  refused-12 =
      after-width (λ e. omega arith) (λ e. omega arith) (λ e. omega arith)
      (good-later (are_within k cs) (within-exactly k cs) (λ e. omega arith) (bad-first (is_doubled closed cs) (doubled-exactly cs closed) (λ e. omega arith)))

  -- no other number is given
  pub refused-most : {m : ℕ} → 4 < m → m ≢ 12 → n ≡ m → ⊥
  refused-most high twelve =
      rw chain
      (never (is_odd cs) (λ e. omega (arith, e))
      (never (is_miscounted closed (point_count cs)) (λ e. omega (arith, e)) (rest-never (omega arith) (λ e. omega (arith, e)) (λ e. omega (arith, e)) twelve)))

  not-refused : (n ≡ 0) ↔ Sound
  not-refused =
      after-width (λ e. omega arith) (λ e. omega arith) (λ e. omega arith)
      (good-later (are_within k cs) (within-exactly k cs) (λ e. omega arith) (good-first (is_doubled closed cs) (doubled-exactly cs closed) (λ e. omega arith)))

  not-above : {m limit : ℕ} → (limit < m → ⊥) → m ≤ limit
  not-above h = omega (arith, h)

  sound-accepted : Sound → Accepted k closed cs w
  sound-accepted (even, (counted, (thin, (near, single)))) =
      record {
        paired = omega (arith, count-within cs, even);
        few = not-above (λ many. counted (inl many));
        several = λ e one. counted (inr (e, one));
        thin = thin;
        near = near;
        single = single;
      }

  -- nothing refuses the list and the width exactly when they are as the table has them
  pub accepted-exactly : (n ≡ 0) ↔ Accepted k closed cs w
  accepted-exactly = (
    λ e. sound-accepted (not-refused.0 e),
    λ a. not-refused.1 (λ odd. omega (arith, a.paired), (λ m. ⊎_elim (λ many. omega (arith, a.few)) (λ one. a.several one.0 one.1) m, (a.thin, (a.near, a.single)))),
  )

  -- ---- K6 beside 01

  -- 01's chain, which has no 12
  abbrev pub up_to_four : ℕ
  up_to_four = cond (is_odd cs) 1 (cond (is_miscounted closed (point_count cs)) 2 stroke)

  -- 12 is tested on what 1 to 4 let through
  pub let_through : n ≡ or_else up_to_four last
  unfolding route_refusal
  let_through = by (is_odd cs) (is_miscounted closed (point_count cs))
    where
      by : (t u : Bool) → cond t 1 (cond u 2 (or_else stroke last)) ≡ or_else (cond t 1 (cond u 2 stroke)) last
      by true u = refl
      by false true = refl
      by false false = refl

  -- so where no two consecutive points are equal, the number is what it was
  pub as_before : (Doubled closed cs → ⊥) → n ≡ up_to_four
  as_before single =
      let none = else-false (is_doubled closed cs) (λ e. single ((doubled-exactly cs closed).0 e)) in
      let_through ∙ rw none (or-zero up_to_four)

  -- and where two are, the list is refused: nothing is asked after it
  pub doubled-refused : Doubled closed cs → n ≢ 0
  doubled-refused doubled e = (accepted-exactly.0 e).single doubled

  -- a route of no point or of one is never refused with 12
  pub few-never : point_count cs ≤ 1 → n ≡ 12 → ⊥
  few-never few e =
      let h = refused-12.0 e in
      ⊎_elim (λ r. omega (arith, r.followed)) (λ r. h.1.0 (inr (r.0, omega (arith, r.1.some)))) h.1.1.1.1

  -- two equal points are, open or closed
  pub pair-refused : length cs ≡ 4 → point_at cs 0 ≡ point_at cs 1 → Thin w → AllWithin k cs → n ≡ 12
  unfolding point_count
  pair-refused four equal thin near =
      let two : point_count cs ≡ 2 = omega (arith, four) in
      refused-12.1 (
        λ odd. omega (arith, four, two),
        (
          λ m. ⊎_elim (λ many. omega (arith, two)) (λ one. omega (arith, two, one.1)) m,
          (thin, (near, inl (record { place = 0; followed = omega (arith, two); equal = equal }))),
        ),
      )
