-- Sound boards: the tests for them, the same for a wider limit, and how far their runs reach. Assumes nothing.
use mathlib.Core.Path.{◌≡◌, refl}
use mathlib.Core.Bool.{true, ◌&&◌}
use mathlib.Core.List.{List, [], ◌∷◌}
use mathlib.Core.Logic.{◌↔◌}
use Prim.Native.Nat.{ℕ, zero, suc, ◌+◌, ◌≤◌, ◌<◌}
use native.Mathlib.Omega.{arith}
use lib.Dec.{leb}
use lib.IntN.{ℤ, pos}
use lib.ListN.{length, get_or}
use lib.Signed.{lt_z, le_z, ◌≤ℤ◌, ◌<ℤ◌, ≤ℤ_refl}
use Rattle.whole.specs.Number.{Within, is_within}
use Rattle.whole.proofs.Bounds.{within_more}
use Rattle.whole.proofs.Laws.{within-iff}
use Rattle.whole.proofs.Linear.{abs-le}
use Rattle.whole.proofs.Orders.{ordered}
use Rattle.whole.proofs.Tests.{and-iff, lt_iff, le_iff, leb-iff}
use Rattle.shapes.specs.Limits.{board_runs, line_limit}
use Rattle.board.specs.declared.Run.{Run}
use Rattle.board.specs.declared.Board.{Board}
use Rattle.board.specs.Runs.{Follows, Ascending, none, then, edge, follows, is_ascending}
use Rattle.board.specs.Boards.{live, Sound, is_sound}

-- ---- the tests

follows-iff : (k : ℕ) (last : ℤ) (r : Run) → (follows k last r ≡ true) ↔ Follows k last r
unfolding follows
follows-iff k last r =
    let more = and-iff (lt_z r.start r.end) (le_z r.end (pos (suc k))) (lt_iff r.start r.end) (le_iff r.end (pos (suc k))) in
    let all = and-iff (lt_z last r.start) (lt_z r.start r.end && le_z r.end (pos (suc k))) (lt_iff last r.start) more in
    (λ e. let h = all.0 e in record { apart = h.0; some = h.1.0; inside = h.1.1 }, λ f. all.1 (f.apart, (f.some, f.inside)))

ascending-iff : (k : ℕ) (last : ℤ) (rs : List Run) → (is_ascending k last rs ≡ true) ↔ Ascending k last rs
unfolding is_ascending
ascending-iff k last [] = (λ _. none, λ _. refl)
ascending-iff k last (r ∷ rs) =
    let both = and-iff (follows k last r) (is_ascending k r.end rs) (follows-iff k last r) (ascending-iff k r.end rs) in
    (λ e. then (both.0 e).0 (both.0 e).1, λ a. both.1 (parts a))
  where
    parts : {k : ℕ} {last : ℤ} {r : Run} {rs : List Run} → Ascending k last (r ∷ rs) → Follows k last r × Ascending k r.end rs
    parts (then f a) = (f, a)

-- 6 is given for a board exactly where this test fails
pub sound-iff : (k : ℕ) (b : Board) → (is_sound k b ≡ true) ↔ Sound k b
unfolding is_sound
sound-iff k b =
    let more = and-iff (is_within k b.row) (is_ascending k (edge k) (live b)) (within-iff k b.row) (ascending-iff k (edge k) (live b)) in
    let all = and-iff (leb b.count board_runs) (is_within k b.row && is_ascending k (edge k) (live b)) (leb-iff b.count board_runs) more in
    (λ e. let h = all.0 e in record { few = h.0; row_near = h.1.0; ascending = h.1.1 }, λ s. all.1 (s.few, (s.row_near, s.ascending)))

-- ---- a wider limit

pub follows-from : {j k : ℕ} {l m : ℤ} {r : Run} → Follows j l r → m <ℤ r.start → j ≤ k → Follows k m r
follows-from f h w = record { apart = h; some = f.some; inside = omega ordered }

pub ascending-from : {j k : ℕ} {l m : ℤ} {rs : List Run} → Ascending j m rs → l ≤ℤ m → j ≤ k → Ascending k l rs
ascending-from none h w = none
ascending-from {l} (then {r} f a) h w = then {last = l} (follows-from f (omega ordered) w) (ascending-from a (≤ℤ_refl r.end) w)

pub sound_more : {j k : ℕ} {b : Board} → Sound j b → j ≤ k → Sound k b
sound_more s w = record { row_near = within_more s.row_near w; few = s.few; ascending = ascending-from s.ascending (omega ordered) w }

-- ---- each run lies inside

pub record Inside (k : ℕ) (r : Run) : Type 0 where
  pub start_near : Within r.start (suc k)
  pub end_near : Within r.end (suc k)

pub inside-at : {k : ℕ} {last : ℤ} {rs : List Run} → Ascending k last rs → edge k ≤ℤ last → (i : ℕ) (d : Run) → i < length rs → Inside k (get_or rs i d)
inside-at none low i d h = absurd (omega arith)
inside-at (then {r} f a) low zero d h =
    record {
      start_near = record { bound = abs-le r.start (omega ordered) (omega ordered) };
      end_near = record { bound = abs-le r.end (omega ordered) (omega ordered) };
    }
inside-at (then f a) low (suc i) d h = inside-at a (omega ordered) i d (omega arith)

-- the largest length of a run
abbrev pub longest : ℕ
longest = suc line_limit + suc line_limit
