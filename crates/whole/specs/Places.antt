-- Places one after another: a test of all of them, of some of them, the first that fails it, and what stands at each.
use Rattle.std.specs.Prelude.{◌≡◌, Bool, true, false, ◌&&◌, ◌||◌, cond, List, [], ◌∷◌, ℕ, zero, suc, ◌+◌, ◌<◌, eqb}

-- `left` places from i on pass the test
unfoldable pub all_from : (ℕ → Bool) → ℕ → ℕ → Bool
all_from test i zero = true
all_from test i (suc left) = test i && all_from test (suc i) left

-- one of `left` places from i on passes it
unfoldable pub some_from : (ℕ → Bool) → ℕ → ℕ → Bool
some_from test i zero = false
some_from test i (suc left) = test i || some_from test (suc i) left

-- a place below n that does
pub record SomePlace (test : ℕ → Bool) (n : ℕ) : Type 0 where
  pub place : ℕ
  pub inside : place < n
  pub passes : test place ≡ true

-- the first of `left` places from i on that fails it; the place behind them where none does
unfoldable pub fails_from : (ℕ → Bool) → ℕ → ℕ → ℕ
fails_from test i zero = i
fails_from test i (suc left) = cond (test i) (fails_from test (suc i) left) i

-- how many from the first on pass it, where `passed` of those before i do: one more where all did and i does
unfoldable pub passed_with : ℕ → ℕ → Bool → ℕ
passed_with passed i t = cond (t && eqb passed i) (i + 1) passed

-- a place below n that fails it, and is the first
pub record FirstFailing (test : ℕ → Bool) (n place : ℕ) : Type 0 where
  pub inside : place < n
  pub fails : test place ≡ false
  pub before : (i : ℕ) → i < place → test i ≡ true

-- what stands at `left` places from i on
unfoldable pub list_from : {A : Type 0} → (ℕ → A) → ℕ → ℕ → List A
list_from at i zero = []
list_from at i (suc left) = at i ∷ list_from at (suc i) left
