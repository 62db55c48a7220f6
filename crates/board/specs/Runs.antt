-- 01, "The board": the runs of a row as a list, the columns that they light, and what one more run makes of them.
use Rattle.std.specs.Prelude.{Bool, true, false, cond, ◌&&◌, ◌||◌, List, [], ◌∷◌, ℕ, suc, ℤ, pos, negsuc, ◌+ℤ◌, ◌-ℤ◌, ◌≤ℤ◌, ◌<ℤ◌}
use Rattle.std.specs.Int.Signed.{lt_z, le_z}
use Rattle.whole.specs.Number.{lesser, greater}
use Rattle.whole.specs.Columns.{between}
use Rattle.board.specs.declared.Run.{Run}

abbrev pub run_of : ℤ → ℤ → Run
run_of s e = record { start = s; end = e }

-- what stands in an array where there is no run
abbrev pub no_run : Run
no_run = run_of (pos 0) (pos 0)

-- ---- the columns of runs

-- "start, end not included"
abbrev pub in_run : Run → ℤ → Bool
in_run r x = between r.start r.end x

-- the column x lies in one of the runs
unfoldable pub lit : List Run → ℤ → Bool
lit [] x = false
lit (r ∷ rs) x = in_run r x || lit rs x

-- "their total": the lengths of the runs, added up
unfoldable pub total : List Run → ℤ
total [] = pos 0
total (r ∷ rs) = (r.end -ℤ r.start) +ℤ total rs

-- ---- "ascending with a dark column between", none empty, all inside the columns -k to k

-- r comes after the column `last`, which stays dark
pub record Follows (k : ℕ) (last : ℤ) (r : Run) : Type 0 where
  pub apart : last <ℤ r.start
  pub some : r.start <ℤ r.end
  pub inside : r.end ≤ℤ pos (suc k)

pub data Ascending (k : ℕ) : ℤ → List Run → Type 0 where
  none : {last : ℤ} → Ascending k last []
  then : {last : ℤ} {r : Run} {rs : List Run} → Follows k last r → Ascending k r.end rs → Ascending k last (r ∷ rs)

-- the column before the first of all, after which the first run comes
abbrev pub edge : ℕ → ℤ
edge k = negsuc k

-- the tests for that
unfoldable pub follows : ℕ → ℤ → Run → Bool
follows k last r = lt_z last r.start && (lt_z r.start r.end && le_z r.end (pos (suc k)))

unfoldable pub is_ascending : ℕ → ℤ → List Run → Bool
is_ascending k last [] = true
is_ascending k last (r ∷ rs) = follows k last r && is_ascending k r.end rs

-- ---- one more run

-- what two runs become that touch or overlap
unfoldable pub joined : Run → Run → Run
joined a b = run_of (lesser a.start b.start) (greater a.end b.end)

-- A run that comes after r, with a dark column between, stays, and so do all that follow it. A run that ends before r, with
-- a dark column between, stays. Any other touches or overlaps r, and joins with it.
unfoldable pub with_run : Run → List Run → List Run
with_run r [] = r ∷ []
with_run r (q ∷ qs) =
    cond (lt_z r.end q.start) (r ∷ q ∷ qs) (cond (lt_z q.end r.start) (q ∷ with_run r qs) (with_run (joined r q) qs))

-- ---- a listing

-- "start and end of each in turn"
unfoldable pub flat : List Run → List ℤ
flat [] = []
flat (r ∷ rs) = r.start ∷ r.end ∷ flat rs
