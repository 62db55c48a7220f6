-- An array of runs that a loop fills from the front, and the runs that are left of a board. Assumes nothing.
use mathlib.Core.Path.{◌≡◌, ap}
use mathlib.Core.Bool.{true, false}
use mathlib.Core.List.{List, [], ◌∷◌, ◌++◌, append_assoc}
use Prim.Native.Nat.{ℕ, ◌+◌, ◌-◌, ◌≤◌, ◌<◌}
use native.Mathlib.Omega.{arith}
use lib.ListN.{length, take, drop, set, replicate, length-take, length-drop, take-append-drop}
use lib.Seq.{take_at, drop_at, length-take-le}
use lib.Signed.{lt_z}
use Rattle.std.proofs.lemmas.List.{drop-replicate}
use Rattle.shapes.specs.Limits.{board_runs}
use Rattle.board.specs.declared.Run.{Run}
use Rattle.board.specs.declared.Board.{Board}
use Rattle.board.specs.Runs.{no_run, joined, with_run}
use Rattle.board.specs.Boards.{live, padded}
use Rattle.board.specs.Fronts.{Filling}
use Rattle.board.proofs.Arrays.{fill-turn, fill-rest, at_place}

-- ---- how many runs a board has

pub live-long : (b : Board) → b.count ≤ length b.runs → length (live b) ≡ b.count
unfolding live
live-long b = length-take-le b.count b.runs

pub live-few : (b : Board) → length (live b) ≤ b.count
unfolding live
live-few b = omega (arith, length-take b.count b.runs)

-- ---- what one more run makes of them

module _ (r : Run) {ps : List Run} where
  pub with_none : ps ≡ [] → with_run r ps ≡ r ∷ ps
  unfolding with_run
  with_none next = rw next

  module _ {q : Run} {qs : List Run} (next : ps ≡ q ∷ qs) where
    pub with-after : lt_z r.end q.start ≡ true → with_run r ps ≡ r ∷ ps
    unfolding with_run
    with-after e = rw (next, e)

    pub with-before : lt_z r.end q.start ≡ false → lt_z q.end r.start ≡ true → with_run r ps ≡ q ∷ with_run r qs
    unfolding with_run
    with-before e f = rw (next, e, f)

    pub with-touching : lt_z r.end q.start ≡ false → lt_z q.end r.start ≡ false → with_run r ps ≡ with_run (joined r q) qs
    unfolding with_run
    with-touching e f = rw (next, e, f)

-- ---- an array filled from the front

module _ {runs rest all : List Run} {count : ℕ} where
  pub filling-turn : {r : Run} → Filling runs count (r ∷ rest) all → count < board_runs → Filling (set runs count r) (count + 1) rest all
  filling-turn {r} f h =
      let p = at_place all rest count r f.left in
      record {
        array = rw f.array (fill-turn board_runs no_run all rest count r h f.left);
        place = omega arith;
        left = fill-rest all rest count r f.left;
      }

  pub filling-length : Filling runs count rest all → length all ≡ count + length rest
  filling-length f = let e = ap length f.left in omega (arith, length-drop count all, f.place)

  -- what stands in the array, and then what is left
  pub filling-all : Filling runs count rest all → take count runs ++ rest ≡ all
  filling-all f =
      let front = take_at (take count all) (replicate (board_runs - count) no_run) count (length-take-le count all f.place) in
      rw (f.array, front, ← f.left) (take-append-drop count all)

-- k runs are left, which are put behind those that stand there
pub filling-last : {runs rest all : List Run} {count k : ℕ} → Filling runs count rest all → k ≡ length rest
    → take count runs ++ (rest ++ drop k (drop count runs)) ≡ padded all
unfolding padded
filling-last {runs} {rest} {all} {count} {k} f e =
    let long = length-take-le count all f.place in
    let free : drop count runs ≡ replicate (board_runs - count) no_run = rw f.array (drop_at (take count all) (replicate (board_runs - count) no_run) count long) in
    let size : board_runs - count - k ≡ board_runs - length all = omega (arith, filling-length f) in
    rw (free, drop-replicate k (board_runs - count) no_run, size, ← append_assoc, filling-all f)
