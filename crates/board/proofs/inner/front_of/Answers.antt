use mathlib.Core.Path.{◌≡◌}
use mathlib.Core.Bool.{Bool, true, false}
use mathlib.Core.List.{List, ◌∷◌}
use Prim.Native.Nat.{ℕ, ◌+◌, ◌≤◌, ◌<◌}
use native.Mathlib.Omega.{arith}
use borrow.Author.Rules.{rules}
use lib.IntN.{ℤ}
use lib.ListN.{length, get_or, drop, set}
use lib.Signed.{lt_z}
use mir.Syntax.{w64}
use mir.Val.{SFits, to_z, of_z}
use mir.Facts.{to_z-of_z}
use Rattle.shapes.specs.Limits.{board_runs}
use Rattle.board.specs.declared.Run.{Run}
use Rattle.board.specs.declared.inner.Front.{Front}
use Rattle.board.specs.Runs.{no_run, joined, with_run}
use Rattle.board.specs.Fronts.{Filling, Gathered}
use Rattle.board.proofs.Arrays.{left_more, left-none}
use Rattle.board.proofs.Fronts.{live-few, with_none, with-after, with-before, with-touching, filling-turn}
use Rattle.board.proofs.inner.front_of.Goals as goal
use Rattle.board.proofs.inner.front_of.Goals.{then-other-front, else-other-front}

-- the front where the loop is left
module _ (f : Front) (run : Run) (rs : List Run) (i : ℕ) where
  done : f.next ≡ i → f.count ≤ f.next → i ≤ length rs → Filling f.runs f.count (with_run f.run (drop i rs)) (with_run run rs)
      → with_run f.run (drop i rs) ≡ f.run ∷ drop i rs → Gathered f rs (with_run run rs)
  done n fewer h fill e = record { filling = rw n (rw e at fill); fewer = fewer; inside = omega arith }

-- in a turn: the run that is looked at comes first of those that are left, and is held against the grown one
module _ (grown : Run) (rs : List Run) (i : ℕ) (h : i < length rs) where
  abbrev other : Run
  other = get_or rs i no_run

  after : lt_z grown.end other.start ≡ true → with_run grown (drop i rs) ≡ grown ∷ drop i rs
  after e = with-after grown (left_more rs i no_run h) e

  keeps : {runs all : List Run} {count : ℕ} → lt_z grown.end other.start ≡ false → lt_z other.end grown.start ≡ true → count < board_runs
      → Filling runs count (with_run grown (drop i rs)) all → Filling (set runs count other) (count + 1) (with_run grown (drop (i + 1) rs)) all
  keeps e f few fill = filling-turn (rw (with-before grown (left_more rs i no_run h) e f) at fill) few

  joins : {runs all : List Run} {count : ℕ} → lt_z grown.end other.start ≡ false → lt_z other.end grown.start ≡ false
      → Filling runs count (with_run grown (drop i rs)) all → Filling runs count (with_run (joined grown other) (drop (i + 1) rs)) all
  joins e f fill = rw (with-touching grown (left_more rs i no_run h) e f) at fill

-- a test of two numbers, as the machine reads them
read : (a b : ℤ) {t : Bool} → SFits w64 a → SFits w64 b → lt_z (to_z w64 (of_z w64 a)) (to_z w64 (of_z w64 b)) ≡ t → lt_z a b ≡ t
read a b f g e = rw (to_z-of_z f, to_z-of_z g) at e

pub returns-then-front-other : goal.returns-then-front-other
returns-then-front-other c =
    let rs = c.runs_of-other-items.result.now in
    let f = c.loop-other.front in
    let i = c.loop-other.other-index in
    let v = c.loop-other.invariant in
    let first : lt_z f.run.end (get_or rs i no_run).start ≡ true = read f.run.end (get_or rs i no_run).start (search rules) (search rules) c.if-front-other.true in
    rw (← c.runs_of-other-items.ensures) (done f c.args.run rs i v.next v.fewer (omega arith) v.filling (after f.run rs i (omega arith) first))

pub bounds-front-front : goal.bounds-front-front
bounds-front-front c =
    let few : length c.runs_of-other-items.result.now ≤ board_runs = rw c.runs_of-other-items.ensures (omega (arith, live-few c.args.board.now)) in
    let n = c.loop-other.invariant.next in
    let w = c.loop-other.invariant.fewer in
    omega arith

pub loop-other-preserved : goal.loop-other-preserved
loop-other-preserved c =
    let rs = c.runs_of-other-items.result.now in
    let f = c.loop-other.front in
    let i = c.loop-other.other-index in
    let v = c.loop-other.invariant in
    let n = v.next in
    let few : length rs ≤ board_runs = rw c.runs_of-other-items.ensures (omega (arith, live-few c.args.board.now)) in
    let first : lt_z f.run.end (get_or rs i no_run).start ≡ false = read f.run.end (get_or rs i no_run).start (search rules) (search rules) c.if-front-other.false in
    elim c.if-other-front.branch [
      | then-other-front w ↦
          let second : lt_z (get_or rs i no_run).end f.run.start ≡ true = read (get_or rs i no_run).end f.run.start (search rules) (search rules) w.if-other-front.true in
          rw w.front-is (record {
            all = c.runs_of-other-items.ensures;
            next = omega arith;
            fewer = omega (arith, v.fewer);
            filling = keeps f.run rs i (omega arith) first second (omega (arith, v.fewer)) v.filling;
          })
      | else-other-front w ↦
          let second : lt_z (get_or rs i no_run).end f.run.start ≡ false = read (get_or rs i no_run).end f.run.start (search rules) (search rules) w.if-other-front.false in
          rw w.front-is (record {
            all = c.runs_of-other-items.ensures;
            next = omega arith;
            fewer = omega (arith, v.fewer);
            filling = rw w.joined-front.ensures (joins f.run rs i (omega arith) first second v.filling);
          })
    ]

pub returns : goal.returns
returns c =
    let rs = c.runs_of-other-items.result.now in
    let f = c.loop-other.front in
    let v = c.loop-other.invariant in
    rw (← c.runs_of-other-items.ensures) (done f c.args.run rs c.loop-other.other-index v.next v.fewer (omega arith) v.filling (with_none f.run (left-none rs c.loop-other.other-index (omega arith))))
