use mathlib.Core.Path.{◌≡◌, sym}
use mathlib.Core.List.{List, ◌++◌}
use Prim.Native.Nat.{ℕ, ◌+◌, ◌-◌, ◌≤◌}
use native.Mathlib.Omega.{arith}
use borrow.Author.Rules.{rules}
use lib.ListN.{length, take, drop, set, length-drop}
use Rattle.std.proofs.lemmas.List.{take_all}
use Rattle.shapes.specs.Limits.{board_runs}
use Rattle.board.specs.declared.Run.{Run}
use Rattle.board.specs.declared.inner.Front.{Front}
use Rattle.board.specs.Boards.{board_of, padded}
use Rattle.board.specs.Fronts.{Filling, Gathered, whole_of}
use Rattle.board.proofs.Fronts.{filling-turn, filling-length, filling-last}
use Rattle.board.proofs.inner.fill.Goals as goal

module _ (f : Front) (rs : List Run) (g : Gathered f rs (whole_of f rs)) (few : length (whole_of f rs) ≤ board_runs) where
  size : length (whole_of f rs) ≡ f.count + 1 + length (drop f.next rs)
  size = omega (arith, filling-length g.filling)

  begun : Filling (set f.runs f.count f.run) (f.count + 1) (drop f.next rs) (whole_of f rs)
  begun = filling-turn g.filling (omega (arith, size))

-- what is left of the runs from place i on, as the machine cuts it
cut-rest : (rs : List Run) (i : ℕ) → take (length rs - i) (drop i rs) ≡ drop i rs
cut-rest rs i = take_all (length rs - i) (drop i rs) (omega (arith, length-drop i rs))

whole-put : (f : Front) (rs rest put : List Run) (k : ℕ) → Gathered f rs (whole_of f rs) → length (whole_of f rs) ≤ board_runs → rest ≡ drop f.next rs → put ≡ rest
    → k ≡ length rest → take (f.count + 1) (set f.runs f.count f.run) ++ (put ++ drop k (drop (f.count + 1) (set f.runs f.count f.run))) ≡ padded (whole_of f rs)
whole-put f rs rest put k g few r p e = rw (p, r) (filling-last (begun f rs g few) (rw r at e))

pub slice_bounds-copy_from_slice-end : goal.slice_bounds-copy_from_slice-end
slice_bounds-copy_from_slice-end c =
    let f = c.args.front in
    let rs = c.runs_of.result.now in
    let g : Gathered f rs (whole_of f rs) = rw c.runs_of.ensures c.requires.gathered in
    let few : length (whole_of f rs) ≤ board_runs = rw c.runs_of.ensures c.requires.board_len_bound in
    let room : f.count + 1 + length (take (length rs - f.next) (drop f.next rs)) ≤ 32 = rw (cut-rest rs f.next) (omega (arith, size f rs g few)) in
    search rules

pub returns : goal.returns
unfolding board_of
returns c =
    let f = c.args.front in
    let rs = c.runs_of.result.now in
    let g : Gathered f rs (whole_of f rs) = rw c.runs_of.ensures c.requires.gathered in
    let few : length (whole_of f rs) ≤ board_runs = rw c.runs_of.ensures c.requires.board_len_bound in
    let rest : List Run = take (length rs - f.next) (drop f.next rs) in
    let cut : rest ≡ drop f.next rs = cut-rest rs f.next in
    let long : f.count + 1 + length rest ≡ length (whole_of f rs) = rw cut (sym (size f rs g few)) in
    let put = whole-put f rs rest c.copy_from_slice.new.self (f.count + 1 + length rest - (f.count + 1)) g few cut c.copy_from_slice.ensures.after (omega arith) in
    rw (← c.runs_of.ensures) (cc (long, put))
