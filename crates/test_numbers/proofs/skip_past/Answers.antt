use mathlib.Core.Path.{◌≡◌, refl, sym, ◌∙◌}
use mathlib.Core.List.{List}
use Prim.Native.Nat.{ℕ, ◌+◌, ◌≤◌, ◌<◌}
use native.Mathlib.Numerals.{add-one}
use native.Mathlib.Omega.{arith}
use borrow.Author.Tests.{eq-eqb, ne_eqb}
use lib.ListN.{length, drop, get_or, drop_of_length-le}
use lib.Seq.{drop-cons}
use Rattle.test_numbers.specs.Lines.{skip_from, skip_past}
use Rattle.test_numbers.proofs.skip_past.Goals as goal

module _ (s : List ℕ) (at b : ℕ) where
  skip-end : length s ≤ at → skip_from b (drop at s) at ≡ at
  unfolding skip_from
  skip-end h = rw (drop_of_length-le s h)

  skip-found : at < length s → get_or s at 0 ≡ b → skip_from b (drop at s) at ≡ at + 1
  unfolding skip_from
  skip-found h e = rw (drop-cons s at 0, eq-eqb (get_or s at 0) b e)

  skip-on : at < length s → (get_or s at 0 ≡ b → ⊥) → skip_from b (drop at s) at ≡ skip_from b (drop (at + 1) s) (at + 1)
  unfolding skip_from
  skip-on h e = rw (drop-cons s at 0, ne_eqb (get_or s at 0) b e, add-one)

pub loop-i-init : goal.loop-i-init
unfolding skip_past
loop-i-init c = record { most = omega arith; same = refl }

pub returns-then-s-i : goal.returns-then-s-i
returns-then-s-i c = sym (skip-found _ _ _ c.loop-i-test.true c.if-s-i.true) ∙ c.loop-i.invariant.same

pub loop-i-preserved : goal.loop-i-preserved
loop-i-preserved c = record {
  most = omega arith;
  same = sym (skip-on _ _ _ c.loop-i-test.true c.if-s-i.false) ∙ c.loop-i.invariant.same;
}

pub returns : goal.returns
returns c =
    let last : c.max.result ≡ c.loop-i.i = omega arith in
    last ∙ sym (skip-end c.args.s.now c.loop-i.i c.args.b c.loop-i-test.false) ∙ c.loop-i.invariant.same
