use mathlib.Core.Path.{◌≡◌, refl, sym, ◌∙◌}
use mathlib.Core.Bool.{Bool, true}
use mathlib.Core.List.{List}
use Prim.Native.Nat.{ℕ, ◌+◌, ◌-◌, ◌<◌}
use native.Mathlib.Omega.{arith}
use lib.ListN.{get_or}
use Rattle.test_numbers.specs.Numbers.{is_digit, digits_from, digits_at}
use Rattle.test_numbers.proofs.Reading.{Turn, turn, digits-end, digits-stop}
use Rattle.test_numbers.proofs.digits_at.Goals as goal

-- what a turn knows, where the byte is a digit
turned : (s : List ℕ) (first gone v at b : ℕ) {t : Bool} → gone < 18 → b ≡ get_or s at 0 → t ≡ is_digit b → t ≡ true → digits_from (18 - gone) s v at ≡ digits_at s first → Turn s first (18 - gone) v at b
turned s first gone v at b less is digit e same = turn (omega arith) is (sym digit ∙ e) same

pub loop-init : goal.loop-init
unfolding digits_at
loop-init c = refl

pub overflow_mul-value : goal.overflow_mul-value
overflow_mul-value c =
    let t = turned c.args.s.now c.args.at c.loop.counter c.loop.value c.loop.next c.byte_at-b.result (omega arith) c.byte_at-b.ensures c.is_digit.ensures c.if-not-is_digit.false c.loop.invariant in
    omega arith

pub overflow_sub-b : goal.overflow_sub-b
overflow_sub-b c =
    let t = turned c.args.s.now c.args.at c.loop.counter c.loop.value c.loop.next c.byte_at-b.result (omega arith) c.byte_at-b.ensures c.is_digit.ensures c.if-not-is_digit.false c.loop.invariant in
    t.digit

pub overflow_add-value : goal.overflow_add-value
overflow_add-value c =
    let t = turned c.args.s.now c.args.at c.loop.counter c.loop.value c.loop.next c.byte_at-b.result (omega arith) c.byte_at-b.ensures c.is_digit.ensures c.if-not-is_digit.false c.loop.invariant in
    omega arith

pub overflow_add-next : goal.overflow_add-next
overflow_add-next c =
    let t = turned c.args.s.now c.args.at c.loop.counter c.loop.value c.loop.next c.byte_at-b.result (omega arith) c.byte_at-b.ensures c.is_digit.ensures c.if-not-is_digit.false c.loop.invariant in
    omega arith

pub loop-preserved : goal.loop-preserved
loop-preserved c =
    let t = turned c.args.s.now c.args.at c.loop.counter c.loop.value c.loop.next c.byte_at-b.result (omega arith) c.byte_at-b.ensures c.is_digit.ensures c.if-not-is_digit.false c.loop.invariant in
    let fewer : 18 - (c.loop.counter + 1) ≡ 18 - c.loop.counter - 1 = omega arith in
    rw (fewer, c.from.ensures) t.on

pub returns-after-loop : goal.returns-after-loop
returns-after-loop c = sym (digits-end _ _ _ _ (omega arith)) ∙ c.loop.invariant

pub returns-then-not-is_digit : goal.returns-then-not-is_digit
returns-then-not-is_digit c =
    sym (digits-stop _ _ _ _ c.byte_at-b.ensures (sym c.is_digit.ensures ∙ c.if-not-is_digit.true)) ∙ c.loop.invariant
