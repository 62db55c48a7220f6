-- The digits from here on say what those from the first on do.
use Rattle.std.proofs.Common.{◌≡◌, ◌-◌}
use Rattle.test_numbers.specs.Numbers.{digits_from, digits_at}
use Rattle.test_numbers.proofs.digits_at.Given as goal

abbrev pub invariant-loop : goal.invariant-loop
invariant-loop l = digits_from (18 - l.counter) l.s l.value l.next ≡ digits_at l.s l.at
