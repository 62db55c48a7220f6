-- What is left from here says what was said at first.
use Rattle.std.proofs.Common.{◌≡◌, ◌≤◌, length, drop, max}
use Rattle.test_numbers.specs.Lines.{skip_from, skip_past}
use Rattle.test_numbers.proofs.skip_past.Given as goal

abbrev pub invariant-loop-i : goal.invariant-loop-i
invariant-loop-i l = record {
  most : l.i ≤ max l.at (length l.s);
  same : skip_from l.b (drop l.i l.s) l.i ≡ skip_past l.s l.at l.b;
}
