-- What is still to be stored, from here, makes the list that was asked for.
use mathlib.Core.Path.{◌≡◌}
use Prim.Native.Nat.{◌+◌, ◌-◌, ◌*◌}
use lib.Seq.{sets}
use Rattle.route_file.specs.Numbers.{signed_from}
use Rattle.route_file.proofs.inner.write_numbers.Given as goal

abbrev pub invariant-loop-i : goal.invariant-loop-i
invariant-loop-i l =
    sets l.out l.i (signed_from l.file (l.from + 2 * l.i) (l.n - l.i)) ≡ sets l.initial.out 0 (signed_from l.file l.from l.n)
