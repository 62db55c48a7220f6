use Rattle.std.proofs.Common.{◌≡◌, take}
use Rattle.thick_segment.specs.Segments.{met_rows}
use Rattle.thick_segment.proofs.inner.scan.Given as goal

abbrev pub invariant-loop-i : goal.invariant-loop-i
invariant-loop-i l = l.met ≡ met_rows l.initial.met (take l.i l.lines)
