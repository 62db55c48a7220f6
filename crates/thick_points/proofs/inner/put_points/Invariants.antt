use Rattle.std.proofs.Common.{◌≡◌, ◌+◌, ◌-◌, ◌*◌}
use lib.Seq.{sets}
use Rattle.bresenham.specs.Points.{points_from}
use Rattle.thick_points.specs.Listing.{point_numbers, Walk}
use Rattle.thick_points.proofs.inner.put_points.Given as goal

-- what is still to be stored, from here, makes the list that was asked for
abbrev pub invariant-loop-i : goal.invariant-loop-i
invariant-loop-i l =
    record {
      walk : Walk (l.n - l.i) l.along l.start;
      same : sets l.out (l.at + 2 * l.i) (point_numbers (points_from (l.n - l.i) l.along l.start)) ≡ sets l.initial.out l.at (point_numbers (points_from l.n l.along l.initial.start));
    }
