use Rattle.std.proofs.Common.{◌≡◌, ◌-◌, ◌*◌, ◌+ℤ◌}
use Rattle.whole.specs.Number.{Within}
use Rattle.route_file.specs.Form.{route_count}
use Rattle.row_text.specs.Pixels.{sum_from, entry_pixels, all_pixels}
use Rattle.row_text.proofs.Laws.{most}
use Rattle.row_text.proofs.inner.print_routes.Given as goal

-- the pixels so far, with those of the routes that are left, are all pixels
abbrev pub invariant-loop-k : goal.invariant-loop-k
invariant-loop-k l =
    record {
      small : Within l.total (most * most * l.k);
      all : l.total +ℤ sum_from (entry_pixels l.limits l.file) l.k (route_count l.file - l.k) ≡ all_pixels l.limits l.file;
    }
