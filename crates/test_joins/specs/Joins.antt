-- A join in a question is a digit and nine numbers, a byte between each two.
use Rattle.std.specs.Prelude.{cond, List, ℕ, eqb, nat_abs, get_or}
use Rattle.shapes.specs.declared.Side.TheVariants.{Left, Right}
use Rattle.line_join.specs.declared.Join.{Join}
use Rattle.line_join.specs.declared.Kind.{Kind}
use Rattle.line_join.specs.declared.Kind.TheVariants.{Miter, Bevel, Degenerate, Colinear, Start, End}
use Rattle.line_join.specs.Origins.{no_crossings}
use Rattle.line_join.specs.Join.{corners_of}
use Rattle.test_numbers.specs.declared.Read.{Read}
use Rattle.test_numbers.specs.Numbers.{number_at}
use Rattle.test_text.specs.Questions.{next_place, line_at}

-- the kinds by their digits, 0 to 6; all else is End
unfoldable pub kind_of : ℕ → Kind
kind_of d =
    cond (eqb d 48) Miter
    (cond (eqb d 49) (Bevel Left)
    (cond (eqb d 50) (Bevel Right)
    (cond (eqb d 51) (Degenerate Left)
    (cond (eqb d 52) (Degenerate Right)
    (cond (eqb d 53) Colinear
    (cond (eqb d 54) Start End))))))

-- the digit, then the position, which has no sign, then the corners at which the line before ends, then those at which the line after begins
unfoldable pub join_at : List ℕ → ℕ → Read Join
join_at s at =
    let p = number_at s (next_place (next_place at)) in
    let a = line_at s (next_place p.next) in
    let b = line_at s a.next in
    record {
      value =
          record {
            kind = kind_of (get_or s at 0);
            ending = corners_of a.value.start a.value.end;
            starting = corners_of b.value.start b.value.end;
            origins = no_crossings;
            position = nat_abs p.value;
          };
      next = b.next;
    }
