-- A question is numbers, a byte between each two.
use Rattle.std.specs.Prelude.{cond, List, ℕ, ◌+◌, ltb, eqb, get_or}
use Rattle.shapes.specs.declared.Line.{Line}
use Rattle.shapes.specs.declared.Offset.{Offset}
use Rattle.shapes.specs.declared.Offset.TheVariants.{None, Left, Right}
use Rattle.shapes.specs.declared.Point.{Point}
use Rattle.shapes.specs.Shape.{point_of, line_of}
use Rattle.test_numbers.specs.declared.Read.{Read}
use Rattle.test_numbers.specs.Numbers.{number_at}

-- the place after a byte
unfoldable pub next_place : ℕ → ℕ
next_place at = cond (ltb at 4000000) (at + 1) at

unfoldable pub point_at : List ℕ → ℕ → Read Point
point_at s at =
    let x = number_at s at in
    let y = number_at s (next_place x.next) in
    record { value = point_of x.value y.value; next = next_place y.next }

unfoldable pub line_at : List ℕ → ℕ → Read Line
line_at s at =
    let a = point_at s at in
    let b = point_at s a.next in
    record { value = line_of a.value b.value; next = b.next }

-- 1 is Left, 2 is Right, and all else is None
unfoldable pub offset_at : List ℕ → ℕ → Offset
offset_at s at = cond (eqb (get_or s at 0) 49) Left (cond (eqb (get_or s at 0) 50) Right None)
