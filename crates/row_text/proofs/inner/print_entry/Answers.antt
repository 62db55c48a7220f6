use Rattle.std.proofs.Common.{◌≡◌, ℕ, ◌<◌, ◌≤◌, sym, ap, ◌∙◌, arith, rules, pos, length, get_or, take, replicate, to_z, of_z, w64, List, ℤ, Ok}
use lib.ListN.{length-replicate}
use mir.Facts.{to_z-of_z}
use Rattle.route_file.specs.Form.{Formed}
use Rattle.route_file.specs.Answers.{coordinates, count_values, pointed, pointed_to}
use Rattle.route_file.proofs.Laws.{enough}
use Rattle.row_text.specs.Pixels.{route_pixels, entry_pixels}
use Rattle.row_text.proofs.Laws.{entry-none, entry-ok, points-ok, handed-count, handed}
use Rattle.row_text.proofs.inner.print_entry.Goals as goal

-- the list that is lent for the points
abbrev room : List ℤ
room = replicate 32768 (pos 0)

-- the numbers that are lent are those of the route's points
record Lent (f : List ℕ) (k n : ℕ) (out : List ℤ) : Type 0 where
  count : n ≡ length (coordinates f k)
  numbers : take n out ≡ coordinates f k
  few : n ≤ 32768

lent : {f : List ℕ} (k : ℕ) → Formed f → ((i : ℕ) → get_or f i 0 < 256) → {n : ℕ} {out : List ℤ} → count_values (Ok n) ≡ pointed f k (length room) → out ≡ pointed_to f k room → Lent f k n out
lent {f} k formed bytes {n} {out} e is =
    let long = length-replicate 32768 (pos 0) in
    let count = ap (λ r. r.count) e ∙ handed-count k formed bytes room long in
    record {
      count = count;
      numbers = ap (λ m. take m out) count ∙ ap (take (length (coordinates f k))) is ∙ handed k formed bytes room long;
      few = omega (arith, count, enough f k formed bytes);
    }

pub unwrap-requires : goal.unwrap-requires
unwrap-requires c = entry-ok c.args.file.now c.args.k c.requires.formed _ c.entry.ensures

pub returns-in_default : goal.returns-in_default
returns-in_default c = entry-none c.args.file.now c.args.k c.requires.formed c.args.limits (rw (c.unwrap.ensures, c.in_default.is) at c.entry.ensures)

pub unwrap-count-requires : goal.unwrap-count-requires
unwrap-count-requires c = points-ok c.args.k c.requires.formed (λ i. omega (arith, c.type_inv.file i)) room (length-replicate 32768 (pos 0)) _ c.points.ensures.count

pub slice_bounds-room-end : goal.slice_bounds-room-end
slice_bounds-room-end c =
    let l = lent c.args.k c.requires.formed (λ i. omega (arith, c.type_inv.file i)) (rw c.unwrap-count.ensures at c.points.ensures.count) c.points.ensures.written in
    omega (arith, l.few, c.points.auto.out, length-replicate 32768 (pos 0))

pub slice_bounds-print_route-end : goal.slice_bounds-print_route-end
slice_bounds-print_route-end c =
    let l = lent c.args.k c.requires.formed (λ i. omega (arith, c.type_inv.file i)) (rw c.unwrap-count.ensures at c.points.ensures.count) c.points.ensures.written in
    l.count ∙ sym (ap length l.numbers)

pub returns : goal.returns
unfolding entry_pixels
returns c =
    let l = lent c.args.k c.requires.formed (λ i. omega (arith, c.type_inv.file i)) (rw c.unwrap-count.ensures at c.points.ensures.count) c.points.ensures.written in
    let e = c.in-Some.entry in
    let own = coordinates c.args.file.now c.args.k in
    to_z-of_z {w = w64} {z = c.print_route.result} (search rules) ∙ c.print_route.ensures
    ∙ ap (λ cs. route_pixels c.args.limits e.closed cs (to_z w64 (of_z w64 e.width))) l.numbers
    ∙ ap (route_pixels c.args.limits e.closed own) (to_z-of_z {w = w64} {z = e.width} (search rules))
    ∙ ap (λ d. route_pixels c.args.limits d.closed own d.width) (rw (c.unwrap.ensures, c.in-Some.is) at c.entry.ensures)
