-- The entries' answers as numbers and values, k being the limit of coordinates, rows and columns. A refusal has 0 in every other
-- field, but the span that was lent is as it was.
use Rattle.std.specs.Prelude.{Bool, false, ◌&&◌, cond, ℕ, eqb, ℤ, pos, Result, Ok, Err, Option, None}
use Rattle.whole.specs.Number.{eq_z, is_within}
use Rattle.shapes.specs.declared.Line.{Line}
use Rattle.shapes.specs.declared.Span.{Span}
use Rattle.shapes.specs.declared.refusals.Refusal.{Refusal}
use Rattle.shapes.specs.Refusals.{coordinate_refused, row_refused, column_refused, number_of}
use Rattle.shapes.specs.Shape.{is_line_near}
use Rattle.shapes.specs.Spans.{is_span_sound}
use Rattle.scanline.specs.Spans.{new_span, extended, try_extended, Handed, taken_values, try_taken}
use Rattle.scanline.specs.Meeting.{met}

-- ---- the refusals, in 01's order: 4, 6, 7

-- 6: the row is not right; 7: some column is not inside
abbrev pub row_refusal : Bool → Bool → ℕ
row_refusal right inside = cond right (cond inside 0 column_refused) row_refused

unfoldable pub span_refusal : ℕ → Span → ℕ
span_refusal k s = row_refusal (is_within k s.row) (is_span_sound k s)

unfoldable pub extend_refusal : ℕ → Span → ℤ → ℕ
extend_refusal k s c = row_refusal (is_within k s.row) (is_span_sound k s && is_within k c)

-- 6 also where the two rows differ
unfoldable pub join_refusal : ℕ → Span → Span → ℕ
join_refusal k s o = row_refusal (is_within k s.row && eq_z s.row o.row) (is_span_sound k s && is_span_sound k o)

-- 4: a coordinate of the line is outside
unfoldable pub meet_refusal : ℕ → Span → Line → ℕ
meet_refusal k s l = cond (is_line_near k l) (span_refusal k s) coordinate_refused

-- ---- the answers

-- a span, or zeros where none was lent
pub record Spanned : Type 0 where
  pub refusal : ℕ
  pub span : Span

-- whether two spans were joined, and the span then
pub record Extended : Type 0 where
  pub refusal : ℕ
  pub joined : Bool
  pub span : Span

-- whether a span was handed out, that span, and what is left
pub record Taken : Type 0 where
  pub refusal : ℕ
  pub taken : Bool
  pub span : Span
  pub rest : Span

abbrev pub taken_in : ℕ → Handed → Taken
taken_in n h = record { refusal = n; taken = h.taken; span = h.span; rest = h.rest }

abbrev pub spanned : ℕ → Span → Spanned
spanned n s = record { refusal = n; span = s }

abbrev pub fresh_values : Result Span Refusal → Spanned
fresh_values (Ok s) = spanned 0 s
fresh_values (Err r) = spanned (number_of r) (new_span (pos 0))

-- a span that was lent, afterwards
abbrev pub span_values : Result (Unit {0}) Refusal → Span → Spanned
span_values (Ok _) s = spanned 0 s
span_values (Err r) s = spanned (number_of r) s

abbrev pub try_extend_values : Result Bool Refusal → Span → Extended
try_extend_values (Ok joined) s = record { refusal = 0; joined = joined; span = s }
try_extend_values (Err r) s = record { refusal = number_of r; joined = false; span = s }

abbrev pub try_take_values : Result (Option Span) Refusal → Span → Taken
try_take_values (Ok handed) s = taken_in 0 (taken_values handed s)
try_take_values (Err r) s = taken_in (number_of r) (taken_values None s)

unfoldable pub fresh_answer : ℕ → ℤ → Spanned
fresh_answer k row = cond (is_within k row) (spanned 0 (new_span row)) (spanned row_refused (new_span (pos 0)))

unfoldable pub extend_answer : ℕ → Span → ℤ → Spanned
extend_answer k s c = cond (eqb (extend_refusal k s c) 0) (spanned 0 (extended s c)) (spanned (extend_refusal k s c) s)

unfoldable pub meet_answer : ℕ → Span → Line → Spanned
meet_answer k s l = cond (eqb (meet_refusal k s l) 0) (spanned 0 (met s l)) (spanned (meet_refusal k s l) s)

unfoldable pub try_extend_answer : ℕ → Span → Span → Extended
try_extend_answer k s o =
    cond (eqb (join_refusal k s o) 0) (record { refusal = 0; joined = (try_extended s o).joined; span = (try_extended s o).span })
    (record { refusal = join_refusal k s o; joined = false; span = s })

unfoldable pub try_take_answer : ℕ → Span → Taken
try_take_answer k s =
    cond (eqb (span_refusal k s) 0)
    (record { refusal = 0; taken = (try_taken s).taken; span = (try_taken s).span; rest = (try_taken s).rest })
    (record { refusal = span_refusal k s; taken = false; span = new_span (pos 0); rest = s })
