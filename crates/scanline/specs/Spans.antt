-- A span of columns of one row: the printed `extend`, and W6's new span, `try_extend` and `try_take`.
use Rattle.std.specs.Prelude.{Bool, true, false, ◌&&◌, ◌||◌, cond, ℤ, pos, ◌+ℤ◌, ◌-ℤ◌, Option, Some, None}
use Rattle.std.specs.Int.Signed.{lt_z, le_z}
use Rattle.whole.specs.Number.{lesser, greater}
use Rattle.shapes.specs.declared.Span.{Span}
use Rattle.shapes.specs.Spans.{span_of, is_empty}

-- W6: a new span is empty, 0 to 0
abbrev pub new_span : ℤ → Span
new_span row = span_of row (pos 0) (pos 0)

-- the printed `extend`: an empty span becomes the column, another is made longer at the side where the column is missing
unfoldable pub extended : Span → ℤ → Span
extended s c =
    cond (is_empty s) (span_of s.row c (c +ℤ pos 1))
    (cond (lt_z c s.start) (span_of s.row c s.end)
    (cond (le_z s.end c) (span_of s.row s.start (c +ℤ pos 1)) s))

-- two spans that are not empty overlap or are adjacent
unfoldable pub touches : Span → Span → Bool
touches s o = le_z o.start s.end && le_z s.start o.end

-- the printed `touches`, of two spans that are not empty: an end of the one lies in the other made longer by one column
abbrev pub in_range : ℤ → ℤ → ℤ → Bool
in_range a b x = le_z a x && le_z x b

unfoldable pub printed_touches : Span → Span → Bool
printed_touches s o =
    (in_range (s.start -ℤ pos 1) s.end o.start || in_range (s.start -ℤ pos 1) s.end (o.end -ℤ pos 1))
    || (in_range (o.start -ℤ pos 1) o.end s.start || in_range (o.start -ℤ pos 1) o.end (s.end -ℤ pos 1))

abbrev pub join : Span → Span → Span
join s o = span_of s.row (lesser s.start o.start) (greater s.end o.end)

-- whether two spans were joined, and the span then
pub record Joined : Type 0 where
  pub joined : Bool
  pub span : Span

abbrev pub joined_values : Bool → Span → Joined
joined_values joined s = record { joined = joined; span = s }

-- W6, in this order: an empty current span takes the other's start and end; an empty other changes nothing; spans that
-- overlap or are adjacent join; else no
unfoldable pub try_extended : Span → Span → Joined
try_extended s o =
    cond (is_empty s) (record { joined = true; span = span_of s.row o.start o.end })
    (cond (is_empty o) (record { joined = true; span = s })
    (cond (touches s o) (record { joined = true; span = join s o }) (record { joined = false; span = s })))

-- whether a span was handed out, that span (else 0, 0 to 0), and what is left
pub record Handed : Type 0 where
  pub taken : Bool
  pub span : Span
  pub rest : Span

abbrev pub taken_values : Option Span → Span → Handed
taken_values (Some s) rest = record { taken = true; span = s; rest = rest }
taken_values None rest = record { taken = false; span = new_span (pos 0); rest = rest }

-- W6: a span that is not empty is handed out once, and what is left is 0 to 0
unfoldable pub try_taken : Span → Handed
try_taken s =
    cond (is_empty s) (record { taken = false; span = new_span (pos 0); rest = s })
    (record { taken = true; span = s; rest = new_span s.row })
