-- 02's K9: a join knows the place of its point in the list that it is made from.
use Rattle.std.specs.Prelude.{ℕ}
use Rattle.line_join.specs.declared.Join.{Join}

-- all else is as it was
abbrev pub standing_at : ℕ → Join → Join
standing_at i j = record { kind = j.kind; ending = j.ending; starting = j.starting; origins = j.origins; position = i }
