-- What the entry `extents` answers.
use Rattle.std.specs.Prelude.{cond, ℕ, eqb, ℤ, Result, Ok, Err}
use Rattle.shapes.specs.declared.Line.{Line}
use Rattle.shapes.specs.declared.Offset.{Offset}
use Rattle.shapes.specs.declared.refusals.Refusal.{Refusal}
use Rattle.shapes.specs.Refusals.{number_of}
use Rattle.shapes.specs.Shape.{no_line, is_line_near}
use Rattle.shapes.specs.Strokes.{stroke_refusal}
use Rattle.extents.specs.Sides.{Edges}
use Rattle.extents.specs.Edges.{extents_of}

-- the answer as numbers and values: a refusal, or 0 and the two edges
pub record Answer : Type 0 where
  pub refusal : ℕ
  pub left : Line
  pub right : Line

-- a refusal: its number only, with 0 for every other field
abbrev pub refused_with : ℕ → Answer
refused_with n = record { refusal = n; left = no_line; right = no_line }

abbrev pub accepted : Edges → Answer
accepted e = record { refusal = 0; left = e.left; right = e.right }

abbrev pub edges_values : Result Edges Refusal → Answer
edges_values (Ok e) = accepted e
edges_values (Err r) = refused_with (number_of r)

-- the first refusal of 01's table that applies, 3 or 4, else the two edges
unfoldable pub extents_answer : ℕ → Line → ℤ → Offset → Answer
extents_answer k l width offset =
    let n = stroke_refusal width (is_line_near k l) in
    cond (eqb n 0) (accepted (extents_of l width offset)) (refused_with n)
