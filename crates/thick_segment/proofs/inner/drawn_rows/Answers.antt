use Rattle.std.proofs.Common.{sym, ◌∙◌}
use Rattle.thick_segment.proofs.Lit.{skeleton-rows, perimeter-rows}
use Rattle.thick_segment.proofs.inner.drawn_rows.Goals as goal

pub returns-then-is_skeleton : goal.returns-then-is_skeleton
returns-then-is_skeleton c =
    simp (c.line_rows.ensures, c.edges-e.ensures) (sym (skeleton-rows c.args.segment (sym c.is_skeleton.ensures ∙ c.if-is_skeleton.true)))

pub returns : goal.returns
returns c =
    simp (
      c.around.ensures,
      c.with_cap_rows-capped.ensures,
      c.with_cap_rows.ensures,
      c.line_rows-2.ensures,
      c.line_rows-3.ensures,
      c.start_caps-first.ensures,
      c.end_caps-last.ensures,
      c.edges-e.ensures,
    ) (sym (perimeter-rows c.args.segment (sym c.is_skeleton.ensures ∙ c.if-is_skeleton.false)))
