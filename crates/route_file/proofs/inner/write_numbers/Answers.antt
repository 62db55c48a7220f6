use mathlib.Core.Path.{sym, ◌∙◌}
use borrow.Author.Rules.{rules}
use mir.Syntax.{w64}
use mir.Facts.{to_z-of_z}
use Rattle.route_file.proofs.Reading.{store-turn, store-end}
use Rattle.route_file.proofs.inner.write_numbers.Goals as goal

pub loop-i-preserved : goal.loop-i-preserved
loop-i-preserved c =
    let number = to_z-of_z {w = w64} {z = c.signed_at.result} (search rules) ∙ c.signed_at.ensures in
    rw number (sym (store-turn c.args.file.now c.args.from c.args.n c.loop-i.i c.loop-i.out c.loop-i-test.true) ∙ c.loop-i.invariant)

pub returns : goal.returns
returns c = sym (store-end c.args.file.now c.args.from c.args.n c.loop-i.i c.loop-i.out c.loop-i-test.false) ∙ c.loop-i.invariant
