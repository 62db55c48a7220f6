use mathlib.Core.Path.{◌≡◌, ap, ◌∙◌}
use native.Mathlib.Omega.{arith}
use Rattle.route_file.specs.declared.inner.Entry.{Entry}
use Rattle.route_file.specs.Form.{entry_at}
use Rattle.route_file.proofs.Laws.{entry_inside, formed_of, formed-true}
use Rattle.route_file.proofs.Answering.{points-all}
use Rattle.route_file.proofs.points.Goals as goal

pub entry_at-entry-requires : goal.entry_at-entry-requires
entry_at-entry-requires c = entry_inside c.args.file.now c.args.k c.in_ok-check_form.ensures (rw c.count_of.ensures at c.if-count_of-k.false)

pub returns-clause-written : goal.returns-clause-written
returns-clause-written c =
    let f = c.args.file.now in
    let e = entry_at f c.args.k in
    let known = rw c.count_of.ensures at c.if-count_of-k.false in
    let offset : c.from.result ≡ e.offset = c.from.ensures ∙ ap (λ (x : Entry). x.offset) c.entry_at-entry.ensures in
    let points : c.from-count.result ≡ e.points = c.from-count.ensures ∙ ap (λ (x : Entry). x.points) c.entry_at-entry.ensures in
    let all = points-all f c.args.k c.args.out.now (formed-true (formed_of f c.in_ok-check_form.ensures)) known (omega arith) in
    (rw (offset, points) at c.write_numbers.ensures) ∙ all.1
