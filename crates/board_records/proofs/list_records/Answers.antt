use mathlib.Core.Path.{ap, ◌∙◌}
use lib.ListN.{length}
use Rattle.std.proofs.lemmas.Result.{err_from_is_err_and}
use Rattle.shapes.specs.Limits.{corner_limit}
use Rattle.board_records.specs.Records.{records_over}
use Rattle.board_records.proofs.Laws.{ok-sound, ok-room, ok-records, err-records}
use Rattle.board_records.proofs.list_records.Goals as goal

pub returns-in_err-listed : goal.returns-in_err-listed
returns-in_err-listed c =
    let p = err_from_is_err_and c.from_residual.result c.from_residual.ensures.1 in
    let e = c.in_err-listed.ensures in
    rw (p.1, p.2) (e.0, (e.1, err-records corner_limit c.args.board.now (length c.args.out.now) c.args.records.now c.in_err-listed.field-0.0 e.0))

pub runs_of-requires : goal.runs_of-requires
runs_of-requires c = (ok-sound corner_limit c.args.board.now (length c.args.out.now) c.args.records.now c.in_ok-listed.ensures.0).few

pub copy_runs-requires : goal.copy_runs-requires
copy_runs-requires c = rw c.runs_of.ensures (ok-room corner_limit c.args.board.now (length c.args.out.now) c.args.records.now c.in_ok-listed.ensures.0)

pub returns : goal.returns
returns c =
    let e = c.in_ok-listed.ensures in
    let written = ap (records_over c.args.records.now) c.runs_of.ensures in
    (e.0, (e.1, c.copy_runs.ensures ∙ written ∙ ok-records corner_limit c.args.board.now (length c.args.out.now) c.args.records.now e.0))
