use Rattle.sonic_find.proofs.table.table_at.Goals as goal
use Rattle.std.proofs.lemmas.Result.{err_from_is_err_and}
use Rattle.sonic_find.proofs.TableLemmas.Container.{found_there}
use Rattle.sonic_find.proofs.TableLemmas.Rows.{whole_table}
use Rattle.sonic_parser.proofs.FaultLemmas.{stop_weaker}
use Rattle.sonic_text.proofs.Values.{value_never_both}

pub returns-in_err-table-clause-err : goal.returns-in_err-table-clause-err
returns-in_err-table-clause-err g c =
    let p = err_from_is_err_and c.from_residual-in_err-table.result c.from_residual-in_err-table.ensures.1 in
    let there = found_there c.in_ok-container.ensures.ok.leads in
    let fault = rw (c.unscanned-read.ensures.text, c.to_json_slice.ensures.bytes) at c.in_err-table.ensures.err in
    rw (p.1, p.2) (stop_weaker c.in_err-table.field-0.0 (λ s f. absurd (value_never_both there f)) fault)

pub returns-2-clause-ok : goal.returns-2-clause-ok
returns-2-clause-ok g c =
    let leads = c.in_ok-container.ensures.ok.leads in
    let table = rw (c.unscanned-read.ensures.text, c.to_json_slice.ensures.bytes) at c.in_ok-table.ensures.table in
    record { container = _; leads = leads; is = whole_table (found_there leads) table }
