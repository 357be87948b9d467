use Rattle.sonic_find.proofs.table.pass_item.Goals as goal
use Rattle.std.proofs.lemmas.Result.{err_from_is_err_and}
use Rattle.sonic_find.proofs.TableLemmas.Rows.{key_faults}
use Rattle.sonic_parser.proofs.FaultLemmas.{stop_weaker}
use Rattle.sonic_text.specs.Faults.{in_value}

pub returns-in_err-key-clause-err : goal.returns-in_err-key-clause-err
returns-in_err-key-clause-err c =
    let p = err_from_is_err_and c.from_residual.result c.from_residual.ensures.1 in
    rw (p.1, p.2) (key_faults c.in_err-key.ensures.err)

pub returns-in_err-pass_value-clause-err : goal.returns-in_err-pass_value-clause-err
returns-in_err-pass_value-clause-err c =
    let p = err_from_is_err_and c.from_residual-in_err-pass_value.result c.from_residual-in_err-pass_value.ensures.1 in
    let head = c.in_ok-key.ensures.key in
    let fault = rw (c.begin.ensures, c.in_ok-key.ensures.moved) at c.in_err-pass_value.ensures.err in
    rw (p.1, p.2) (stop_weaker c.in_err-pass_value.field-0.0 (λ s f i n fit. in_value fit head.head f) fault)
