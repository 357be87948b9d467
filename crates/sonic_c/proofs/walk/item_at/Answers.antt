use Rattle.std.proofs.Common.{arith}
use Rattle.std.proofs.lemmas.Result.{err_from_is_err_and}
use Rattle.sonic_c.proofs.ContainerLemmas.{head_of, key_fails, key_within, value_fails}
use Rattle.sonic_c.proofs.walk.item_at.Goals as goal
use Rattle.sonic_parser.proofs.FaultLemmas.{stop_weaker}
use Rattle.sonic_text.proofs.Stops.{fault_within}
use Rattle.sonic_text.proofs.Values.{head-later, value-longer}

pub returns-in_err-key-clause-err : goal.returns-in_err-key-clause-err
returns-in_err-key-clause-err c =
    let p = err_from_is_err_and c.from_residual.result c.from_residual.ensures.1 in
    rw (p.1, p.2) (λ n fit. key_fails fit c.in_err-key.ensures.err)

pub returns-in_err-key-clause-stop : goal.returns-in_err-key-clause-stop
returns-in_err-key-clause-stop c =
    let p = err_from_is_err_and c.from_residual.result c.from_residual.ensures.1 in
    rw (p.1, p.2) (key_within c.in_err-key.ensures.err.1)

pub returns-in_err-skip-clause-err : goal.returns-in_err-skip-clause-err
returns-in_err-skip-clause-err c =
    let p = err_from_is_err_and c.from_residual-in_err-skip.result c.from_residual-in_err-skip.ensures.1 in
    let e = rw c.in_ok-key.ensures.moved at c.in_err-skip.ensures.err in
    rw (p.1, p.2) (stop_weaker c.in_err-skip.field-0.0 (λ s f n fit. value_fails fit c.in_ok-key.ensures.head f) e)

pub returns-in_err-skip-clause-stop : goal.returns-in_err-skip-clause-stop
returns-in_err-skip-clause-stop c =
    let p = err_from_is_err_and c.from_residual-in_err-skip.result c.from_residual-in_err-skip.ensures.1 in
    let e = rw c.in_ok-key.ensures.moved at c.in_err-skip.ensures.err in
    rw (p.1, p.2) (stop_weaker c.in_err-skip.field-0.0 (λ s f. fault_within f) e)

pub returns-clause-item : goal.returns-clause-item
returns-clause-item c =
    let value = rw c.in_ok-key.ensures.moved at c.in_ok-skip.ensures.value in
    let span = rw c.in_ok-key.ensures.moved at c.in_ok-skip.ensures.span in
    rw (c.of_value-value.ensures, span.0, span.1) record { head = c.in_ok-key.ensures.head; value = value }

pub returns-clause-later : goal.returns-clause-later
returns-clause-later c =
    let value = rw c.in_ok-key.ensures.moved at c.in_ok-skip.ensures.value in
    omega (arith, head-later (head_of c.in_ok-key.ensures.head).1, value-longer value)
