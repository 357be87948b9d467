use Rattle.sonic_find.proofs.table.locate_container.Goals as goal
use Rattle.std.proofs.Common.{refl, arith}
use Rattle.std.proofs.lemmas.Result.{err_from_is_err_and}
use Rattle.sonic_find.proofs.TableLemmas.Container.{found_there, missing_within, fails_within}
use Rattle.sonic_find.specs.Tables.{is_missing, has_failed, is_scalar}
use Rattle.sonic_text.proofs.Within.{value_within}

pub open-requires : goal.open-requires
open-requires g c = rw c.to_u8_slice-text.ensures.bytes (found_there (rw c.in-Found.is at c.in_ok-value.ensures.ok))

pub returns-in_err-open-in-Found-clause-err : goal.returns-in_err-open-in-Found-clause-err
returns-in_err-open-in-Found-clause-err g c =
    let p = err_from_is_err_and c.from_residual-in_err-open-in-Found.result c.from_residual-in_err-open-in-Found.ensures.1 in
    let answer = rw c.in-Found.is at c.in_ok-value.ensures.ok in
    let none = rw c.to_u8_slice-text.ensures.bytes at c.in_err-open-in-Found.ensures.err in
    let within = value_within (found_there answer) in
    rw (p.1, p.2) record { none = is_scalar answer none.0 none.1; within = rw none.1 (omega (arith, within)) }

pub returns-in-Missing-clause-err : goal.returns-in-Missing-clause-err
returns-in-Missing-clause-err g c =
    let answer = rw c.in-Missing.is at c.in_ok-value.ensures.ok in
    record { none = is_missing answer refl; within = missing_within answer }

pub returns-in-Fails-clause-err : goal.returns-in-Fails-clause-err
returns-in-Fails-clause-err g c =
    let answer = rw c.in-Fails.is at c.in_ok-value.ensures.ok in
    record { none = has_failed answer; within = fails_within answer }
