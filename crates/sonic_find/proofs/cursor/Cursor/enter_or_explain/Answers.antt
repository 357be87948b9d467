use Rattle.sonic_find.proofs.cursor.Cursor.enter_or_explain.Goals as goal
use Rattle.std.proofs.lemmas.Result.{err_from_is_err_and}
use Rattle.sonic_parser.proofs.FaultLemmas.{stop_weaker}
use Rattle.sonic_find.proofs.WalkLemmas.Start.{no_entry_by_fault}
use Rattle.sonic_find.specs.DeadEnds.{fails_so}

pub returns-in_err-enter_or_pass-clause-err : goal.returns-in_err-enter_or_pass-clause-err
returns-in_err-enter_or_pass-clause-err c =
    let p = err_from_is_err_and c.from_residual.result c.from_residual.ensures.1 in
    rw (p.1, p.2) (stop_weaker c.in_err-enter_or_pass.field-0.0 (λ s x. no_entry_by_fault x.0 x.1) c.in_err-enter_or_pass.ensures.err)

pub returns-in-Some-clause-err : goal.returns-in-Some-clause-err
returns-in-Some-clause-err c = λ rule node rest same.
    let passed = rw c.in-Some.is at c.in_ok-enter_or_pass.ensures.passed in
    fails_so (passed.dead rule node rest same)
