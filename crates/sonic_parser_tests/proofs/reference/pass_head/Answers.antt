use Rattle.std.proofs.Common.{refl}
use Rattle.std.proofs.lemmas.Result.{err_from_is_err_and}
use Rattle.std.specs.Prelude.{Some, None}
use Rattle.sonic_text.specs.Values.{no_head, key_head}
use Rattle.sonic_parser_tests.proofs.reference.pass_head.Goals as goal

pub returns-in_err-key-in-Object-clause-err : goal.returns-in_err-key-in-Object-clause-err
returns-in_err-key-in-Object-clause-err c =
    let p = err_from_is_err_and c.from_residual.result c.from_residual.ensures.1 in
    rw (p.1, p.2, c.in-Object.is) (refl, c.in_err-key-in-Object.ensures.err)

pub returns-in-Array-clause-head : goal.returns-in-Array-clause-head
returns-in-Array-clause-head c = rw c.in-Array.is (None, no_head refl)

pub returns-in_ok-key-in-Object-clause-head : goal.returns-in_ok-key-in-Object-clause-head
returns-in_ok-key-in-Object-clause-head c = rw c.in-Object.is (Some c.in_ok-key-in-Object.ensures.ok.bytes, key_head c.in_ok-key-in-Object.ensures.ok.key)
