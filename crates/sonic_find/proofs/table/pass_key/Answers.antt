use Rattle.sonic_find.proofs.table.pass_key.Goals as goal
use Rattle.std.proofs.Common.{refl}
use Rattle.std.proofs.lemmas.Result.{err_from_is_err_and}
use Rattle.sonic_find.specs.Tables.{no_key, key_there}
use Rattle.sonic_text.specs.Values.{no_head, key_head}

pub returns-in_err-start-in-Object-clause-err : goal.returns-in_err-start-in-Object-clause-err
returns-in_err-start-in-Object-clause-err c =
    let p = err_from_is_err_and c.from_residual.result c.from_residual.ensures.1 in
    rw (p.1, p.2) (c.in-Object.is, c.in_err-start-in-Object.ensures.err)

pub returns-in-Array-clause-key : goal.returns-in-Array-clause-key
returns-in-Array-clause-key c = rw c.in-Array.is record { label = _; head = no_head refl; span = no_key }

pub returns-in_ok-start-in-Object-clause-key : goal.returns-in_ok-start-in-Object-clause-key
returns-in_ok-start-in-Object-clause-key c =
    let x = c.in_ok-start-in-Object.ensures.ok in
    rw c.in-Object.is record { label = _; head = key_head x.key; span = key_there x.start x.string }
