use Rattle.std.proofs.Common.{refl}
use Rattle.std.proofs.lemmas.Result.{err_from_is_err_and}
use Rattle.sonic_c.proofs.walk.key_at.Goals as goal
use Rattle.sonic_c.specs.Containers.{no_key, a_key}

pub returns-in-Array-clause-head : goal.returns-in-Array-clause-head
returns-in-Array-clause-head c = rw c.in-Array.is (no_key refl refl)

pub returns-in_ok-key-in-Object-clause-head : goal.returns-in_ok-key-in-Object-clause-head
returns-in_ok-key-in-Object-clause-head c =
    let key = c.in_ok-key-in-Object.ensures.ok in
    rw (c.in-Object.is, c.of_value.ensures) (a_key key.start key.string key.key)

pub returns-in_err-key-in-Object-clause-err : goal.returns-in_err-key-in-Object-clause-err
returns-in_err-key-in-Object-clause-err c =
    let p = err_from_is_err_and c.from_residual.result c.from_residual.ensures.1 in
    rw (p.1, p.2) (c.in-Object.is, c.in_err-key-in-Object.ensures.err)
