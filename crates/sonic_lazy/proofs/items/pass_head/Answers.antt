use Rattle.std.proofs.Common.{refl}
use Rattle.std.proofs.lemmas.Result.{err_from_is_err_and}
use Rattle.sonic_lazy.proofs.items.pass_head.Goals as goal
use Rattle.sonic_lazy.specs.Internal.Items.{no_key, a_key}

pub returns-in_err-key-in-Object-clause-err : goal.returns-in_err-key-in-Object-clause-err
returns-in_err-key-in-Object-clause-err c =
    let p = err_from_is_err_and c.from_residual.result c.from_residual.ensures.1 in
    rw (p.1, p.2) (c.in-Object.is, c.in_err-key-in-Object.ensures.err)

pub returns-in-Array-clause-ok : goal.returns-in-Array-clause-ok
returns-in-Array-clause-ok c = rw c.in-Array.is (no_key refl)

pub returns-in_ok-key-in-Object-clause-ok : goal.returns-in_ok-key-in-Object-clause-ok
returns-in_ok-key-in-Object-clause-ok c = rw c.in-Object.is (a_key c.in_ok-key-in-Object.ensures.ok)
