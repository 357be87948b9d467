use Rattle.std.proofs.Common.{refl}
use Rattle.std.proofs.lemmas.Result.{err_from_is_err_and}
use Rattle.sonic_parser.proofs.BeginningLemmas.{member_item}
use Rattle.sonic_parser.proofs.skip.item_value.Goals as goal

pub returns-in_err-key_end-in-Object-clause-err : goal.returns-in_err-key_end-in-Object-clause-err
returns-in_err-key_end-in-Object-clause-err c =
    let p = err_from_is_err_and c.from_residual.result c.from_residual.ensures.1 in
    rw (p.1, p.2, c.in-Object.is) (refl, c.in_err-key_end-in-Object.ensures.err)

pub returns-in_ok-key_end-in-Object-clause-ok : goal.returns-in_ok-key_end-in-Object-clause-ok
returns-in_ok-key_end-in-Object-clause-ok c =
    let k = c.in_ok-key_end-in-Object.ensures.ok in
    rw c.in-Object.is (member_item k.later k.within k.key)
