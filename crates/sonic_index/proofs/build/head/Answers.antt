use Rattle.std.proofs.lemmas.Result.{err_from_is_err_and}
use Rattle.sonic_index.proofs.AroundLemmas.{some_open}
use Rattle.sonic_index.proofs.PlaceLemmas.{item_fault, item_headed}
use Rattle.sonic_index.proofs.build.head.Goals as goal

pub returns-in-Some-clause-ok : goal.returns-in-Some-clause-ok
returns-in-Some-clause-ok c = λ cells i. (i.0, some_open i.1.around, rw c.labelled-item.ensures (item_headed c.args.at i.1 c.in-Some.ensures))

pub returns-clause-ok : goal.returns-clause-ok
returns-clause-ok c = λ cells i. (i.0, some_open i.1.around, rw c.labelled-item.ensures (item_headed c.args.at i.1 c.in_ok-place.ensures.ok))

pub returns-in_err-place-clause-err : goal.returns-in_err-place-clause-err
returns-in_err-place-clause-err c =
    let p = err_from_is_err_and c.from_residual.result c.from_residual.ensures.1 in
    let i = c.requires.1 in
    rw (p.1, p.2) (item_fault c.args.at c.in_err-place.field-0.0 i.1 c.in_err-place.ensures.object c.in_err-place.ensures.err)
