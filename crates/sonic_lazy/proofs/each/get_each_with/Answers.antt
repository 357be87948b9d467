use Rattle.std.proofs.Common.{refl}
use Rattle.std.proofs.lemmas.Result.{err_from_is_err_and}
use Rattle.sonic_lazy.proofs.each.get_each_with.Goals as goal

pub returns-in_err-found-clause-complete : goal.returns-in_err-found-clause-complete
returns-in_err-found-clause-complete g c = λ can.
    let p = err_from_is_err_and c.from_residual.result c.from_residual.ensures.1 in
    rw (p.1, p.2) (c.in_err-found.ensures.complete can)

pub outcomes-requires : goal.outcomes-requires
outcomes-requires g c κs = ((refl, tt), (rw c.deref.ensures.value c.in_ok-found.ensures.parts, rw c.deref.ensures.value c.in_ok-found.ensures.escaped))

pub returns-in-Ok-clause-ok : goal.returns-in-Ok-clause-ok
returns-in-Ok-clause-ok g c = record { told = _; answer = c.in_ok-found.ensures.ok; shown = rw c.deref.ensures.value at c.in-Ok.ensures }
