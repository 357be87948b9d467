use Rattle.std.proofs.Common.{◌∙◌, sym}
use Rattle.std.proofs.lemmas.List.{length-replicate}
use Rattle.sonic_find.proofs.FindingLemmas.{slots_say, found_long}
use Rattle.std.proofs.lemmas.Result.{err_from_is_err_and}
use Rattle.sonic_find.proofs.finding.find_many.Goals as goal

pub returns-in_err-found-clause-complete : goal.returns-in_err-found-clause-complete
returns-in_err-found-clause-complete g c = λ can.
    let p = err_from_is_err_and c.from_residual.result c.from_residual.ensures.1 in
    rw (p.1, p.2) (c.in_err-found.ensures.complete can)

pub fill-requires : goal.fill-requires
fill-requires g c = rw c.deref.ensures.value (found_long c.in_ok-found.found.items c.in_ok-found.ensures.ok ∙ sym c.requires ∙ sym (rw c.clear.ensures (length-replicate _ _)))

pub returns-clause-ok : goal.returns-clause-ok
returns-clause-ok g c =
    let filled = rw (c.deref.ensures.value) at c.fill.ensures in
    rw (filled, slots_say c.in_ok-found.found.items) c.in_ok-found.ensures.ok
