use Rattle.std.proofs.Common.{refl}
use Rattle.std.proofs.lemmas.Result.{err_from_is_err_and}
use Rattle.sonic_examples.proofs.gateway.subject.Goals as goal
use Rattle.sonic_examples.specs.Subjects.{not_found, no_string}

-- the path finds no value
pub returns-in_err-value-clause-err : goal.returns-in_err-value-clause-err
returns-in_err-value-clause-err c =
    let p = err_from_is_err_and c.from_residual.result c.from_residual.ensures.1 in
    rw (p.1, p.2) (not_found (rw (c.pointer-from.ensures, c.pointer-from-2.ensures) at c.in_err-value.ensures.lookup.err) refl)

-- the value is a string
pub returns-in-Some-clause-ok : goal.returns-in-Some-clause-ok
returns-in-Some-clause-ok c =
    let found = rw (c.pointer-from.ensures, c.pointer-from-2.ensures) at c.in_ok-value.ensures.lookup.ok in
    record { value = c.in_ok-value.value; found = found; denoted = rw c.in-Some.is at c.in_ok-text.ensures.text }

-- or it is none
pub returns-in-None-clause-err : goal.returns-in-None-clause-err
returns-in-None-clause-err c =
    let found = rw (c.pointer-from.ensures, c.pointer-from-2.ensures) at c.in_ok-value.ensures.lookup.ok in
    no_string found (λ e. let some = rw c.in-None.is at (c.in_ok-text.ensures.some.1 e) in absurd cc) refl
