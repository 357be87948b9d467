use Rattle.std.proofs.Common.{refl}
use Rattle.std.proofs.lemmas.Result.{err_from_is_err_and}
use Rattle.sonic_text.specs.Values.IsValue.{string}
use Rattle.sonic_text.specs.Faults.IsFault.{string_fault}
use Rattle.sonic_parser.proofs.begin.begin_string.Goals as goal

pub returns-in_err-string-clause-err : goal.returns-in_err-string-clause-err
returns-in_err-string-clause-err c =
    let p = err_from_is_err_and c.from_residual.result c.from_residual.ensures.1 in
    rw (p.1, p.2) (string_fault c.requires c.in_err-string.ensures.err)

pub returns-clause-ok : goal.returns-clause-ok
returns-clause-ok c =
    let ok = c.in_ok-string.ensures.ok in
    rw c.of_string.ensures record { start = refl; later = ok.0; within = ok.1; value = string ok.3; escaped = c.in_ok-string.ensures.escaped }
