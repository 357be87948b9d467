use Rattle.std.proofs.lemmas.Result.{err_from_is_err_and}
use Rattle.sonic_c.proofs.BegunLemmas.{number_fails, fault_refused, whole_at, rest_refused, alone_at}
use Rattle.sonic_c.proofs.number.number_alone.Goals as goal
use Rattle.sonic_c.specs.Internal.Begun.{misses}
use Rattle.sonic_text.proofs.Ascii.{number_utf8}
use Rattle.sonic_text.proofs.Stops.{number_fault_within}
use Rattle.sonic_text.proofs.ValueParts.{number_of_part}
use Rattle.sonic_text.specs.Values.{number}

pub returns-in_err-start-clause-err : goal.returns-in_err-start-clause-err
returns-in_err-start-clause-err c =
    let p = err_from_is_err_and c.from_residual.result c.from_residual.ensures.1 in
    rw (p.1, p.2) (misses c.in_err-start.ensures.err)

pub returns-in_err-end-clause-err : goal.returns-in_err-end-clause-err
returns-in_err-end-clause-err c =
    let p = err_from_is_err_and c.from_residual-in_err-end.result c.from_residual-in_err-end.ensures.1 in
    let begun = c.in_ok-start.ensures.begun in
    rw (p.1, p.2) (fault_refused begun (number_fails begun c.in_ok-start.ensures.place c.in_err-end.ensures.err))

pub returns-in_err-end-clause-stop : goal.returns-in_err-end-clause-stop
returns-in_err-end-clause-stop c =
    let p = err_from_is_err_and c.from_residual-in_err-end.result c.from_residual-in_err-end.ensures.1 in
    rw (p.1, p.2) (number_fault_within c.in_err-end.ensures.err)

pub returns-in_err-pass_rest-clause-err : goal.returns-in_err-pass_rest-clause-err
returns-in_err-pass_rest-clause-err c =
    let p = err_from_is_err_and c.from_residual-in_err-pass_rest.result c.from_residual-in_err-pass_rest.ensures.1 in
    let whole = whole_at c.in_ok-start.ensures.place (number c.in_ok-end.ensures.ok.2) in
    rw (p.1, p.2) (rest_refused c.in_ok-start.ensures.begun whole c.in_err-pass_rest.ensures.err)

pub number_text-requires : goal.number_text-requires
number_text-requires c = number_utf8 c.in_ok-end.ensures.ok.2

pub returns-clause-ok : goal.returns-clause-ok
returns-clause-ok c = record {
  start = c.in_ok-start.start;
  end = c.in_ok-end.end;
  alone = alone_at c.in_ok-start.ensures.place (number c.in_ok-end.ensures.ok.2) c.in_ok-pass_rest.ensures.ok;
  number = c.in_ok-end.ensures.ok.2;
  bytes = c.number_text.ensures;
}

pub returns-clause-number : goal.returns-clause-number
returns-clause-number c = rw c.number_text.ensures (number_of_part c.in_ok-end.ensures.ok.2)
