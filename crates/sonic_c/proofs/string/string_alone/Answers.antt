use Rattle.std.proofs.lemmas.Result.{err_from_is_err_and}
use Rattle.sonic_c.proofs.BegunLemmas.{string_begins, string_fails, fault_refused, whole_at, rest_refused, broken_refused, alone_at, whole_utf8}
use Rattle.sonic_c.proofs.string.string_alone.Goals as goal
use Rattle.sonic_c.specs.Internal.Begun.{misses}
use Rattle.sonic_text.proofs.Stops.{fault_within}
use Rattle.sonic_text.proofs.StringTexts.{string_utf8}
use Rattle.sonic_text.specs.Values.{string}

pub returns-in_err-start-clause-err : goal.returns-in_err-start-clause-err
returns-in_err-start-clause-err c =
    let p = err_from_is_err_and c.from_residual.result c.from_residual.ensures.1 in
    rw (p.1, p.2) (misses c.in_err-start.ensures.err)

pub string_end-requires : goal.string_end-requires
string_end-requires c = string_begins c.args.text.now c.in_ok-start.start c.in_ok-start.ensures.begun c.in_ok-start.ensures.place

pub returns-in_err-end-clause-err : goal.returns-in_err-end-clause-err
returns-in_err-end-clause-err c =
    let p = err_from_is_err_and c.from_residual-in_err-end.result c.from_residual-in_err-end.ensures.1 in
    let begun = c.in_ok-start.ensures.begun in
    rw (p.1, p.2) (fault_refused begun (string_fails begun c.in_ok-start.ensures.place c.in_err-end.ensures.err))

pub returns-in_err-end-clause-stop : goal.returns-in_err-end-clause-stop
returns-in_err-end-clause-stop c =
    let p = err_from_is_err_and c.from_residual-in_err-end.result c.from_residual-in_err-end.ensures.1 in
    let begun = c.in_ok-start.ensures.begun in
    rw (p.1, p.2) (fault_within (string_fails begun c.in_ok-start.ensures.place c.in_err-end.ensures.err))

pub returns-in_err-pass_rest-clause-err : goal.returns-in_err-pass_rest-clause-err
returns-in_err-pass_rest-clause-err c =
    let p = err_from_is_err_and c.from_residual-in_err-pass_rest.result c.from_residual-in_err-pass_rest.ensures.1 in
    let whole = whole_at c.in_ok-start.ensures.place (string c.in_ok-end.ensures.ok.3) in
    rw (p.1, p.2) (rest_refused c.in_ok-start.ensures.begun whole c.in_err-pass_rest.ensures.err)

pub returns-in_err-check-clause-err : goal.returns-in_err-check-clause-err
returns-in_err-check-clause-err c =
    let p = err_from_is_err_and c.from_residual-in_err-check.result c.from_residual-in_err-check.ensures.1 in
    let whole = whole_at c.in_ok-start.ensures.place (string c.in_ok-end.ensures.ok.3) in
    let broken = c.in_err-check.ensures.err in
    rw (p.1, p.2) (broken_refused c.in_ok-start.ensures.begun whole c.in_ok-pass_rest.ensures.ok broken.0 broken.1)

pub returns-clause-alone : goal.returns-clause-alone
returns-clause-alone c = alone_at c.in_ok-start.ensures.place (string c.in_ok-end.ensures.ok.3) c.in_ok-pass_rest.ensures.ok

pub returns-clause-string : goal.returns-clause-string
returns-clause-string c = record { bytes = c.in_ok-end.ensures.ok.2; is = c.in_ok-end.ensures.ok.3; escaped = c.in_ok-end.ensures.escaped }

pub returns-clause-utf8 : goal.returns-clause-utf8
returns-clause-utf8 c = whole_utf8 c.in_ok-check.ensures.ok

pub returns-clause-denotes : goal.returns-clause-denotes
returns-clause-denotes c = λ b s. string_utf8 (whole_utf8 c.in_ok-check.ensures.ok) s
