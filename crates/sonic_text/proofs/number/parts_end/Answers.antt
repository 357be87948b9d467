use Rattle.std.proofs.Common.{◌≤◌, length}
use Rattle.std.proofs.lemmas.Result.{err_from_is_err_and, IfErr-weaker}
use Rattle.sonic_error.specs.declared.code.ErrorCode.TheVariants.{InvalidNumber}
use Rattle.sonic_text.specs.Places.{stop_at}
use Rattle.sonic_text.specs.Numbers.{IsExponentFault, IsNumberFault}
use Rattle.sonic_text.specs.Numbers.IsNumberFault.{in_fraction, in_exponent}
use Rattle.sonic_text.proofs.number.parts_end.Goals as goal

pub returns-in_err-fraction-clause-err : goal.returns-in_err-fraction-clause-err
returns-in_err-fraction-clause-err c =
    let whole = rw c.skip_minus.ensures.place at c.in_ok-whole.ensures.ok.2 in
    let p = err_from_is_err_and c.from_residual-in_err-fraction.result c.from_residual-in_err-fraction.ensures.1 in
    let f = c.in_err-fraction.ensures.err in
    rw (p.1, p.2) (f.0, in_fraction {w = c.in_ok-whole.whole} whole f.1)

pub returns-clause-err : goal.returns-clause-err
returns-clause-err c =
    let whole = rw c.skip_minus.ensures.place at c.in_ok-whole.ensures.ok.2 in
    let t = c.args.text.now in
    IfErr-weaker c.exponent_end.result (λ p. (p ≤ length t) × IsExponentFault t c.in_ok-fraction.fraction (stop_at t p InvalidNumber)) (λ p. (p ≤ length t) × IsNumberFault t c.args.start (stop_at t p InvalidNumber))
    (λ p f. (f.0, in_exponent {w = c.in_ok-whole.whole} {f = c.in_ok-fraction.fraction} whole c.in_ok-fraction.ensures.ok.2 f.1)) c.exponent_end.ensures.err
