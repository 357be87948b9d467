use Rattle.std.proofs.Common.{refl}
use Rattle.std.proofs.lemmas.Result.{err_from_is_err_and}
use Rattle.sonic_text.proofs.Stops.{fault_within}
use Rattle.sonic_parser.proofs.FaultLemmas.{stop_weaker}
use Rattle.sonic_parser.proofs.BeginningLemmas.{container_value}
use Rattle.sonic_parser.proofs.parser.Parser.skip_other.Goals as goal

pub returns-in_ok-end-in-Inside-clause-ok : goal.returns-in_ok-end-in-Inside-clause-ok
returns-in_ok-end-in-Inside-clause-ok c =
    let begun = rw (c.in-Inside.is, c.as_u8_slice-text.ensures.text, c.index-start.ensures.place) at c.in_ok-value.ensures.ok in
    let within = rw (← c.self.view_is) at c.in_ok-end-in-Inside.ensures.within in
    let value = rw (← c.self.view_is) at c.in_ok-end-in-Inside.ensures.ok in
    let whole = container_value begun.2 within value in
    rw (← c.self.view_is, c.set_index-in-Inside.ensures) record { start = refl; end = refl; later = whole.later; value = whole.value; escaped = whole.escaped }

pub returns-in_err-value-clause-within : goal.returns-in_err-value-clause-within
returns-in_err-value-clause-within c =
    let p = err_from_is_err_and c.from_residual.result c.from_residual.ensures.1 in
    rw (p.1, p.2, ← c.self.view_is) (fault_within (rw c.as_u8_slice-text.ensures.text at c.in_err-value.ensures.err))

pub returns-in_err-end-in-Inside-clause-within : goal.returns-in_err-end-in-Inside-clause-within
returns-in_err-end-in-Inside-clause-within c =
    let p = err_from_is_err_and c.from_residual-in_err-end-in-Inside.result c.from_residual-in_err-end-in-Inside.ensures.1 in
    rw (p.1, p.2, ← c.self.view_is) (stop_weaker _ (λ s f. fault_within f) (rw (← c.self.view_is) at c.in_err-end-in-Inside.ensures.err))
