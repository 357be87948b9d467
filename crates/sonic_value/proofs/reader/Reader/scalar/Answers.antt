use Rattle.std.proofs.Common.{◌≡◌, ap}
use Rattle.std.proofs.lemmas.Result.{err_from_is_err_and}
use Rattle.sonic_parser.proofs.FaultLemmas.{stop_weaker}
use Rattle.sonic_parser.specs.Parsers.{ParserState}
use Rattle.sonic_text.specs.Strings.{strict}
use Rattle.sonic_text.specs.Values.{IsValue}
use Rattle.sonic_value.proofs.ScalarLemmas.{scalar_read, scalar_unread}
use Rattle.sonic_value.proofs.StringLemmas.{scalar_span}
use Rattle.sonic_value.proofs.reader.Reader.scalar.Goals as goal
use Rattle.sonic_value.specs.Internal.Readers.{BeginsNoContainer}

pub returns-in_err-value-clause-err : goal.returns-in_err-value-clause-err
returns-in_err-value-clause-err c =
    let p = err_from_is_err_and c.from_residual.result c.from_residual.ensures.1 in
    let begins : BeginsNoContainer c.self.inside.parser.text c.self.inside.parser.place = rw (← c.self.view_is) at c.requires in
    let fault = rw c.self.invariant.0 at c.in_err-value.ensures.err in
    rw (p.1, p.2, ← c.self.view_is) (stop_weaker c.in_err-value.field-0.0 (scalar_unread begins) fault)

pub scalar_value-requires : goal.scalar_value-requires
scalar_value-requires c =
    let passed = c.in_ok-value.ensures.ok in
    let text : c.skip_value.new.self.text ≡ c.self.inside.parser.text = ap (λ (p : ParserState). p.text) c.in_ok-value.ensures.moved in
    let begins : BeginsNoContainer c.self.inside.parser.text c.self.inside.parser.place = rw (← c.self.view_is) at c.requires in
    let value : IsValue strict c.self.inside.parser.text c.self.inside.parser.place c.skip_value.new.self.place = rw c.self.invariant.0 at passed.value in
    rw text (scalar_span passed.start passed.end value begins passed.escaped)

pub returns-clause-ok : goal.returns-clause-ok
returns-clause-ok c =
    let text : c.skip_value.new.self.text ≡ c.self.inside.parser.text = ap (λ (p : ParserState). p.text) c.in_ok-value.ensures.moved in
    let begins : BeginsNoContainer c.self.inside.parser.text c.self.inside.parser.place = rw (← c.self.view_is) at c.requires in
    let kept = rw (text, c.in_ok-value.ensures.ok.start, c.in_ok-value.ensures.ok.end) at c.in_ok-scalar_value.ensures in
    rw (← c.self.view_is) (scalar_read begins kept)
