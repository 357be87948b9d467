use Rattle.std.proofs.Common.{arith, refl}
use Rattle.sonic_text.specs.Values.{number}
use Rattle.sonic_parser.proofs.BeginningLemmas.{plain_value}
use Rattle.sonic_parser.proofs.parser.Parser.skip_value.Goals as goal

pub returns-clause-ok : goal.returns-clause-ok
returns-clause-ok c =
    let n = rw (c.as_u8_slice.ensures.text, c.index-start.ensures.place) at c.in-Some.ensures.number in
    let digit = rw (c.as_u8_slice.ensures.text, c.index-start.ensures.place) at c.in-Some.ensures.digit in
    let whole = plain_value {m = c.self.inside.lossy} (λ q. omega (arith, digit, q)) n.0 n.1 (number n.2) in
    rw (← c.self.view_is, c.set_index.ensures, c.plain.ensures) record { start = c.index-start.ensures.place; end = refl; later = whole.later; value = whole.value; escaped = whole.escaped }
