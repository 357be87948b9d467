use Rattle.std.proofs.Common.{◌≤◌, length}
use Rattle.sonic_error.specs.Errors.{IsErrorAt}
use Rattle.sonic_text.specs.Faults.{IsFault}
use Rattle.sonic_parser.specs.Parsers.{value_start}
use Rattle.sonic_parser.proofs.HonestLemmas.{honest_of_fault}
use Rattle.sonic_parser.proofs.parser.Parser.skip_one.Goals as goal

pub returns-in-Err-At-clause-honest : goal.returns-in-Err-At-clause-honest
returns-in-Err-At-clause-honest c =
    let parser = c.args.self.now in
    let within : parser.place ≤ length parser.text = rw (← c.self.view_is) (rw c.index-place.ensures.place at c.index-place.ensures.inside) in
    let fault : IsFault parser.lossy parser.text (value_start parser) c.in-Err-At.stop =
    rw c.skip_space_peek.ensures.moved at (rw c.in-Err-At.field-0-is at c.in-Err-At.ensures.err) in
    let error : IsErrorAt c.stop.result c.in-Err-At.stop.code parser.text c.in-Err-At.stop.place =
    rw (c.in-Err-At.ensures.moved, c.skip_space_peek.ensures.moved) at c.stop.ensures.error in
    honest_of_fault within fault error
