use Rattle.std.proofs.Common.{◌≡◌, ◌∙◌, sym, arith}
use Rattle.std.proofs.lemmas.Bool.Decides.{nat_tests}
use Rattle.sonic_text.specs.Places.{byte}
use Rattle.sonic_parser.proofs.DescentLemmas.{nested_begins}
use Rattle.sonic_parser.proofs.parts.opens_nested_array.Goals as goal

pub returns-then-byte_at-eq91-clause-nested : goal.returns-then-byte_at-eq91-clause-nested
returns-then-byte_at-eq91-clause-nested c = λ is.
    let outer : byte c.args.text.now c.args.place ≡ 91 = sym c.byte_at.ensures.value ∙ c.if-byte_at-eq91.true in
    let found : c.byte_at-then-byte_at-eq91.result ≡ 91 = grind (arith, nat_tests) in
    nested_begins c.args.text.now c.args.place outer (sym c.byte_at-then-byte_at-eq91.ensures.value ∙ found)
