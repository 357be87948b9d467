use Rattle.std.proofs.Common.{arith}
use Rattle.std.proofs.lemmas.Option.{IfSome_then}
use Rattle.sonic_text.specs.Values.{number, string}
use Rattle.sonic_parser.proofs.quick.short_scalar.Goals as goal

pub returns-then-byte-eq34-clause-end : goal.returns-then-byte-eq34-clause-end
returns-then-byte-eq34-clause-end c = IfSome_then c.short_string.result c.short_string.ensures (λ j s m. (s.0, omega (arith, c.requires, s.1), string (s.2 m).1))

pub returns-then-is_ascii_digit-clause-end : goal.returns-then-is_ascii_digit-clause-end
returns-then-is_ascii_digit-clause-end c = IfSome_then c.short_number.result c.short_number.ensures (λ j n m. (n.0, omega (arith, c.requires, n.1), number n.2))

pub returns-then-byte-eq45-clause-end : goal.returns-then-byte-eq45-clause-end
returns-then-byte-eq45-clause-end c =
    IfSome_then c.short_number-then-byte-eq45.result c.short_number-then-byte-eq45.ensures (λ j n m. (n.0, omega (arith, c.requires, n.1), number n.2))
