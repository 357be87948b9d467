use Rattle.std.proofs.lemmas.Option.{IfSome_then}
use Rattle.sonic_text.specs.Values.{number, string}
use Rattle.sonic_parser.proofs.quick.scalar_end.Goals as goal

pub returns-then-byte-eq34-clause-end : goal.returns-then-byte-eq34-clause-end
returns-then-byte-eq34-clause-end c = IfSome_then c.skip_string.result c.skip_string.ensures.some (λ j s. (s.0, s.1, string s.3))

pub returns-in-Some-clause-end : goal.returns-in-Some-clause-end
returns-in-Some-clause-end c = let n = c.in-Some.ensures.number in (n.0, n.1, number n.2)

pub returns-in-None-clause-end : goal.returns-in-None-clause-end
returns-in-None-clause-end c = IfSome_then c.skip_number.result c.skip_number.ensures.some (λ j n. (n.0, n.1, number n.2))

pub returns-then-byte-eq45-clause-end : goal.returns-then-byte-eq45-clause-end
returns-then-byte-eq45-clause-end c = IfSome_then c.skip_number-then-byte-eq45.result c.skip_number-then-byte-eq45.ensures.some (λ j n. (n.0, n.1, number n.2))

pub returns-clause-end : goal.returns-clause-end
returns-clause-end c = IfSome_then c.literal_ahead.result c.literal_ahead.ensures.end (λ j e. e c.args.lossy)
