use Rattle.std.proofs.lemmas.Option.{IfSome_then}
use Rattle.sonic_parser.proofs.BeginningLemmas.{member_item}
use Rattle.sonic_parser.proofs.quick.value_place.Goals as goal

pub returns-in-Object : goal.returns-in-Object
returns-in-Object c = rw c.in-Object.is (IfSome_then c.skip_key.result c.skip_key.ensures (λ v key. member_item key.0 key.1 key.3))
