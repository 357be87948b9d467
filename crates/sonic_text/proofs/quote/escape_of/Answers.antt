use Rattle.std.proofs.Common.{◌∙◌, arith}
use Rattle.sonic_text.proofs.QuoteLemmas.{table_right}
use Rattle.sonic_text.proofs.QuotedTextLemmas.{escape_utf8}
use Rattle.sonic_text.proofs.quote.escape_of.Goals as goal

pub shared_ref_as_front-from_utf8_unchecked : goal.shared_ref_as_front-from_utf8_unchecked
shared_ref_as_front-from_utf8_unchecked c = omega (arith, (table_right c.args.byte (omega arith) c.requires).1)

pub from_utf8_unchecked-requires : goal.from_utf8_unchecked-requires
from_utf8_unchecked-requires c = rw (table_right c.args.byte (omega arith) c.requires).0 (escape_utf8 c.args.byte c.requires)

pub returns : goal.returns
returns c = c.from_utf8_unchecked.ensures ∙ (table_right c.args.byte (omega arith) c.requires).0
