use Rattle.std.proofs.Common.{sym}
use Rattle.std.proofs.lemmas.Str.{utf8_lossy-IsUtf8, IsUtf8-string_bytes}
use Rattle.sonic_parser.proofs.parser.strings.replace_invalid.Goals as goal

pub returns-in-Ok-clause-ok : goal.returns-in-Ok-clause-ok
returns-in-Ok-clause-ok c = sym (utf8_lossy-IsUtf8 _ (rw c.deref.ensures.value at c.in-Ok.ensures.1))

pub returns-in-Ok-from_utf8_lossy-clause-text : goal.returns-in-Ok-from_utf8_lossy-clause-text
returns-in-Ok-from_utf8_lossy-clause-text c = rw c.into_bytes.ensures.value (IsUtf8-string_bytes c.in-Ok-from_utf8_lossy.text)
