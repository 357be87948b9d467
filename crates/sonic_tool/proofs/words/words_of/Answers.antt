use Rattle.std.proofs.Common.{ap, map, string_bytes}
use Rattle.sonic_tool.specs.Words.{texts}
use Rattle.sonic_tool.proofs.words.words_of.Goals as goal

pub returns-in_ok-after_name-in-Ok-clause-words : goal.returns-in_ok-after_name-in-Ok-clause-words
returns-in_ok-after_name-in-Ok-clause-words c = rw c.in-Ok.is (texts (ap (map string_bytes) c.in_ok-after_name-in-Ok.ensures))
