use Rattle.sonic_text.proofs.Strings.{string_one}
use Rattle.sonic_text.proofs.string_law.string_denotes_one_text.Goals as goal

pub returns : goal.returns
returns c m t i j k b d h g = string_one h g
