use Rattle.sonic_text.proofs.BracketLemmas.{string_inside}
use Rattle.sonic_text.proofs.bracket_law.string_is_inside.Goals as goal

pub returns : goal.returns
returns c = string_inside
