use Rattle.sonic_text.proofs.BracketLemmas.{closes_once}
use Rattle.sonic_text.proofs.bracket_law.container_ends_once.Goals as goal

pub returns : goal.returns
returns c = closes_once
