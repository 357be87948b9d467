use Rattle.sonic_value.proofs.LawLemmas.{text_read_one}
use Rattle.sonic_value.proofs.law.text_is_read_or_has_one_reason.Goals as goal

pub returns : goal.returns
returns c = text_read_one
