use Rattle.sonic_value.proofs.LawLemmas.{schema_filled_one}
use Rattle.sonic_value.proofs.law.schema_is_filled_or_has_one_reason.Goals as goal

pub returns : goal.returns
returns c = schema_filled_one
