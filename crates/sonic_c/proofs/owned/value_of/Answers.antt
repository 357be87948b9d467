use Rattle.sonic_c.proofs.TextLemmas.{text_errors}
use Rattle.sonic_c.proofs.owned.value_of.Goals as goal

pub returns-in-Ok-clause-err : goal.returns-in-Ok-clause-err
returns-in-Ok-clause-err c = text_errors c.from_str.result c.in-Ok.ensures.ok c.from_str.ensures.err
