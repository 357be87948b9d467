use Rattle.sonic_reports.proofs.EditLemmas.{text_errors}
use Rattle.sonic_reports.proofs.commands.edit.read.Goals as goal

pub returns-in-Ok-clause-err : goal.returns-in-Ok-clause-err
returns-in-Ok-clause-err c = text_errors c.from_str.result c.in-Ok.ensures.cases.0 c.from_str.ensures.err
