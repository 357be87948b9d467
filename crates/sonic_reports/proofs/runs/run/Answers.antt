use Rattle.std.proofs.Common.{rules, refl}
use Rattle.sonic_reports.proofs.SessionLemmas.{prepared, delivered, broken, read_failed, out_of_memory, same_source}
use Rattle.sonic_reports.proofs.runs.run.Goals as goal

pub returns-in-Ok-deliver-clause-outcome : goal.returns-in-Ok-deliver-clause-outcome
returns-in-Ok-deliver-clause-outcome g c =
    delivered (prepared _ c.in-Ok.request c.in-Ok.ensures.asked c.in-Ok-answer.ensures.answered) c.in-Ok-deliver.ensures.all c.in-Ok-deliver.ensures.sent (c.in-Ok.ensures.calm (λ e. cc)) c.in-Ok-deliver.ensures.calm
    (λ u. same_source g.S.Source.left g.S.Source.faults (c.in-Ok.ensures.unread u))

pub returns-clause-outcome : goal.returns-clause-outcome
returns-clause-outcome g c =
    broken (prepared _ c.in-Ok.request c.in-Ok.ensures.asked c.in-Ok-answer.ensures.answered) c.in-Err.ensures.prefix (c.in-Ok.ensures.calm (λ e. cc)) c.in-Err.ensures.cause
    (λ u. same_source g.S.Source.left g.S.Source.faults (c.in-Ok.ensures.unread u))

pub returns-in-Err-Fault-clause-outcome : goal.returns-in-Err-Fault-clause-outcome
returns-in-Err-Fault-clause-outcome g c = read_failed refl (search rules) refl (search rules)

pub returns-in-Err-Memory-clause-outcome : goal.returns-in-Err-Memory-clause-outcome
returns-in-Err-Memory-clause-outcome g c = out_of_memory refl (search rules) refl (search rules) (search rules)
