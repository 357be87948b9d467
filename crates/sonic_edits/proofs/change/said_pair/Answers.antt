use Rattle.sonic_edits.proofs.change.said_pair.Goals as goal

pub returns-in_default-clause-none : goal.returns-in_default-clause-none
returns-in_default-clause-none c = λ _. c.in_ok-key.ensures.none c.in_default.is
