use Rattle.sonic_text.proofs.string.skip_rest.Goals as goal

pub returns-in-Err-clause-none : goal.returns-in-Err-clause-none
returns-in-Err-clause-none c i s none = (_, c.in-Err.ensures.err i s)
