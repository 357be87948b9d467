use Rattle.sonic_text.proofs.string.rest_end.Goals as goal

pub returns-in-Closed-clause-ok : goal.returns-in-Closed-clause-ok
returns-in-Closed-clause-ok c i s = c.in-Closed.ensures.passed i (c.blocks-2.invariant.fits i s)
