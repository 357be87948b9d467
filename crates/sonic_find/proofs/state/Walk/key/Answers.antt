use Rattle.sonic_find.proofs.state.Walk.key.Goals as goal

-- the text is the same
pub invariant_of-self : goal.invariant_of-self
invariant_of-self c = rw c.key.ensures.moved (record { checks = c.self.invariant.checks; escaped = c.self.invariant.escaped })
