use Rattle.sonic_input.proofs.read.Read.check_invalid_utf8.Goals as goal

pub invariant_of-self : goal.invariant_of-self
invariant_of-self c = record {
  place = c.self.invariant.place;
  within = c.first_broken-self-inside.ensures.bound;
  next_invalid = λ e. (c.self.inside.index, rw c.if-self.true c.first_broken-self-inside.ensures.next_invalid);
  unscanned = λ e. absurd cc;
  utf8 = c.self.invariant.utf8;
  input = c.self.invariant.input;
}
