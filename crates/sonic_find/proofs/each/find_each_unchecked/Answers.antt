use Rattle.sonic_find.proofs.each.find_each_unchecked.Goals as goal
use Rattle.sonic_find.proofs.AnswerLemmas.Each.{filled_answers}

pub returns : goal.returns
returns g c = filled_answers g.I.JsonInput.is_bytes c.fill_each.new.slots c.tell_all.new.slots c.requires.starts (rw c.to_u8_slice.ensures.bytes at c.fill_each.ensures) c.tell_all.ensures
