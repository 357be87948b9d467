use Rattle.sonic_find.proofs.many_unchecked.find_many_unchecked.Goals as goal
use Rattle.sonic_find.proofs.AnswerLemmas.Cause.{never_refused}

pub syntax-requires : goal.syntax-requires
syntax-requires g c = (c.in-Some.ensures.some g.I.JsonInput.is_bytes).within

pub returns-clause-complete : goal.returns-clause-complete
returns-clause-complete g c = λ can.
    let error = rw c.to_u8_slice-text.ensures.bytes at (c.in-Some.ensures.some g.I.JsonInput.is_bytes) in
    absurd (never_refused can error.answer)
