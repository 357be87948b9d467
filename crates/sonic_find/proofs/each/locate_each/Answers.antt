use Rattle.sonic_find.proofs.AnswerLemmas.Cause.{only_memory}
use Rattle.sonic_find.proofs.AnswerLemmas.Each.{each_only_out, each_refusal_of}
use Rattle.sonic_find.proofs.HonestLemmas.{honest_of_each}
use Rattle.sonic_find.proofs.each.locate_each.Goals as goal

pub returns-in-Err-clause-err : goal.returns-in-Err-clause-err
returns-in-Err-clause-err g c = each_refusal_of c.in-Err.fault c.in-Err.ensures.err (rw c.to_u8_slice-text.ensures.bytes at c.error.ensures)

pub returns-in-Err-clause-complete : goal.returns-in-Err-clause-complete
returns-in-Err-clause-complete g c = λ can. only_memory _ c.in-Err.fault (each_only_out c.in-Err.fault can c.in-Err.ensures.err) c.error.ensures

pub returns-in-Err-clause-honest : goal.returns-in-Err-clause-honest
returns-in-Err-clause-honest g c = honest_of_each (each_refusal_of c.in-Err.fault c.in-Err.ensures.err (rw c.to_u8_slice-text.ensures.bytes at c.error.ensures))
