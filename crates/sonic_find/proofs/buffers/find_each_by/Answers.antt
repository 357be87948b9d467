use Rattle.sonic_find.proofs.AnswerLemmas.Cause.{only_memory}
use Rattle.sonic_find.proofs.AnswerLemmas.Each.{each_refusal_so}
use Rattle.sonic_find.proofs.HonestLemmas.{honest_of_each}
use Rattle.sonic_find.proofs.buffers.find_each_by.Goals as goal

pub returns-in-Err-clause-err : goal.returns-in-Err-clause-err
returns-in-Err-clause-err g c = each_refusal_so c.in-Err.fault c.in-Err.ensures.err (rw c.to_u8_slice-text.ensures.bytes at c.error.ensures)

pub returns-in-Err-clause-complete : goal.returns-in-Err-clause-complete
returns-in-Err-clause-complete g c = λ can. only_memory _ c.in-Err.fault (c.in-Err.ensures.complete can) c.error.ensures

pub returns-in-Err-clause-honest : goal.returns-in-Err-clause-honest
returns-in-Err-clause-honest g c = honest_of_each (each_refusal_so c.in-Err.fault c.in-Err.ensures.err (rw c.to_u8_slice-text.ensures.bytes at c.error.ensures))
