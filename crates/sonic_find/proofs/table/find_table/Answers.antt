use Rattle.sonic_find.proofs.table.find_table.Goals as goal
use Rattle.sonic_find.proofs.AnswerLemmas.Cause.{only_memory}
use Rattle.sonic_find.proofs.TableLemmas.Container.{honest_of_table, table_only_out, table_refusal_of}

pub returns-in-Err-clause-err : goal.returns-in-Err-clause-err
returns-in-Err-clause-err g c = table_refusal_of c.in-Err.fault c.in-Err.ensures.err (rw c.to_u8_slice-text.ensures.bytes at c.error.ensures)

pub returns-in-Err-clause-complete : goal.returns-in-Err-clause-complete
returns-in-Err-clause-complete g c = λ has. only_memory _ c.in-Err.fault (table_only_out c.in-Err.fault has c.in-Err.ensures.err) c.error.ensures

pub returns-in-Err-clause-honest : goal.returns-in-Err-clause-honest
returns-in-Err-clause-honest g c =
    honest_of_table (table_refusal_of c.in-Err.fault c.in-Err.ensures.err (rw c.to_u8_slice-text.ensures.bytes at c.error.ensures))
