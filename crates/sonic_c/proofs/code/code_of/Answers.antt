use Rattle.std.proofs.Common.{arith}
use Rattle.sonic_c.proofs.CodeLemmas.{table_number}
use Rattle.sonic_c.proofs.code.code_of.Goals as goal

pub returns-in-1-to-32-clause-has : goal.returns-in-1-to-32-clause-has
returns-in-1-to-32-clause-has c = table_number c.args.number _ (omega arith) (omega arith)
