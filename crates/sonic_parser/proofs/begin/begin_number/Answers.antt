use Rattle.sonic_text.specs.Faults.{number_fault}
use Rattle.sonic_parser.proofs.begin.begin_number.Goals as goal

pub returns-in-Err-clause-err : goal.returns-in-Err-clause-err
returns-in-Err-clause-err c = number_fault c.requires.begins c.in-Err.ensures.err
