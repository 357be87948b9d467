use Rattle.sonic_parser.proofs.HonestLemmas.{end_is_fault, shown_is_fault, none_of_value}
use Rattle.sonic_parser.proofs.law.honest_error_shows_the_fault.Goals as goal

pub returns-clause-not_end : goal.returns-clause-not_end
returns-clause-not_end c = λ m t p s e. end_is_fault p

pub returns-clause-fault : goal.returns-clause-fault
returns-clause-fault c = λ m t p s e. shown_is_fault p

pub returns-clause-value : goal.returns-clause-value
returns-clause-value c = λ m t p j e. none_of_value p
