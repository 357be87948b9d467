use Rattle.sonic_lazy.proofs.law.document_is_one_number_or_has_one_reason.Goals as goal
use Rattle.sonic_lazy.proofs.RawNumberLemmas.{number_document_one, number_or_reason}

-- a text is decided, and by one reason
pub returns-clause-reason : goal.returns-clause-reason
returns-clause-reason c = number_or_reason

pub returns-clause-one : goal.returns-clause-one
returns-clause-one c = λ t n m x y. number_document_one x y
