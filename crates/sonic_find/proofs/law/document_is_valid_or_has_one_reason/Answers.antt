use Rattle.sonic_find.proofs.law.document_is_valid_or_has_one_reason.Goals as goal
use Rattle.sonic_find.proofs.DocumentLemmas.{document_one}

-- a text is decided, and by one reason
pub returns : goal.returns
returns c = document_one
