use Rattle.sonic_min.proofs.DocumentLemmas.{document_spelled, document_one}
use Rattle.sonic_min.proofs.law.document_has_one_spelling.Goals as goal

pub returns : goal.returns
returns c = λ t v. record { some = document_spelled v; one = λ x y a b. document_one a b }
