use Rattle.sonic_min.specs.Texts.{tight, wide_gaps}
use Rattle.sonic_min.proofs.DocumentLemmas.{text_valid, document_means}
use Rattle.sonic_min.proofs.SpreadLemmas.{text_document, tight_spaces, lines_spaces}
use Rattle.sonic_min.proofs.law.document_means_the_same.Goals as goal

pub returns-clause-small : goal.returns-clause-small
returns-clause-small c = λ t x v valid a m. (text_valid tight tight_spaces valid a, document_means a (text_document tight tight_spaces a) m)

pub returns-clause-wide : goal.returns-clause-wide
returns-clause-wide c = λ t width x v valid a m. (
  text_valid (wide_gaps width) (lines_spaces width) valid a,
  document_means a (text_document (wide_gaps width) (lines_spaces width) a) m,
)
