use Rattle.sonic_value.proofs.CompactLemmas.{opened, opened_text, opened_means, compact_sound}
use Rattle.sonic_value.specs.Views.{tree}
use Rattle.sonic_value.proofs.law.compact_text_is_a_document.Goals as goal

pub returns-clause-means : goal.returns-clause-means
returns-clause-means c = λ v h. rw (opened_text (tree v)) at (c.text_is_a_document.ensures.means (opened (tree v)) (tree v) (compact_sound v h) (opened_means (tree v) h))

pub returns-clause-valid : goal.returns-clause-valid
returns-clause-valid c = λ v h. rw (opened_text (tree v)) at (c.text_is_a_document.ensures.valid (opened (tree v)) (compact_sound v h))
