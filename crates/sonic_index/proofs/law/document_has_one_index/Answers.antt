use Rattle.sonic_index.proofs.ListingLemmas.{index_one}
use Rattle.sonic_index.proofs.law.document_has_one_index.Goals as goal

pub returns : goal.returns
returns c = index_one
