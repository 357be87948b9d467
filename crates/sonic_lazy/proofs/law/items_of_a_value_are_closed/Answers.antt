use Rattle.sonic_lazy.proofs.ListingLemmas.{listing_of_whole}
use Rattle.sonic_lazy.proofs.law.items_of_a_value_are_closed.Goals as goal

-- a value has no fault
pub returns : goal.returns
returns c = λ t kind listing. listing_of_whole
