use Rattle.sonic_lazy.proofs.ListingLemmas.{listing_either}
use Rattle.sonic_lazy.proofs.law.utf8_has_the_same_items.Goals as goal

-- nothing is broken
pub returns : goal.returns
returns c = λ t kind listing utf8. (listing_either utf8, listing_either utf8)
