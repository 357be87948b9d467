use Rattle.sonic_lazy.proofs.ListingLemmas.{listing_one}
use Rattle.sonic_lazy.proofs.law.container_has_one_listing.Goals as goal

-- the container has some ending, and one
pub returns : goal.returns
returns c = listing_one
