use Rattle.pns_rules.proofs.ListingLemmas as listings
use Rattle.pns_rules.proofs.listing.listing_resumes.Goals as goal

pub returns : goal.returns
returns c = listings.listing_resumes
