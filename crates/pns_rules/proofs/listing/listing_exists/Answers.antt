use Rattle.pns_rules.proofs.ListingLemmas.{listing_is_one}
use Rattle.pns_rules.proofs.SortLemmas.{a_listing}
use Rattle.pns_rules.proofs.listing.listing_exists.Goals as goal

pub returns-clause-exists : goal.returns-clause-exists
returns-clause-exists c = λ g after proper. a_listing g proper after

pub returns-clause-unique : goal.returns-clause-unique
returns-clause-unique c = listing_is_one
