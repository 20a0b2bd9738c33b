use Rattle.std.proofs.Common.{Some, Option, refl, sym, subst}
use Rattle.rank_check.specs.tree_rules.Claim.{Network}
use Rattle.rank_search.specs.Listing.{IsValueFor}
use Rattle.rank_search.proofs.listing.value_for.Goals as goal

pub returns-in-Some : goal.returns-in-Some
returns-in-Some c =
    subst (λ (o : Option Network). IsValueFor o (Some c.value_of.result)) (sym c.in-Some.is)
    (c.value_of.result, refl, c.value_of.ensures)
