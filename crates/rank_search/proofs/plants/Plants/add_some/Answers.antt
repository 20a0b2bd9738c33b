use Rattle.std.proofs.Common.{◌∷◌, [], Option, Some, sym, subst}
use Rattle.std.proofs.lemmas.Result.{on_ok_weaker}
use Rattle.rank_check.specs.tree_rules.Claim.{Network}
use Rattle.rank_search.specs.Plants.{IsAdded, AreAdded}
use Rattle.rank_search.proofs.PlantLemmas.{added_none, added_one}
use Rattle.rank_search.proofs.plants.Plants.add_some.Goals as goal

pub returns-in-None : goal.returns-in-None
returns-in-None c =
    subst (λ (o : Option Network). AreAdded c.args.self.now c.args.self.now (o ∷ []))
    (sym c.in-None.is) (added_none c.args.self.now c.are_distinct.ensures)

pub returns-in-Some : goal.returns-in-Some
returns-in-Some c =
    let old = c.args.self.now in
    let new = c.add.new.self in
    on_ok_weaker c.add.result
    (λ (added : IsAdded c.args.self.now c.add.new.self c.in-Some.network).
    subst (λ (o : Option Network). AreAdded c.args.self.now c.add.new.self (o ∷ []))
    (sym c.in-Some.is) (added_one old new c.in-Some.network added)) c.add.ensures
