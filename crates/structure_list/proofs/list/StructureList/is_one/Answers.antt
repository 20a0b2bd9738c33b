use Rattle.std.proofs.Common.{subst, List, ℕ}
use Rattle.pgraph.specs.Tables.{shape}
use Rattle.structure_list.specs.Rest.{Rest, IsToCome}
use Rattle.structure_list.proofs.list.StructureList.is_one.Goals as goal

pub returns-clause-exists : goal.returns-clause-exists
returns-clause-exists c =
    let P = λ (r : Rest). (xs : List (List ℕ)) × IsToCome r xs in
    subst P c.self.view_is
    (c.listing_exists.ensures.exists (shape c.self.inside.graph.now) c.self.inside.last
    c.is_proper.ensures.proper)

pub returns-clause-unique : goal.returns-clause-unique
returns-clause-unique c =
    c.listing_exists.ensures.unique (shape c.args.self.now.graph) c.args.self.now.last
