use Rattle.std.proofs.Common.{SFits, rules}
use Rattle.std.proofs.lemmas.Int.{to_z-of_z}
use Rattle.std.proofs.lemmas.List.Elements.{All-set}
use Rattle.std.specs.Int.{w128}
use Rattle.scaled_flows.specs.integer_laws.Range.{InRange}
use Rattle.certified_bounds.proofs.number_list.shorten_all.Goals as goal

pub all-preserved : goal.all-preserved
all-preserved c =
    let f : SFits w128 c.shortened.result = search rules in
    simp to_z-of_z
    (All-set InRange c.all.numbers c.all.number-index c.shortened.result c.shortened.ensures
    c.all.invariant)
