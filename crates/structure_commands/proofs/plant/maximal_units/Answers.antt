use Rattle.std.proofs.Common.{false, subst, ℕ, List}
use Rattle.text_lines.specs.number_sets.Sets.{has}
use Rattle.cert_check.specs.pns_rules.Structure.{IsUnion}
use Rattle.cert_check.specs.pgraph.Tables.{shape}
use Rattle.structure_commands.proofs.LintsMaximal.{empty_union}
use Rattle.structure_commands.proofs.plant.maximal_units.Goals as goal

pub returns-in-Some-clause-union : goal.returns-in-Some-clause-union
returns-in-Some-clause-union c =
    subst (λ (w : List ℕ). IsUnion (shape c.args.graph.now) (has w) (has c.in-Some.units))
    c.empty.ensures c.in-Some.ensures.union

pub returns-in-None-clause-union : goal.returns-in-None-clause-union
returns-in-None-clause-union c =
    empty_union (shape c.args.graph.now) c.empty.result c.empty-in-None.result c.empty.ensures
    c.empty-in-None.ensures c.in-None.ensures.none
