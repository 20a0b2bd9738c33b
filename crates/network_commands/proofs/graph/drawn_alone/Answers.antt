use Rattle.std.proofs.Common.{◌≡◌, subst, true, ℕ, List}
use Rattle.verdicts.specs.number_sets.Sets.{has}
use Rattle.network_commands.proofs.GraphLines.{alone_told}
use Rattle.network_commands.proofs.graph.drawn_alone.Goals as goal

pub graph_of-requires-clause-known : goal.graph_of-requires-clause-known
graph_of-requires-clause-known c u h =
    c.requires.feasible.structure.s3 u
    (subst (λ (t : List ℕ). has t u ≡ true) c.units.ensures h)

pub returns : goal.returns
returns c =
    alone_told (λ v. v.items) c.args.site.now c.args.network.now c.args.networks.now c.units.result
    c.graph_of.result c.units.ensures c.graph_of.ensures
