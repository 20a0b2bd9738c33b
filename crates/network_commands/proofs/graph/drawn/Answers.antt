use Rattle.std.proofs.Common.{option_map}
use Rattle.verdicts.specs.number_sets.Sets.{has}
use Rattle.verdicts.specs.pns_rules.Shape.{shape_of}
use Rattle.verdicts.specs.pgraph.Tables.{shape}
use Rattle.command_files.proofs.studio_rules.Cited.{maximal_from, none_from}
use Rattle.network_commands.proofs.GraphLines.{graph_told, empty_told}
use Rattle.network_commands.proofs.graph.drawn.Goals as goal

pub graph_of-requires-clause-known : goal.graph_of-requires-clause-known
graph_of-requires-clause-known c u h =
    (maximal_from (shape c.graph.result.now) (shape_of c.args.site.now) c.empty.result
    c.in-Some.units c.graph.ensures.same c.empty.ensures c.in-Some.ensures.union
    c.in-Some.ensures.structure).structure.s3 u h

pub returns-in-Some : goal.returns-in-Some
returns-in-Some c =
    let p = c.args.site.now in
    graph_told (λ v. v.items) p (option_map (λ n. n.now) c.args.network) c.args.networks.now
    (has c.in-Some.units) c.graph_of.result
    (maximal_from (shape c.graph.result.now) (shape_of p) c.empty.result c.in-Some.units
    c.graph.ensures.same c.empty.ensures c.in-Some.ensures.union c.in-Some.ensures.structure)
    c.graph_of.ensures

pub returns-in-None : goal.returns-in-None
returns-in-None c =
    let p = c.args.site.now in
    empty_told (λ v. v.items) p (option_map (λ n. n.now) c.args.network) c.args.networks.now
    c.empty_graph.result
    (none_from (shape c.graph.result.now) (shape_of p) c.empty.result c.graph.ensures.same
    c.empty.ensures c.in-None.ensures.none)
    c.empty_graph.ensures
