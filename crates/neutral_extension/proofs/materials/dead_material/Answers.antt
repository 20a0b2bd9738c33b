use Rattle.std.proofs.Common.{sym, subst, MatchOption}
use Rattle.pgraph.specs.pns_rules.Ends.{IsDead, IsFirst, IsNever}
use Rattle.pgraph.specs.Tables.{shape}
use Rattle.pgraph.specs.View.{node_of}
use Rattle.neutral_extension.proofs.FindLemmas.{dead_found}
use Rattle.neutral_extension.proofs.materials.dead_material.Goals as goal

pub returns : goal.returns
returns c =
    let g = shape c.args.graph.now in
    let d = node_of c.args.leaf.now.node in
    let P = IsDead g d in
    subst (λ o. MatchOption o (IsNever P) (IsFirst P)) (sym c.least.ensures)
    (dead_found g d c.meet-dead.result c.args.leaf.now.intake.needed c.args.leaf.now.scarce.unmade
    c.meet-dead.ensures c.requires.intake.needed c.requires.unmade c.is_proper.ensures.proper
    c.rises.ensures.rising)
