use Rattle.std.proofs.Common.{sym, subst, MatchOption}
use Rattle.pgraph.specs.pns_rules.Ends.{IsUndecided, IsFirst, IsNever}
use Rattle.pgraph.specs.Tables.{shape}
use Rattle.pgraph.specs.View.{node_of}
use Rattle.neutral_extension.proofs.FindLemmas.{undecided_found}
use Rattle.neutral_extension.proofs.materials.undecided_material.Goals as goal

pub returns : goal.returns
returns c =
    let g = shape c.args.graph.now in
    let d = node_of c.args.leaf.now.node in
    let P = IsUndecided g d in
    subst (λ o. MatchOption o (IsNever P) (IsFirst P)) (sym c.least.ensures)
    (undecided_found g d c.meet-undecided.result c.args.leaf.now.intake.needed c.made.result
    c.free_units-free.result c.meet-undecided.ensures c.requires.intake.needed c.made.ensures
    c.free_units-free.ensures.is c.rises.ensures.rising)
