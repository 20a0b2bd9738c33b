use Rattle.std.proofs.Common.{ℕ, sym, subst, MatchOption}
use Rattle.pgraph.specs.pns_rules.Nodes.{raw, IsPossible}
use Rattle.pgraph.specs.pns_rules.Ends.{IsFirst, IsNever}
use Rattle.pgraph.specs.Tables.{shape}
use Rattle.pgraph.specs.View.{node_of}
use Rattle.neutral_extension.proofs.FindLemmas.{raw_found}
use Rattle.neutral_extension.proofs.units.raw_unit.Goals as goal

pub returns : goal.returns
returns c =
    let g = shape c.args.graph.now in
    let d = node_of c.args.leaf.now.node in
    let P = λ (u : ℕ). IsPossible g d (raw u) in
    subst (λ o. MatchOption o (IsNever P) (IsFirst P)) (sym c.least.ensures)
    (raw_found g d c.meet-found.result c.free_units.result c.args.leaf.now.raw_makers
    c.meet-found.ensures c.free_units.ensures.is c.requires.raw_makers c.rises.ensures.rising)
