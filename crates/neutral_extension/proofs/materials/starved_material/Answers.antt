use Rattle.std.proofs.Common.{ℕ, sym, subst, MatchOption}
use Rattle.pgraph.specs.pns_rules.Nodes.{starve, IsPossible}
use Rattle.pgraph.specs.pns_rules.Ends.{IsFirst, IsNever}
use Rattle.pgraph.specs.Tables.{shape}
use Rattle.pgraph.specs.View.{node_of}
use Rattle.neutral_extension.proofs.FindLemmas.{starved_found}
use Rattle.neutral_extension.proofs.materials.starved_material.Goals as goal

pub returns : goal.returns
returns c =
    let g = shape c.args.graph.now in
    let d = node_of c.args.leaf.now.node in
    let P = λ (x : ℕ). IsPossible g d (starve x) in
    subst (λ o. MatchOption o (IsNever P) (IsFirst P)) (sym c.least.ensures)
    (starved_found g d c.requires.sound.apart c.is_proper.ensures.proper c.minus-starved.result
    c.minus-unused.result c.meet.result c.args.leaf.now.scarce.unmade c.args.leaf.now.used
    c.args.leaf.now.intake.used c.raws.result c.minus-unused.ensures c.meet.ensures
    c.minus-starved.ensures c.requires.stands.used c.requires.stands.intake.used
    c.requires.stands.unmade c.raws.ensures c.rises.ensures.rising)
