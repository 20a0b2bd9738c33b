use Rattle.std.proofs.Common.{ℕ, false, ap, ◌∙◌, subst}
use Rattle.pgraph.specs.pns_rules.Structure.{is_used}
use Rattle.pgraph.specs.Tables.{shape}
use Rattle.pgraph.specs.View.{node_of}
use Rattle.neutral_extension.specs.OpenLeaf.{IsCounted}
use Rattle.neutral_extension.proofs.LeafLemmas.{unmade_at, single_at}
use Rattle.neutral_extension.proofs.open_leaf.leaf_at.Goals as goal

pub returns-clause-stands : goal.returns-clause-stands
returns-clause-stands c =
    let g = shape c.args.graph.now in
    let k = c.args.makers.now in
    let d = node_of c.args.node in
    let proper = c.is_proper.ensures.proper in
    let counted =
    subst (λ (n : ℕ). IsCounted k n (λ x. false) c.scarce_of.result) c.material_count.ensures
    c.scarce_of.ensures in
    record {
      intake = c.intake_of.ensures;
      unmade = unmade_at g k d proper c.requires.same c.requires.out c.scarce_of.result counted;
      single = single_at g k d proper c.requires.same c.requires.out c.scarce_of.result counted;
      used = c.used.ensures ∙ ap (is_used g) c.remaining_units-rest.ensures.is;
      raw_makers = c.raw_makers.ensures;
    }
