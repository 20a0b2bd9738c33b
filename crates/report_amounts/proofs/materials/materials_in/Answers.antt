use Rattle.std.proofs.Common.{◌≡◌, ◌<◌, ◌∙◌, sym, subst, true, ℕ, List}
use Rattle.report_rules.specs.number_sets.Sets.{has}
use Rattle.report_rules.specs.pns_rules.Shape.{Shape, shape_of}
use Rattle.report_rules.specs.pns_rules.Structure.{mats}
use Rattle.report_amounts.proofs.FlowLemmas.{materials_are}
use Rattle.report_amounts.proofs.materials.materials_in.Goals as goal

pub materials-materials-requires : goal.materials-materials-requires
materials-materials-requires c u h =
    subst (λ (g : Shape). u < g.units) (sym c.graph.ensures.same)
    (c.requires.known u (subst (λ (us : List ℕ). has us u ≡ true) c.units.ensures h))

pub returns : goal.returns
returns c =
    let g = shape_of c.args.site.now in
    let units = c.args.network.now.units in
    materials_are g c.graph.ensures.proper (has units) c.materials-materials.result
    (c.materials-materials.ensures ∙ (λ i. mats (c.graph.ensures.same i) (has (c.units.ensures i))))
    c.rises.ensures
