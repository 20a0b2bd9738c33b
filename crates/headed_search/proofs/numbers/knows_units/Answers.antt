use Rattle.std.proofs.Common.{◌∙◌, length, ap}
use Rattle.tree_parts.specs.pns_rules.Shape.{Shape}
use Rattle.headed_search.proofs.SetLemmas.{set_known}
use Rattle.headed_search.proofs.numbers.knows_units.Goals as goal

pub returns : goal.returns
returns c = λ h.
    set_known (length c.args.site.now.units) c.unit_count.result c.args.units c.below.result
    (c.unit_count.ensures ∙ ap (λ (g : Shape). g.units) c.graph.ensures.same) c.rises.ensures
    c.below.ensures (c.within.ensures.0 h)
