use Rattle.std.proofs.Common.{◌≡◌, length, ap, ◌∙◌, rules}
use Rattle.rank_laws.specs.pns_rules.Shape.{Shape}
use Rattle.rank_check.proofs.LeafLemmas.{all_decided, not_decided}
use Rattle.rank_check.proofs.leaf.is_only.Goals as goal

pub returns-then-not-within : goal.returns-then-not-within
returns-then-not-within c =
    let count : c.unit_count.result ≡ length c.args.site.now.units =
    c.unit_count.ensures ∙ ap (λ (g : Shape). g.units) c.graph-graph.ensures.same in (
      (λ h. absurd cc),
      (λ h. absurd
          (not_decided c.args.site.now c.args.network.now c.unit_count.result c.below-all.result
          c.args.node.now.inside c.args.node.now.outside c.union-decided.result
          c.args.network.now.units count c.below-all.ensures c.union-decided.ensures
          (λ i. c.args.network.now.units)
          (λ within. let t = c.within.ensures.1 within in search rules) h)),
    )

pub returns : goal.returns
returns c =
    let count : c.unit_count.result ≡ length c.args.site.now.units =
    c.unit_count.ensures ∙ ap (λ (g : Shape). g.units) c.graph-graph.ensures.same in
    all_decided c.args.site.now c.args.network.now c.unit_count.result c.below-all.result
    c.args.node.now.inside c.args.node.now.outside c.union-decided.result c.units.result count
    c.below-all.ensures c.union-decided.ensures c.units.ensures
    (c.within.ensures.0 c.if-not-within.false) c.are_same.result c.are_same.ensures
