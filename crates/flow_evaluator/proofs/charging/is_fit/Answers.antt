use Rattle.std.proofs.Common.{◌≤◌, pos, ◌≤ℤ◌, sym, subst, rules, SFits}
use Rattle.std.specs.Int.{w128}
use Rattle.std.proofs.lemmas.Int.{to_z-of_z}
use Rattle.dual_simplex.specs.integer_laws.Range.{InRange}
use Rattle.dual_simplex.specs.pns_rules.Shape.{Shape}
use Rattle.dual_simplex.specs.pgraph.Tables.{shape}
use Rattle.dual_simplex.specs.pgraph.View.{node_of}
use Rattle.dual_simplex.specs.flow_rules.Cover.{IsCover, Covers}
use Rattle.dual_simplex.specs.pgraph.CoversView.{cover_of}
use Rattle.flow_evaluator.proofs.ChargingLemmas.{small_beside, fit_is}
use Rattle.flow_evaluator.proofs.charging.is_fit.Goals as goal

pub covers_node-requires : goal.covers_node-requires
covers_node-requires c =
    let n = node_of c.args.node.now in
    let d = cover_of c.args.cover.now in
    let few =
    subst (λ (g : Shape). g.units ≤ 128) (sym c.graph-graph.ensures.same)
    c.graph-graph.ensures.few_units in
    small_beside (shape c.graph-graph.result.now) n d few
    (c.is_cover.ensures.0 c.if-not-is_cover.false)

pub returns : goal.returns
returns c = λ t.
    let n = node_of c.args.node.now in
    let d = cover_of c.args.cover.now in
    let same = c.graph-graph.ensures.same in
    let fits : SFits w128 c.args.cover.now.weight = search rules in
    let range : InRange c.args.cover.now.weight =
    simp to_z-of_z at (c.is_weight.ensures.in_range c.if-not-is_weight.false) in
    let more : pos 0 ≤ℤ c.args.cover.now.weight =
    simp to_z-of_z at (c.is_weight.ensures.not_negative c.if-not-is_weight.false) in
    fit_is c.args.site.now n d c.graph-graph.ensures.few_units
    (subst (λ (g : Shape). IsCover g n d) same (c.is_cover.ensures.0 c.if-not-is_cover.false))
    range more (subst (λ (g : Shape). Covers g n d) same (c.covers_node.ensures.0 t))
