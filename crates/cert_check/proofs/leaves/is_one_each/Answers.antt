use Rattle.std.proofs.Common.{◌≡◌, ℕ, List, length, sym, subst, ap, ◌∙◌, eqb-true, eq-eqb}
use Rattle.tree_text_rules.specs.number_sets.Sets.{listed}
use Rattle.tree_text_rules.specs.pns_rules.Shape.{Shape, IsProper}
use Rattle.tree_text_rules.specs.pns_rules.Structure.{mats}
use Rattle.tree_text_rules.specs.flow_rules.Net.{net_of}
use Rattle.tree_text_rules.specs.flow_rules.Relaxed.{stays, rows}
use Rattle.charges.specs.pgraph.Tables.{shape}
use Rattle.charges.specs.pgraph.View.{node_of}
use Rattle.cert_check.proofs.RowLemmas.{left_known, rows_are}
use Rattle.cert_check.proofs.leaves.is_one_each.Goals as goal

pub materials-rows-requires : goal.materials-rows-requires
materials-rows-requires c =
    left_known (shape c.graph-graph.result.now) (node_of c.args.node.now) c.units_left.result
    c.units_left.ensures

pub returns : goal.returns
returns c =
    let n = node_of c.args.node.now in
    let proper = subst IsProper (sym c.graph-graph.ensures.same) c.graph-graph.ensures.proper in
    let rs : c.materials-rows.result ≡ rows (net_of c.args.site.now) n =
    rows_are (shape c.graph-graph.result.now) n c.units_left.result c.units_left.ensures proper
    c.materials-rows.result c.materials-rows.ensures c.rises.ensures.rising
    ∙ ap (λ (g : Shape). listed g.materials (mats g (stays n))) c.graph-graph.ensures.same in
    let count : c.count.result ≡ length (rows (net_of c.args.site.now) n) =
    c.count.ensures ∙ ap (λ (xs : List ℕ). length xs) rs in (
      (λ h. eqb-true (length c.args.ys.now) c.count.result h ∙ count),
      (λ e. eq-eqb (length c.args.ys.now) c.count.result (e ∙ sym count)),
    )
