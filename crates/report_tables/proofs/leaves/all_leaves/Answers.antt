use Rattle.std.proofs.Common.{◌≡◌, ◌∙◌, ◌∷◌, [], ◌<◌, ◌^◌, ℕ, ap, sym, subst, length, map}
use Rattle.std.proofs.lemmas.List.{length-map}
use Rattle.text_lines.specs.number_sets.Sets.{has}
use Rattle.cert_check.specs.pns_rules.Shape.{shape_of}
use Rattle.cert_check.specs.tree_rules.Accepted.{Tree, first_node}
use Rattle.cert_check.specs.tree_text_rules.OpenLeaves.{open_leaves}
use Rattle.cert_check.specs.pgraph.View.{node_of}
use Rattle.report_tables.specs.Opened.{opened_node}
use Rattle.report_tables.proofs.leaves.all_leaves.Goals as goal

pub check_nodes-requires-clause-few : goal.check_nodes-requires-clause-few
check_nodes-requires-clause-few c =
    let e : length c.in_ok-copy.copy ≡ length c.args.tree.now =
    ap (λ (ts : Tree). length ts) c.in_ok-copy.ensures
    ∙ length-map c.args.tree.now opened_node in
    subst (λ (n : ℕ). n < 2 ^ 32) (sym e) c.requires.few

pub returns-in-Ok : goal.returns-in-Ok
returns-in-Ok c =
    let g = shape_of c.args.site.now in
    let start : node_of (record { inside = c.empty.result; outside = c.empty-2.result })
    ≡ first_node =
    λ i. record { inside = has (c.empty.ensures i); outside = has (c.empty-2.ensures i) } in
    let copy : c.in_ok-copy.copy ≡ map opened_node c.args.tree.now = c.in_ok-copy.ensures in
    c.in-Ok.ensures.leaves ∙ (λ i. open_leaves g (start i ∷ []) (copy i) 0)
