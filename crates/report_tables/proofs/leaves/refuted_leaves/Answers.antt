use Rattle.std.proofs.Common.{◌≡◌, ◌∙◌, ap, sym, refl, List, ◌∷◌, [], map}
use Rattle.std.specs.Prelude.{flat_map}
use Rattle.std.proofs.lemmas.Result.{IfOk-weaker}
use Rattle.cert_check.specs.pns_rules.Shape.{shape_of}
use Rattle.cert_check.specs.tree_rules.Accepted.{Tree, first_node}
use Rattle.cert_check.specs.tree_text_rules.OpenLeaves.{open_leaves}
use Rattle.cert_check.specs.declared.open_leaf.OpenLeaf.{OpenLeaf}
use Rattle.cert_check.specs.OpenLeaves.{leaves_at}
use Rattle.report_tables.specs.Opened.{opened_node, refuted_at}
use Rattle.report_tables.specs.View.{leaves_of}
use Rattle.report_tables.proofs.LeafLists.{refuted_are}
use Rattle.report_tables.proofs.leaves.refuted_leaves.Goals as goal

pub returns : goal.returns
returns c =
    let g = shape_of c.args.site.now in
    let tree = c.args.tree.now in
    let leaves : leaves_at c.deref.result.now
    ≡ open_leaves g (first_node ∷ []) (map opened_node tree) 0
    = ap (λ (ls : List OpenLeaf). leaves_at ls) c.deref.ensures.value ∙ c.in_ok-leaves.ensures in
    IfOk-weaker c.refuted_among.result _ _
    (λ v h. ap (λ (ts : Tree). leaves_of ts v.items) (sym c.nodes.ensures) ∙ h
    ∙ (λ i. flat_map (refuted_at (c.nodes.ensures i)) (leaves i))
    ∙ refuted_are g (first_node ∷ []) tree tree 0 refl)
    c.refuted_among.ensures
