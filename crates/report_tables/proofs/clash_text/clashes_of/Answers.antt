use Rattle.std.proofs.Common.{◌≡◌, ◌∷◌, [], ◌∙◌, ap, sym, subst, List, true, false, None}
use Rattle.std.specs.List.{AllByRecursion}
use Rattle.cert_check.specs.tree_rules.Accepted.{first_node}
use Rattle.report_amounts.specs.report_rules.Clash.{RefutedAt}
use Rattle.report_tables.specs.View.{leaves_of, IsGood}
use Rattle.cert_check.specs.declared.open_leaf.OpenLeaf.{OpenLeaf}
use Rattle.cert_check.specs.tree_rules.Accepted.{Tree}
use Rattle.report_tables.proofs.LeafLists.{all_good}
use Rattle.report_tables.proofs.clash_text.clashes_of.Goals as goal

pub push_clashes-requires : goal.push_clashes-requires
push_clashes-requires c =
    let p = c.args.site.now in
    subst (λ (ls : List RefutedAt). AllByRecursion (IsGood p) ls)
    (sym (ap (λ (ts : Tree). leaves_of ts c.deref.result.now) c.nodes.ensures
    ∙ ap (λ (ls : List OpenLeaf). leaves_of c.args.tree.now ls) c.deref.ensures.value
    ∙ c.in_ok-leaves.ensures))
    (all_good p None (first_node ∷ []) c.args.tree.now 0
    ((λ u h. let f : false ≡ true = h in cc), tt) c.requires.accepted.passes)
