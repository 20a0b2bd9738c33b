use Rattle.std.proofs.Common.{◌≡◌, ℕ, List, length, take, drop, ◌++◌, sym, ap, ap₂, ◌∙◌, subst}
use Rattle.std.proofs.Common.{arith}
use Rattle.rank_check.specs.tree_rules.Tree.{IsTree}
use Rattle.rank_check.specs.tree_rules.Accepted.{Tree}
use Rattle.abb_search.specs.search_tree.Cells.{Cell}
use Rattle.abb_search.specs.search_tree.Shut.{shut_cells}
use Rattle.abb_search.proofs.search_tree.Cited.{shut_at, shut_linked}
use Rattle.rank_search.specs.Naming.{Names, names_at, opened}
use Rattle.rank_search.proofs.MarkLemmas.{opened_is_tree, length-opened, written_over}
use Rattle.rank_search.proofs.naming.named_tree.Goals as goal

pub from_nodes-requires : goal.from_nodes-requires
from_nodes-requires c =
    let of = c.in_ok-preorder.ensures in
    let ms = c.args.proofs.now in
    let cells = c.args.pool.now.payloads in
    let nodes = c.in_ok-preorder.preorder.nodes.items in
    let names = c.args.names.now in
    let order = c.in_ok-preorder.preorder.order.items in
    let plain : IsTree nodes = subst (λ (t : Tree). IsTree t) (sym of.nodes_are)
    (c.preorder_is_tree.ensures.tree (shut_cells ms cells) order
    (shut_linked ms cells c.requires.linked)
    (ap (λ (d : Cell). d.option) (shut_at ms cells 0 c.requires.linked.some) ∙ c.requires.root)
    of.is_preorder) in
    let made : c.take_marks.new.nodes ≡ opened (names_at names order) nodes
    = c.in_ok-marks.ensures.nodes
    ∙ ap₂ (λ (ns : Names) (ts : Tree). opened ns ts)
    (ap (λ (is : List ℕ). names_at names is) c.deref.ensures.value) c.deref_mut.ensures.value in
    let whole : take c.in_ok-preorder.preorder.nodes.len
    (c.take_marks.new.nodes ++ drop (length c.take_marks.new.nodes) nodes)
    ≡ c.take_marks.new.nodes
    = written_over c.take_marks.new.nodes nodes c.in_ok-preorder.preorder.nodes.len
    (ap (λ (t : Tree). length t) made ∙ length-opened (names_at names order) nodes)
    (let l = c.deref_mut.ensures.len in let v =
    ap (λ (t : Tree). length t) c.deref_mut.ensures.value in omega (arith, l, v)) in
    record {
      tree =
          subst (λ (t : Tree). IsTree t) (sym (whole ∙ made))
          (opened_is_tree (names_at names order) nodes plain);
    }
