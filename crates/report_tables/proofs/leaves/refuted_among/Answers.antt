use Rattle.std.proofs.Common.{◌≤◌, ◌++◌, List, ap, length, arith}
use Rattle.std.specs.Prelude.{flat_map}
use Rattle.cert_check.specs.declared.open_leaf.OpenLeaf.{OpenLeaf}
use Rattle.cert_check.specs.OpenLeaves.{leaves_at}
use Rattle.report_tables.specs.Opened.{refuted_at}
use Rattle.report_tables.specs.View.{leaves_of}
use Rattle.report_tables.proofs.LeafLists.{found_more, found_all}
use Rattle.report_tables.proofs.leaves.refuted_among.Goals as goal

pub leaves-init : goal.leaves-init
leaves-init c =
    ap
    (λ (ls : List OpenLeaf). leaves_of c.args.nodes.now ls
    ++ flat_map (refuted_at c.args.nodes.now) (leaves_at c.args.leaves.now))
    c.new-found.ensures.items

pub leaves-preserved : goal.leaves-preserved
leaves-preserved c =
    found_more c.args.nodes.now c.args.leaves.now c.leaves.leaf-index c.leaf-item.result
    (leaves_of c.args.nodes.now c.leaves.found.items)
    (leaves_of c.args.nodes.now c.push_refuted.new.found.items) _ c.leaves-test.true
    c.leaf-item.is c.in_ok-push_refuted.ensures c.leaves.invariant

pub returns : goal.returns
returns c =
    let low : length c.args.leaves.now ≤ c.leaves.leaf-index = omega arith in
    found_all c.args.nodes.now c.args.leaves.now c.leaves.leaf-index
    (leaves_of c.args.nodes.now c.leaves.found.items) _ low c.leaves.invariant
