use Rattle.std.proofs.Common.{◌++◌, ◌≤◌, ◌+◌, ap, subst, List, drop, length}
use Rattle.std.proofs.Common.{string_bytes, arith}
use Rattle.std.specs.Prelude.{flat_map}
use Rattle.std.specs.List.{AllByRecursion}
use Rattle.std.proofs.lemmas.List.{drop_all}
use Rattle.cert_check.specs.pns_problem.Printing.{printed}
use Rattle.report_amounts.specs.report_rules.Clash.{RefutedAt, leaf_lines}
use Rattle.report_tables.specs.View.{leaf_of, leaves_of, IsGood}
use Rattle.cert_check.specs.declared.open_leaf.OpenLeaf.{OpenLeaf}
use Rattle.report_tables.proofs.LeafLines.{leaf_ahead}
use Rattle.report_tables.proofs.Appended.{next_lines, last_lines}
use Rattle.report_tables.proofs.clash_text.push_leaves.Goals as goal

pub push_leaf-requires : goal.push_leaf-requires
push_leaf-requires c =
    (subst (λ (ls : List RefutedAt). AllByRecursion (IsGood c.args.site.now) ls)
    (leaf_ahead c.args.nodes.now c.args.leaves.now c.leaves.leaf-index c.leaf-item.result
    c.leaves-test.true c.leaf-item.is) c.leaves.invariant.good).0

pub leaves-preserved : goal.leaves-preserved
leaves-preserved c =
    let p = c.args.site.now in
    let i = c.leaves.leaf-index in
    let ahead =
    leaf_ahead c.args.nodes.now c.args.leaves.now i c.leaf-item.result c.leaves-test.true
    c.leaf-item.is in
    record {
      good =
          (subst (λ (ls : List RefutedAt). AllByRecursion (IsGood p) ls) ahead
          c.leaves.invariant.good).1;
      text =
          next_lines (leaf_lines p) (leaves_of c.args.nodes.now (drop i c.args.leaves.now))
          (leaves_of c.args.nodes.now (drop (i + 1) c.args.leaves.now))
          (leaf_of c.args.nodes.now c.leaf-item.result)
          (string_bytes c.leaves.text) (string_bytes c.push_leaf.new.text)
          (string_bytes c.args.text.now
          ++ printed (flat_map (leaf_lines p) (leaves_of c.args.nodes.now c.args.leaves.now)))
          ahead c.in_ok-push_leaf.ensures c.leaves.invariant.text;
    }

pub returns : goal.returns
returns c =
    let p = c.args.site.now in
    let low : length c.args.leaves.now ≤ c.leaves.leaf-index = omega arith in
    last_lines (leaf_lines p)
    (leaves_of c.args.nodes.now (drop c.leaves.leaf-index c.args.leaves.now))
    (string_bytes c.leaves.text)
    (string_bytes c.args.text.now
    ++ printed (flat_map (leaf_lines p) (leaves_of c.args.nodes.now c.args.leaves.now)))
    (ap (λ (ls : List OpenLeaf). leaves_of c.args.nodes.now ls)
    (drop_all c.leaves.leaf-index c.args.leaves.now low)) c.leaves.invariant.text
