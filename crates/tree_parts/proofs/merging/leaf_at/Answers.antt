use Rattle.std.proofs.Common.{◌≤◌, length, arith}
use Rattle.std.proofs.lemmas.Bool.{both_ways}
use Rattle.tree_parts.proofs.MergeLemmas.{leaf_found, not_here, nowhere}
use Rattle.tree_parts.proofs.merging.leaf_at.Goals as goal

pub returns-then-are_same-clause-some : goal.returns-then-are_same-clause-some
returns-then-are_same-clause-some c =
    leaf_found c.args.leaves.now c.args.start.now c.looking.leaf-index c.leaf-item.result
    c.looking-test.true c.leaf-item.is (c.are_same.ensures.0 c.if-are_same.true)

pub looking-preserved : goal.looking-preserved
looking-preserved c =
    not_here c.args.leaves.now c.args.start.now c.looking.leaf-index c.leaf-item.result
    c.looking-test.true c.leaf-item.is
    (λ same. both_ways c.are_same.result c.if-are_same.false (c.are_same.ensures.1 same))
    c.looking.invariant

pub returns-clause-none : goal.returns-clause-none
returns-clause-none c =
    nowhere c.args.leaves.now c.args.start.now c.looking.leaf-index
    (let low : length c.args.leaves.now ≤ c.looking.leaf-index = omega arith in low)
    (let high : c.looking.leaf-index ≤ length c.args.leaves.now = omega arith in high)
    c.looking.invariant
