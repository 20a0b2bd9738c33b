use Rattle.std.proofs.Common.{◌≡◌, ◌∙◌, ◌-◌, ◌<◌, ◌≤◌, ℕ, suc, length, drop, Option, Some, None}
use Rattle.std.proofs.Common.{ap, sym, subst, arith}
use Rattle.tree_parts.specs.branch_tree.View.{claim_of}
use Rattle.report_rules.specs.tree_rules.Claim.{CostOver}
use Rattle.report_rules.specs.tree_rules.Lower.{least}
use Rattle.tree_parts.specs.cert_check.OpenLeaves.{leaf_at, leaves_at}
use Rattle.report_rules.specs.Verdict.{cost_of}
use Rattle.verdicts.specs.Lower.{as_low, lows}
use Rattle.verdicts.proofs.LowerLemmas.{leaf_read, one_more, none_here, none_left, formed_there}
use Rattle.verdicts.proofs.LowerLemmas.{bound_known, bound_unknown}
use Rattle.verdicts.proofs.lower.lower_bound.Goals as goal

pub open_bound-requires : goal.open_bound-requires
open_bound-requires c =
    let ls = c.args.leaves.now in
    let i = c.leaves.at - 1 in
    let x = c.index-leaves-at.result in
    let within : c.leaves.at ≤ length ls = c.leaves.invariant.within in
    let lt : i < length ls = omega (arith, within, c.leaves-test.true) in
    formed_there c.args.site.now (claim_of c.args.claim.now) c.args.tree.now c.requires.partial
    (leaves_at ls) c.requires.leaves i (leaf_at x) (leaf_read ls i x lt c.index-leaves-at.is)

pub returns-in_err-next : goal.returns-in_err-next
returns-in_err-next c =
    let ls = c.args.leaves.now in
    let i = c.leaves.at - 1 in
    let x = c.index-leaves-at.result in
    let within : c.leaves.at ≤ length ls = c.leaves.invariant.within in
    let lt : i < length ls = omega (arith, within, c.leaves-test.true) in
    ap cost_of c.from_residual.ensures
    ∙ bound_unknown c.args.site.now (claim_of c.args.claim.now) c.args.tree.now c.requires.partial
    (leaves_at ls) c.requires.leaves
    (none_here c.args.site.now c.args.tree.now (leaves_at ls) i (leaf_at x)
    (leaf_read ls i x lt c.index-leaves-at.is)
    (sym c.open_bound.ensures ∙ ap as_low c.in_err-next.was))

pub leaves-preserved : goal.leaves-preserved
leaves-preserved c =
    let p = c.args.site.now in
    let tree = c.args.tree.now in
    let ls = c.args.leaves.now in
    let i = c.leaves.at - 1 in
    let x = c.index-leaves-at.result in
    let within : c.leaves.at ≤ length ls = c.leaves.invariant.within in
    let lt : i < length ls = omega (arith, within, c.leaves-test.true) in
    let same : c.leaves.at ≡ suc i = omega (arith, c.leaves-test.true) in
    record {
      within = omega (arith, within);
      so_far =
          one_more p tree (leaves_at ls) i (leaf_at x) (leaf_read ls i x lt c.index-leaves-at.is)
          (cost_of (Some c.in_ok-next.next)) (cost_of c.leaves.low) (cost_of c.least-low.result)
          (sym c.open_bound.ensures ∙ ap as_low c.in_ok-next.was)
          (subst (λ (n : ℕ). lows p tree (drop n (leaves_at ls)) ≡ Some (cost_of c.leaves.low))
          same c.leaves.invariant.so_far) c.least-low.ensures;
    }

pub returns : goal.returns
returns c =
    let p = c.args.site.now in
    let tree = c.args.tree.now in
    let ls = c.args.leaves.now in
    let first : c.leaves.at ≡ 0 = omega (arith, c.leaves-test.false) in
    c.least.ensures
    ∙ ap (λ (v : Option CostOver). least v (cost_of c.leaves.low)) c.claimed.ensures
    ∙ bound_known p (claim_of c.args.claim.now) tree c.requires.partial (leaves_at ls)
    c.requires.leaves (cost_of c.leaves.low)
    (subst (λ (n : ℕ). lows p tree (drop n (leaves_at ls)) ≡ Some (cost_of c.leaves.low)) first
    c.leaves.invariant.so_far)
