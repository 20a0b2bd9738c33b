use Rattle.std.proofs.Common.{◌≡◌, true, List, subst, ap, ◌∙◌, [], ◌∷◌}
use Rattle.report_rules.specs.pns_rules.Shape.{shape_of}
use Rattle.report_rules.specs.pns_rules.Nodes.{Node}
use Rattle.report_rules.specs.tree_text_rules.OpenLeaves.{open_leaves}
use Rattle.tree_parts.specs.cert_check.declared.open_leaf.OpenLeaf.{OpenLeaf}
use Rattle.tree_parts.specs.cert_check.OpenLeaves.{leaves_at}
use Rattle.report_rules.specs.tree_rules.Claim.{ClaimPasses}
use Rattle.report_rules.specs.tree_rules.Accepted.{Proves, NodeIsFault}
use Rattle.tree_parts.specs.branch_tree.View.{claim_of}
use Rattle.tree_parts.specs.pgraph.View.{node_of}
use Rattle.verdicts.proofs.LowerLemmas.{at_first}
use Rattle.verdicts.proofs.verdict.partial_verdict.Goals as goal

pub lower_bound-low-requires-clause-partial : goal.lower_bound-low-requires-clause-partial
lower_bound-low-requires-clause-partial c =
    subst (λ (n : Node). Proves true c.args.site.now n (claim_of c.args.claim.now) c.args.tree.now)
    (at_first c.empty.result c.empty-2.result c.empty.ensures c.empty-2.ensures)
    c.in-Ok.ensures.proves

pub lower_bound-low-requires-clause-leaves : goal.lower_bound-low-requires-clause-leaves
lower_bound-low-requires-clause-leaves c =
    ap (λ (ls : List OpenLeaf). leaves_at ls) c.deref.ensures.value ∙ c.in-Ok.ensures.leaves
    ∙ ap (λ (n : Node). open_leaves (shape_of c.args.site.now) (n ∷ []) c.args.tree.now 0)
    (at_first c.empty.result c.empty-2.result c.empty.ensures c.empty-2.ensures)

pub returns-in-Ok-clause-verdict : goal.returns-in-Ok-clause-verdict
returns-in-Ok-clause-verdict c = (
  c.requires.refused,
  subst (λ (n : Node). Proves true c.args.site.now n (claim_of c.args.claim.now) c.args.tree.now)
      (at_first c.empty.result c.empty-2.result c.empty.ensures c.empty-2.ensures)
      c.in-Ok.ensures.proves,
  c.lower_bound-low.ensures,
)

pub returns-in-Err-Node-clause-verdict : goal.returns-in-Err-Node-clause-verdict
returns-in-Err-Node-clause-verdict c =
    let p = c.args.site.now in
    let claim = claim_of c.args.claim.now in
    let tree = c.args.tree.now in
    let fails : ClaimPasses true p claim
    × NodeIsFault true p
    (node_of (record { inside = c.empty.result; outside = c.empty-2.result })) claim tree
    c.in-Err-Node.node c.in-Err-Node.why =
    (rw c.in-Err-Node.field-0-is at c.in-Err-Node.ensures.refuses) in (
      c.requires.refused,
      subst (λ (n : Node). ClaimPasses true p claim
          × NodeIsFault true p n claim tree c.in-Err-Node.node c.in-Err-Node.why)
          (at_first c.empty.result c.empty-2.result c.empty.ensures c.empty-2.ensures) fails,
    )
