use Rattle.std.proofs.Common.{◌≡◌, ◌∷◌, [], true, sym, subst}
use Rattle.std.specs.Prelude.{IfOk, OnOk}
use Rattle.report_rules.specs.pns_rules.Shape.{shape_of}
use Rattle.report_rules.specs.pns_rules.Nodes.{Node}
use Rattle.report_rules.specs.tree_text_rules.OpenLeaves.{open_leaves}
use Rattle.tree_parts.specs.cert_check.OpenLeaves.{leaves_at}
use Rattle.report_rules.specs.tree_rules.Accepted.{Proves}
use Rattle.tree_parts.specs.branch_tree.View.{claim_of}
use Rattle.verdicts.proofs.LowerLemmas.{at_first}
use Rattle.verdicts.proofs.low.walked.Goals as goal

pub returns-clause-partial : goal.returns-clause-partial
returns-clause-partial c =
    subst
    (λ (n : Node). OnOk c.check_from.result
    (Proves true c.args.site.now n (claim_of c.args.claim.now) c.args.tree.now))
    (at_first c.empty.result c.empty-2.result c.empty.ensures c.empty-2.ensures)
    c.check_from.ensures.proves

pub returns-clause-leaves : goal.returns-clause-leaves
returns-clause-leaves c =
    subst
    (λ (n : Node). IfOk c.check_from.result
    (λ v. leaves_at v.items ≡ open_leaves (shape_of c.args.site.now) (n ∷ []) c.args.tree.now 0))
    (at_first c.empty.result c.empty-2.result c.empty.ensures c.empty-2.ensures)
    c.check_from.ensures.leaves

pub returns-clause-accepts : goal.returns-clause-accepts
returns-clause-accepts c = λ h. c.check_from.ensures.accepts
    (subst (λ (n : Node). Proves true c.args.site.now n (claim_of c.args.claim.now) c.args.tree.now)
    (sym (at_first c.empty.result c.empty-2.result c.empty.ensures c.empty-2.ensures)) h)
