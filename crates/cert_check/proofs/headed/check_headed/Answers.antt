use Rattle.branch_tree.specs.View.{claim_of}
use Rattle.std.proofs.Common.{false}
use Rattle.cert_check.proofs.HeadedLemmas.{accepts_on, least_on}
use Rattle.cert_check.proofs.headed.check_headed.Goals as goal

pub returns-in-Ok-clause-accepts : goal.returns-in-Ok-clause-accepts
returns-in-Ok-clause-accepts c =
    accepts_on c.args.site.now (claim_of c.args.claim.now) c.args.head.now c.args.tree.now
    c.claim_has_one_fault.ensures.passes c.one_fault.ensures.passing
    c.tree_has_one_fault_by.ensures.passes c.check_lines.result c.check_lines.ensures.refused

pub returns-in-Ok-clause-least : goal.returns-in-Ok-clause-least
returns-in-Ok-clause-least c =
    least_on c.args.site.now (claim_of c.args.claim.now) c.args.head.now c.args.tree.now
    c.accepted_by_is_optimal.ensures c.problem.ensures.valid c.check_lines.result
    c.check_lines.ensures.accepted

pub returns-in-Err-clause-accepts : goal.returns-in-Err-clause-accepts
returns-in-Err-clause-accepts c = λ accepted.
    absurd
    (c.claim_has_one_fault.ensures.passes false c.args.site.now (claim_of c.args.claim.now)
    c.in-Err.why accepted.claimed c.in-Err.ensures.fails)
