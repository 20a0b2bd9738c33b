use Rattle.std.proofs.Common.{◌≡◌, List, subst}
use Rattle.charges.specs.pgraph.View.{node_of}
use Rattle.tree_text_rules.specs.tree_rules.Accepted.{first_node}
use Rattle.branch_tree.specs.View.{claim_of}
use Rattle.charges.specs.Known.{facts_of}
use Rattle.cert_check.specs.Shown.{cost_over}
use Rattle.tree_text_rules.specs.tree_rules.Head.{HeadLine, known_first, after_lines, LinesPass}
use Rattle.tree_text_rules.specs.tree_rules.HeadFaults.{IsFirstToFail}
use Rattle.cert_check.specs.View.{known_of}
use Rattle.cert_check.proofs.HeadedLemmas.{line_refuses, walk_accepts, walk_refuses}
use Rattle.cert_check.proofs.headed.check_lines.Goals as goal

pub returns-in-Ok-clause-accepted : goal.returns-in-Ok-clause-accepted
returns-in-Ok-clause-accepted c =
    let p = c.args.site.now in
    let head = c.args.head.now in
    let cost = cost_over c.cost_of_claim-claimed.result in
    let first = known_first p first_node in
    walk_accepts p (claim_of c.args.claim.now) head c.args.tree.now c.requires.claimed cost
    c.cost_of_claim-claimed.ensures
    (subst (λ (ls : List HeadLine). LinesPass p cost first ls) c.lines.ensures
    c.in-Ok.ensures.passes)
    (node_of c.in-Ok.known.node) (facts_of c.in-Ok.known.facts)
    (subst (λ (ls : List HeadLine). known_of c.in-Ok.known ≡ after_lines p first ls)
    c.lines.ensures c.in-Ok.ensures.known)
    c.check_known.result c.check_known.ensures.passes

pub returns-in-Ok-clause-refused : goal.returns-in-Ok-clause-refused
returns-in-Ok-clause-refused c =
    let p = c.args.site.now in
    let head = c.args.head.now in
    let cost = cost_over c.cost_of_claim-claimed.result in
    let first = known_first p first_node in
    walk_refuses p (claim_of c.args.claim.now) head c.args.tree.now c.requires.claimed cost
    c.cost_of_claim-claimed.ensures
    (subst (λ (ls : List HeadLine). LinesPass p cost first ls) c.lines.ensures
    c.in-Ok.ensures.passes)
    (node_of c.in-Ok.known.node) (facts_of c.in-Ok.known.facts)
    (subst (λ (ls : List HeadLine). known_of c.in-Ok.known ≡ after_lines p first ls)
    c.lines.ensures c.in-Ok.ensures.known)
    c.check_known.result c.check_known.ensures.fault

pub returns-in-Err-clause-refused : goal.returns-in-Err-clause-refused
returns-in-Err-clause-refused c =
    let p = c.args.site.now in
    let cost = cost_over c.cost_of_claim-claimed.result in
    line_refuses p (claim_of c.args.claim.now) c.args.head.now c.args.tree.now
    c.requires.claimed cost c.cost_of_claim-claimed.ensures c.in-Err.fault.line c.in-Err.fault.why
    (subst
    (λ (ls : List HeadLine). IsFirstToFail p cost (known_first p first_node) ls
    c.in-Err.fault.line c.in-Err.fault.why) c.lines.ensures c.in-Err.ensures.fails)
