use Rattle.std.proofs.Common.{Option, None, sym, subst}
use Rattle.node_evaluation.specs.tree_rules.Claim as claims
use Rattle.node_evaluation.specs.tree_rules.Claim.{claimed_cost}
use Rattle.node_evaluation.specs.Children.{claim_with}
use Rattle.abb_search.specs.declared.rounds.Next.{Next}
use Rattle.abb_search.specs.Rounds.{IsNextLeaf, IsStopLeaf, EndsWith, IsNext}
use Rattle.abb_search.proofs.ChargingLemmas.{more_kept}
use Rattle.abb_search.proofs.SameLemmas.{same_trans, err_same, err_trans, growing_same, tree_same}
use Rattle.abb_search.proofs.StepLemmas.{step_same, told_same}
use Rattle.abb_search.proofs.step.go_on.Goals as goal

pub next_leaf-requires-clause-growing : goal.next_leaf-requires-clause-growing
next_leaf-requires-clause-growing g c = c.requires.growing

pub branch_next-requires-clause-growing : goal.branch_next-requires-clause-growing
branch_next-requires-clause-growing g c =
    growing_same g.E.Evaluator.past c.args.site.now c.args.growing.now c.next_leaf.new.growing
    c.next_leaf.ensures.same c.requires.growing

pub branch_next-requires-clause-next : goal.branch_next-requires-clause-next
branch_next-requires-clause-next g c =
    let s = c.args.growing.now in
    let t = c.next_leaf.new.growing in
    let next =
    subst
    (λ (n : Next). IsNext g.E.Evaluator.past c.args.site.now t
    (claimed_cost (claim_with s.best)) n) c.in-Branch.is c.in_ok-leaf.ensures.next in
    subst
    (λ (w : Option claims.Network). IsNextLeaf t (claimed_cost (claim_with w)) c.in-Branch.leaf)
    (sym c.next_leaf.ensures.same.best) next.0

pub branch_next-requires-clause-fits : goal.branch_next-requires-clause-fits
branch_next-requires-clause-fits g c =
    let s = c.args.growing.now in
    let t = c.next_leaf.new.growing in
    let next =
    subst
    (λ (n : Next). IsNext g.E.Evaluator.past c.args.site.now t
    (claimed_cost (claim_with s.best)) n) c.in-Branch.is c.in_ok-leaf.ensures.next in
    next.1

pub shut_by_charges-requires-clause-going : goal.shut_by_charges-requires-clause-going
shut_by_charges-requires-clause-going g c = c.in_ok-branch_next-in-Branch.ensures.more.going

pub returns-in_ok-branch_next-in-Branch-clause-holds :
    goal.returns-in_ok-branch_next-in-Branch-clause-holds
returns-in_ok-branch_next-in-Branch-clause-holds g c =
    step_same g.E.Evaluator.past c.args.site.now c.args.growing.now c.next_leaf.new.growing
    c.shut_by_charges.new.growing None c.next_leaf.ensures.same c.requires.growing.tree
    (more_kept g.E.Evaluator.past c.args.site.now c.next_leaf.new.growing
    c.branch_next.new.growing c.shut_by_charges.new.growing
    c.in_ok-branch_next-in-Branch.ensures.more c.shut_by_charges.ensures.keeps)

pub returns-in_err-branch_next-in-Branch-clause-same :
    goal.returns-in_err-branch_next-in-Branch-clause-same
returns-in_err-branch_next-in-Branch-clause-same g c =
    err_same g.E.Evaluator.past c.args.site.now c.args.growing.now c.branch_next.new.growing
    c.from_residual-in_err-branch_next-in-Branch.result
    (same_trans g.E.Evaluator.past c.args.site.now c.args.growing.now c.next_leaf.new.growing
    c.branch_next.new.growing c.next_leaf.ensures.same
    c.in_err-branch_next-in-Branch.ensures.same)

pub stop_there-requires-clause-growing : goal.stop_there-requires-clause-growing
stop_there-requires-clause-growing g c =
    growing_same g.E.Evaluator.past c.args.site.now c.args.growing.now c.next_leaf.new.growing
    c.next_leaf.ensures.same c.requires.growing

pub stop_there-requires-clause-stop : goal.stop_there-requires-clause-stop
stop_there-requires-clause-stop g c =
    let s = c.args.growing.now in
    let t = c.next_leaf.new.growing in
    let next =
    subst
    (λ (n : Next). IsNext g.E.Evaluator.past c.args.site.now t
    (claimed_cost (claim_with s.best)) n) c.in-Stop.is c.in_ok-leaf.ensures.next in
    subst (λ (w : Option claims.Network). IsStopLeaf t (claimed_cost (claim_with w)) c.in-Stop.leaf)
    (sym c.next_leaf.ensures.same.best) next

pub returns-in-Stop-clause-holds : goal.returns-in-Stop-clause-holds
returns-in-Stop-clause-holds g c =
    told_same g.E.Evaluator.past c.args.site.now c.args.growing.now c.next_leaf.new.growing
    c.stop_there.new.growing c.stop_there.result c.next_leaf.ensures.same
    c.requires.growing.tree c.stop_there.ensures.holds

pub returns-in-Stop-clause-same : goal.returns-in-Stop-clause-same
returns-in-Stop-clause-same g c =
    err_trans g.E.Evaluator.past c.args.site.now c.args.growing.now c.next_leaf.new.growing
    c.stop_there.new.growing c.stop_there.result c.next_leaf.ensures.same
    c.stop_there.ensures.same

pub found_by-requires-clause-kept : goal.found_by-requires-clause-kept
found_by-requires-clause-kept g c =
    tree_same g.E.Evaluator.past c.args.site.now c.args.growing.now c.next_leaf.new.growing
    c.next_leaf.ensures.same c.requires.growing.tree

pub found_by-requires-clause-ends : goal.found_by-requires-clause-ends
found_by-requires-clause-ends g c =
    let s = c.args.growing.now in
    let t = c.next_leaf.new.growing in
    let next =
    subst
    (λ (n : Next). IsNext g.E.Evaluator.past c.args.site.now t
    (claimed_cost (claim_with s.best)) n) c.in-End.is c.in_ok-leaf.ensures.next in
    subst
    (λ (w : Option claims.Network). EndsWith g.E.Evaluator.past c.args.site.now t
    (claimed_cost (claim_with w)) c.in-End.ending) (sym c.next_leaf.ensures.same.best) next

pub returns-in-End-clause-holds : goal.returns-in-End-clause-holds
returns-in-End-clause-holds g c =
    told_same g.E.Evaluator.past c.args.site.now c.args.growing.now c.next_leaf.new.growing
    c.found_by.new.growing c.found_by.result c.next_leaf.ensures.same c.requires.growing.tree
    c.found_by.ensures.holds

pub returns-in-End-clause-same : goal.returns-in-End-clause-same
returns-in-End-clause-same g c =
    err_trans g.E.Evaluator.past c.args.site.now c.args.growing.now c.next_leaf.new.growing
    c.found_by.new.growing c.found_by.result c.next_leaf.ensures.same c.found_by.ensures.same
