use Rattle.std.proofs.Common.{ap, subst, inl, inr, ℕ, List}
use Rattle.stability.specs.problem_rules.Problem.{Problem}
use Rattle.stability.specs.branch_tree.View.{claim_of}
use Rattle.network_commands.specs.studio_rules.Network.{OnNetwork, ClaimRefusal, ClaimsNetwork}
use Rattle.network_commands.specs.studio_rules.Stable.{SpotWork}
use Rattle.network_commands.specs.studio_rules.Ending.{Ends, Tells}
use Rattle.network_commands.specs.studio_rules.declared.status.Status.{Status}
use Rattle.network_commands.proofs.command_files.Cited.{Ends-map, Ends-from, Tells-map}
use Rattle.stability_commands.proofs.stable.say_claimed.Goals as goal

pub returns-in-Ok-network_of : goal.returns-in-Ok-network_of
returns-in-Ok-network_of g c =
    let p = c.args.problem.now in
    let claim = claim_of c.args.claim in
    let w = c.in-Ok-network_of.network in
    let work = SpotWork c.args.spot c.args.effort.budget in
    let Q : Status → List ℕ → Type 0 = Tells (OnNetwork work p claim c.args.tree.now) in
    Ends-from (Tells (work p w)) Q c.args.out.now _ _ _ c.in-Ok-network_of.ensures.silent
    (Tells-map (work p w) (OnNetwork work p claim c.args.tree.now)
    (λ s lines h. inr (
      w,
      subst (λ (q : Problem). ClaimsNetwork q claim w) c.of-site.ensures
          c.in-Ok-network_of.ensures.network,
      h,
    ))) c.say_range.ensures

pub returns-in-Err : goal.returns-in-Err
returns-in-Err g c =
    let p = c.args.problem.now in
    let claim = claim_of c.args.claim in
    let work = SpotWork c.args.spot c.args.effort.budget in
    let Q : Status → List ℕ → Type 0 = Tells (OnNetwork work p claim c.args.tree.now) in
    Ends-map (Tells (ClaimRefusal p claim)) Q c.args.out.now _ _
    (Tells-map (ClaimRefusal p claim) (OnNetwork work p claim c.args.tree.now)
    (λ s lines h. inl h))
    (subst
    (λ (q : Problem). Ends (Tells (ClaimRefusal q claim)) c.args.out.now c.network_of.new.out
    c.in-Err.status) c.of-site.ensures c.in-Err.ensures.told)

pub say_range-requires-clause-passes : goal.say_range-requires-clause-passes
say_range-requires-clause-passes g c =
    (subst (λ (q : Problem). ClaimsNetwork q (claim_of c.args.claim) c.in-Ok-network_of.network)
    c.of-site.ensures c.in-Ok-network_of.ensures.network).1
