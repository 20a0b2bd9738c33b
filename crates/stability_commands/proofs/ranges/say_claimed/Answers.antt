use Rattle.std.proofs.Common.{subst, inl, inr, ℕ, List}
use Rattle.stability.specs.problem_rules.Problem.{Problem}
use Rattle.stability.specs.branch_tree.View.{claim_of}
use Rattle.network_commands.specs.studio_rules.Network.{OnNetwork, ClaimRefusal}
use Rattle.network_commands.specs.studio_rules.StableTable.{RangesWork}
use Rattle.network_commands.specs.studio_rules.Ending.{Ends, Tells}
use Rattle.network_commands.specs.studio_rules.declared.status.Status.{Status}
use Rattle.network_commands.proofs.command_files.Cited.{Ends-map, Ends-from, Tells-map}
use Rattle.stability_commands.proofs.ranges.say_claimed.Goals as goal

pub returns-in-Ok-network_of : goal.returns-in-Ok-network_of
returns-in-Ok-network_of g c =
    let p = c.of-site.result in
    let claim = claim_of c.args.claimed.0 in
    let tree = c.args.claimed.1 in
    let w = c.in-Ok-network_of.network in
    let work = RangesWork c.args.effort.budget in
    let Q : Status → List ℕ → Type 0 = Tells (OnNetwork work p claim tree) in
    subst
    (λ (p : Problem). Ends (Tells (OnNetwork work p claim tree)) c.args.out.now c.say_table.new.out
    c.say_table.result) c.of-site.ensures
    (Ends-from (Tells (work p w)) Q c.args.out.now _ _ _ c.in-Ok-network_of.ensures.silent
    (Tells-map (work p w) (OnNetwork work p claim tree)
    (λ s lines h. inr (w, c.in-Ok-network_of.ensures.network, h))) c.say_table.ensures)

pub returns : goal.returns
returns g c =
    let p = c.of-site.result in
    let claim = claim_of c.args.claimed.0 in
    let tree = c.args.claimed.1 in
    let work = RangesWork c.args.effort.budget in
    let Q : Status → List ℕ → Type 0 = Tells (OnNetwork work p claim tree) in
    subst
    (λ (p : Problem). Ends (Tells (OnNetwork work p claim tree)) c.args.out.now
    c.network_of.new.out c.in-Err.status) c.of-site.ensures
    (Ends-map (Tells (ClaimRefusal p claim)) Q c.args.out.now _ _
    (Tells-map (ClaimRefusal p claim) (OnNetwork work p claim tree) (λ s lines h. inl h))
    c.in-Err.ensures.told)

pub say_table-requires-clause-passes : goal.say_table-requires-clause-passes
say_table-requires-clause-passes g c = c.in-Ok-network_of.ensures.network.1
