use Rattle.std.proofs.Common.{subst, inl, inr, ℕ, List}
use Rattle.verdicts.specs.problem_rules.Problem.{Problem}
use Rattle.verdicts.specs.branch_tree.View.{claim_of}
use Rattle.command_files.specs.studio_rules.Network.{OnNetwork, ClaimRefusal}
use Rattle.network_commands.specs.Texts.{TextWork}
use Rattle.command_files.specs.studio_rules.Ending.{Ends, Tells}
use Rattle.command_files.specs.studio_rules.declared.status.Status.{Status}
use Rattle.command_files.proofs.Cited.{Ends-map, Ends-from, Tells-map}
use Rattle.network_commands.proofs.network.say_claimed.Goals as goal

pub returns-in-Ok-network_of : goal.returns-in-Ok-network_of
returns-in-Ok-network_of g c =
    let p = c.of-site.result in
    let claim = claim_of c.args.claim in
    let w = c.in-Ok-network_of.network in
    let Q : Status → List ℕ → Type 0 =
    Tells (OnNetwork (TextWork c.args.what) p claim c.args.tree.now) in
    subst
    (λ (p : Problem). Ends (Tells (OnNetwork (TextWork c.args.what) p claim c.args.tree.now))
    c.args.out.now c.say_network.new.out c.say_network.result) c.of-site.ensures
    (Ends-from (Tells (TextWork c.args.what p w)) Q c.args.out.now _ _ _
    c.in-Ok-network_of.ensures.silent
    (Tells-map (TextWork c.args.what p w) (OnNetwork (TextWork c.args.what) p claim c.args.tree.now)
    (λ s lines h. inr (w, c.in-Ok-network_of.ensures.network, h))) c.say_network.ensures)

pub returns : goal.returns
returns g c =
    let p = c.of-site.result in
    let claim = claim_of c.args.claim in
    let Q : Status → List ℕ → Type 0 =
    Tells (OnNetwork (TextWork c.args.what) p claim c.args.tree.now) in
    subst
    (λ (p : Problem). Ends (Tells (OnNetwork (TextWork c.args.what) p claim c.args.tree.now))
    c.args.out.now c.network_of.new.out c.in-Err.status) c.of-site.ensures
    (Ends-map (Tells (ClaimRefusal p claim)) Q c.args.out.now _ _
    (Tells-map (ClaimRefusal p claim) (OnNetwork (TextWork c.args.what) p claim c.args.tree.now)
    (λ s lines h. inl h)) c.in-Err.ensures.told)
