use Rattle.std.proofs.Common.{None, Some, sym, subst, ap, inl, inr, ℕ, List}
use Rattle.network_commands.specs.tree_rules.Claim.{Network, IsFeasible}
use Rattle.network_commands.specs.branch_tree.View.{claim_of}
use Rattle.network_commands.specs.branch_tree.declared.claim.Claim.{Claim}
use Rattle.network_commands.specs.branch_tree.declared.claim.Claim.TheVariants as claims
use Rattle.network_commands.specs.problem_rules.Problem.{Problem}
use Rattle.network_commands.specs.studio_rules.Network.{ClaimRefusal, ClaimsNetwork}
use Rattle.network_commands.specs.studio_rules.Part.{PartSays, ClaimSays}
use Rattle.part_commands.proofs.Parts.{network_is}
use Rattle.network_commands.specs.studio_rules.Ending.{Ends, Tells}
use Rattle.network_commands.specs.studio_rules.declared.status.Status.{Status}
use Rattle.network_commands.proofs.command_files.Cited.{Ends-map, Ends-from, Tells-map}
use Rattle.part_commands.proofs.part.say_claimed.Goals as goal

pub returns-in-Ok : goal.returns-in-Ok
returns-in-Ok g c =
    let p = c.args.problem.now in
    let s = c.args.start.now in
    let known : Network = c.in-Ok.known in
    let w : Network = c.in-Network.network in
    let claimed : ClaimsNetwork p (claim_of (claims.Network w)) known =
    subst (λ (q : Problem). ClaimsNetwork q (claim_of (claims.Network w)) known)
    c.of-site.ensures c.in-Ok.ensures.network in
    let all : Claim → Status → List (List ℕ) → Type 0 =
    λ k. ClaimSays c.args.effort.budget s.inside s.outside p (claim_of k) c.args.tree.now in
    Ends-from (Tells (PartSays c.args.effort.budget (Some known) s.inside s.outside p))
    (Tells (all c.args.claim)) c.args.out.now _ _ _ c.in-Ok.ensures.silent
    (Tells-map (PartSays c.args.effort.budget (Some known) s.inside s.outside p) (all c.args.claim)
    (λ status lines h. subst (λ (k : Claim). all k status lines) (sym c.in-Network.is)
    (inr
    (network_is (λ (n : Network). IsFeasible p n
    × PartSays c.args.effort.budget (Some n) s.inside s.outside p status lines) w known
    claimed.0 (claimed.1, h)))))
    c.say_against.ensures

pub returns-in-Err : goal.returns-in-Err
returns-in-Err g c =
    let p = c.args.problem.now in
    let s = c.args.start.now in
    let all : Claim → Status → List (List ℕ) → Type 0 =
    λ k. ClaimSays c.args.effort.budget s.inside s.outside p (claim_of k) c.args.tree.now in
    Ends-map _ _ c.args.out.now _ _
    (Tells-map (ClaimRefusal p (claim_of (claims.Network c.in-Network.network))) (all c.args.claim)
    (λ status lines h. subst (λ (k : Claim). all k status lines) (sym c.in-Network.is) (inl h)))
    (subst
    (λ (q : Problem). Ends
    (Tells (ClaimRefusal q (claim_of (claims.Network c.in-Network.network)))) c.args.out.now
    c.network_of.new.out c.in-Err.status) c.of-site.ensures c.in-Err.ensures.told)

pub returns-in-Infeasible : goal.returns-in-Infeasible
returns-in-Infeasible g c =
    let p = c.args.problem.now in
    let s = c.args.start.now in
    let all : Claim → Status → List (List ℕ) → Type 0 =
    λ k. ClaimSays c.args.effort.budget s.inside s.outside p (claim_of k) c.args.tree.now in
    Ends-map _ _ c.args.out.now _ _
    (Tells-map (PartSays c.args.effort.budget None s.inside s.outside p) (all c.args.claim)
    (λ status lines h. subst (λ (k : Claim). all k status lines) (sym c.in-Infeasible.is) h))
    c.say_searched.ensures

pub returns-in-Unknown : goal.returns-in-Unknown
returns-in-Unknown g c =
    let p = c.args.problem.now in
    let s = c.args.start.now in
    let all : Claim → Status → List (List ℕ) → Type 0 =
    λ k. ClaimSays c.args.effort.budget s.inside s.outside p (claim_of k) c.args.tree.now in
    Ends-map _ _ c.args.out.now _ _
    (Tells-map (PartSays c.args.effort.budget None s.inside s.outside p) (all c.args.claim)
    (λ status lines h. subst (λ (k : Claim). all k status lines) (sym c.in-Unknown.is) h))
    c.say_searched-in-Unknown.ensures

pub say_against-requires-clause-passes : goal.say_against-requires-clause-passes
say_against-requires-clause-passes g c =
    (subst
    (λ (q : Problem). ClaimsNetwork q (claim_of (claims.Network c.in-Network.network))
    c.in-Ok.known) c.of-site.ensures c.in-Ok.ensures.network).1
