-- What a refusal says of a claim and a tree. A refusal for lack of memory says nothing.
use Rattle.std.specs.Prelude.{Bool}
use Rattle.flow_rules.specs.problem_rules.Problem.{Problem}
use Rattle.flow_rules.specs.pns_rules.Nodes.{Node}
use Rattle.tree_rules.specs.Claim as rules
use Rattle.tree_rules.specs.Accepted.{Tree, NodeIsFault}
use Rattle.tree_rules.specs.declared.refusal.Refusal.{Refusal}
use Rattle.tree_rules.specs.declared.refusal.Refusal.TheVariants.{Memory, Claim}
use Rattle.tree_rules.specs.declared.refusal.Refusal.TheVariants as refusals

-- The claim fails first for the cause. Or it passes, and node k is the first that fails, for the
-- cause.
abbrev pub Refuses : Bool → Problem → Node → rules.Claim → Tree → Refusal → Type 0
Refuses partial p start claim tree Memory = Unit {0}
Refuses partial p start claim tree (Claim why) = rules.ClaimFails partial p claim why
Refuses partial p start claim tree (refusals.Node k why) =
    rules.ClaimPasses partial p claim × NodeIsFault partial p start claim tree k why
