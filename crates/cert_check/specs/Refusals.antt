-- What a refusal of nodes names. `Memory`, out of memory, says nothing. It is the only answer that
-- may come instead of another.
use Rattle.std.specs.Prelude.{◌≡◌, ◌⊎◌, ℕ, Bool, List, Result, Ok, Err}
use Rattle.tree_text_rules.specs.problem_rules.Problem.{Problem}
use Rattle.tree_text_rules.specs.pns_rules.Shape.{Shape}
use Rattle.tree_text_rules.specs.pns_rules.Nodes.{Node}
use Rattle.tree_text_rules.specs.tree_rules.declared.why.Why.{Why}
use Rattle.tree_text_rules.specs.tree_rules.Fault.{IsFirstFault}
use Rattle.tree_text_rules.specs.tree_rules.Leaf.{Leaf}
use Rattle.tree_text_rules.specs.tree_rules.Claim as rules
use Rattle.tree_text_rules.specs.tree_rules.Accepted.{Tree, NodeIsFault}
use Rattle.tree_text_rules.specs.tree_rules.declared.refusal.Refusal.{Refusal}
use Rattle.tree_text_rules.specs.tree_rules.declared.refusal.Refusal.TheVariants.{Memory, Claim}
use Rattle.tree_text_rules.specs.tree_rules.declared.refusal.Refusal.TheVariants as refusals

-- of the subtrees of the nodes, the first that fails is the one that the refusal names, for its
-- cause
abbrev pub NamesFault : Shape → (Node → Leaf → Type 0) → (Node → Leaf → Why → Type 0) → List Node
    → Tree → Refusal → Type 0
NamesFault g P F starts tree Memory = Unit {0}
NamesFault g P F starts tree (Claim why) = ⊥
NamesFault g P F starts tree (refusals.Node k why) = IsFirstFault g P F starts tree k why

-- the answer is Ok or `Memory`
abbrev pub IsOkOrMemory : {A : Type 0} → Result A Refusal → Type 0
IsOkOrMemory (Ok x) = Unit {0}
IsOkOrMemory (Err e) = e ≡ Memory

-- the answer is this refusal or `Memory`
abbrev pub IsRefusalOrMemory : {A : Type 0} → Refusal → Result A Refusal → Type 0
IsRefusalOrMemory wanted (Ok x) = ⊥
IsRefusalOrMemory wanted (Err e) = (e ≡ wanted) ⊎ (e ≡ Memory)

-- for each cause for which the claim fails, the answer says so, or is `Memory`
abbrev pub NamesClaim : {A : Type 0} → Bool → Problem → rules.Claim → Result A Refusal → Type 0
NamesClaim partial p claim answer =
    (why : Why) → rules.ClaimFails partial p claim why → IsRefusalOrMemory (Claim why) answer

-- if the claim passes, the answer says which node is the first that fails, and for which cause, or
-- is `Memory`
abbrev pub NamesNode : {A : Type 0} → Bool → Problem → Node → rules.Claim → Tree → Result A Refusal
    → Type 0
NamesNode partial p start claim tree answer =
    (k : ℕ) (why : Why) → rules.ClaimPasses partial p claim
    → NodeIsFault partial p start claim tree k why
    → IsRefusalOrMemory (refusals.Node k why) answer
