-- Answers of a check of a tree that may have a head.
use Rattle.std.specs.Prelude.{◌≡◌, List, Result, Ok, Err}
use Rattle.tree_text_rules.specs.pns_rules.Shape.{Shape}
use Rattle.tree_text_rules.specs.pns_rules.Nodes.{Node}
use Rattle.tree_text_rules.specs.tree_rules.declared.why.Why.{Why}
use Rattle.tree_text_rules.specs.tree_rules.declared.refusal.Refusal as trees
use Rattle.tree_text_rules.specs.tree_rules.declared.refusal.Refusal.TheVariants as causes
use Rattle.tree_text_rules.specs.tree_rules.Fault.{IsFirstFault}
use Rattle.tree_text_rules.specs.tree_rules.Leaf.{Leaf}
use Rattle.tree_text_rules.specs.tree_rules.Accepted.{Tree}
use Rattle.tree_text_rules.specs.tree_rules.declared.head_refusal.HeadRefusal.{HeadRefusal}
use Rattle.tree_text_rules.specs.tree_rules.declared.head_refusal.HeadRefusal.TheVariants.{Memory}
use Rattle.tree_text_rules.specs.tree_rules.declared.head_refusal.HeadRefusal.TheVariants.{Claim}
use Rattle.tree_text_rules.specs.tree_rules.declared.head_refusal.HeadRefusal.TheVariants.{Line}
use Rattle.tree_text_rules.specs.tree_rules.declared.head_refusal.HeadRefusal.TheVariants as refusals

-- the answer is Ok or `Memory`
abbrev pub IsOkOrMemoryBy : {A : Type 0} → Result A HeadRefusal → Type 0
IsOkOrMemoryBy (Ok x) = Unit {0}
IsOkOrMemoryBy (Err e) = e ≡ Memory

-- a refusal of nodes, in the words of a tree with a head
abbrev pub refusal_by : trees.Refusal → HeadRefusal
refusal_by causes.Memory = Memory
refusal_by (causes.Claim why) = Claim why
refusal_by (causes.Node k why) = refusals.Node k why

-- of the subtrees of the nodes, the first that fails is the one that the refusal names, for its
-- cause
abbrev pub NamesFaultBy : Shape → (Node → Leaf → Type 0) → (Node → Leaf → Why → Type 0) → List Node
    → Tree → HeadRefusal → Type 0
NamesFaultBy g P F starts tree Memory = Unit {0}
NamesFaultBy g P F starts tree (Claim why) = ⊥
NamesFaultBy g P F starts tree (Line i why) = ⊥
NamesFaultBy g P F starts tree (refusals.Node k why) = IsFirstFault g P F starts tree k why
