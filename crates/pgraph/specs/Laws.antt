-- The laws of steps, ends and children of one graph's nodes.
use Rattle.std.specs.Prelude.{◌≡◌, ℕ, Bool, true, List, ◌↔◌}
use Rattle.flow_rules.specs.pns_rules.Shape.{Shape}
use Rattle.flow_rules.specs.pns_rules.Structure.{InFamily, Clashes, is_needed}
use Rattle.flow_rules.specs.pns_rules.Nodes.{Node, Step, IsPossible, after, IsOption, child}
use Rattle.flow_rules.specs.pns_rules.Ends.{IsDead}

-- a possible step loses no structure and adds none
abbrev pub StepsKeepFamilies : Shape → Type 0
StepsKeepFamilies g =
    (n : Node) (step : Step) → IsPossible g n step → (o : ℕ → Bool)
    → InFamily g n.inside n.outside o
    ↔ InFamily g (after g n step).inside (after g n step).outside o

-- a node that clashes at an exclusion has an empty family
abbrev pub ClashesAreEmpty : Shape → Type 0
ClashesAreEmpty g = (n : Node) (k : ℕ) (o : ℕ → Bool) → Clashes g n.inside k
    → InFamily g n.inside n.outside o → ⊥

-- so has a node with a dead material
abbrev pub DeadAreEmpty : Shape → Type 0
DeadAreEmpty g = (n : Node) (x : ℕ) (o : ℕ → Bool) → IsDead g n x → InFamily g n.inside n.outside o
    → ⊥

-- each structure of a node is in the family of the child of some option of a needed material
abbrev pub ChildrenCover : Shape → Type 0
ChildrenCover g =
    (n : Node) (x : ℕ) (o : ℕ → Bool) → is_needed g n.inside x ≡ true
    → InFamily g n.inside n.outside o
    → (t : List ℕ) × IsOption g n x t × InFamily g (child g n x t).inside (child g n x t).outside o

-- and of no other
abbrev pub ChildrenAreApart : Shape → Type 0
ChildrenAreApart g =
    (n : Node) (x : ℕ) (o : ℕ → Bool) (t t' : List ℕ) → IsOption g n x t → IsOption g n x t'
    → InFamily g (child g n x t).inside (child g n x t).outside o
    → InFamily g (child g n x t').inside (child g n x t').outside o → t ≡ t'
