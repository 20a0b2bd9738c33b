-- Materials whose use a line may bound.
use Rattle.std.specs.Prelude.{◌≡◌, ℕ, true, false}
use Rattle.tree_text_rules.specs.pns_rules.Shape.{Shape}
use Rattle.tree_text_rules.specs.pns_rules.Structure.{mats}
use Rattle.tree_text_rules.specs.pns_rules.Nodes.{Node}
use Rattle.tree_text_rules.specs.flow_rules.Relaxed.{stays}

-- a unit that may stay makes or uses it, and it is no raw material
abbrev pub IsInner : Shape → Node → ℕ → Type 0
IsInner g n j = (mats g (stays n) j ≡ true) × (g.raw j ≡ false)
