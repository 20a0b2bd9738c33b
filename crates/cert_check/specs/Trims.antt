-- Materials that bear less of a unit.
use Rattle.std.specs.Prelude.{◌≡◌, ℕ, pos, ◌≤ℤ◌, ◌<ℤ◌, false}
use Rattle.tree_text_rules.specs.pns_rules.Nodes.{Node}
use Rattle.tree_text_rules.specs.flow_rules.Net.{Net, high_end}
use Rattle.tree_text_rules.specs.flow_rules.ChargeFacts.{Facts}
use Rattle.tree_text_rules.specs.tree_rules.Trim.{makers_most}

-- an output is no raw material, and of an input no more can be made than may be left over
abbrev pub Bears : Net → Node → Facts → ℕ → ℕ → Type 0
Bears net n f u j =
    (pos 0 <ℤ net.rate j u → net.graph.raw j ≡ false)
    × (net.rate j u <ℤ pos 0 → makers_most net n f j ≤ℤ high_end net j (net.lower j))
