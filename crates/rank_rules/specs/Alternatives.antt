-- When a list of alternatives is right. Here are structures and flows alone, and no trees.
--
-- Nothing cheaper is left out but the same plant with more units, at no lower cost. If two
-- structures cost the same and one contains the other, the smaller stands for both.
use Rattle.std.specs.Prelude.{◌≡◌, ◌⊎◌, ℕ, suc, ◌≤◌, ℤ, Bool, List, length, Some}
use Rattle.tree_text_rules.specs.number_sets.Sets.{has, IsWithin}
use Rattle.tree_text_rules.specs.problem_rules.Problem.{Problem}
use Rattle.tree_text_rules.specs.pns_rules.Shape.{shape_of}
use Rattle.tree_text_rules.specs.pns_rules.Structure.{IsStructure, IsAllowed}
use Rattle.tree_text_rules.specs.flow_rules.Net.{net_of}
use Rattle.tree_text_rules.specs.flow_rules.Flows.{IsFlows}
use Rattle.tree_text_rules.specs.tree_rules.Claim.{Network, IsFeasible}
use Rattle.tree_text_rules.specs.tree_rules.Costs.{CostsEnough}
use Rattle.rank_rules.specs.Networks.{cost_of, numbered, IsListed, last_cost, IsNoCheaper, Repeats}

-- a clash-free solution structure with its sizes as flows, and no flows for its units cost less
pub record IsLeast (p : Problem) (w : Network) : Type 0 where
  pub feasible : IsFeasible p w
  pub least : CostsEnough p (Some (cost_of w)) (has w.units)

-- the structure contains the units of a listed network, and no flows for it cost less than that
abbrev pub ContainsListed : Problem → List Network → (ℕ → Bool) → Type 0
ContainsListed p ws s = (k : ℕ) × (w : Network) × (numbered k ws ≡ Some w)
    × IsWithin (has w.units) s × CostsEnough p (Some (cost_of w)) s

-- as many networks are listed as were asked for, and no flows for the structure cost less than the
-- last of them
abbrev pub CostsLast : Problem → ℕ → List Network → (ℕ → Bool) → Type 0
CostsLast p count ws s = (length ws ≡ count) × CostsEnough p (last_cost ws) s

-- a list of at most `count` networks, none of which is another with something idle
pub record IsRight (p : Problem) (count : ℕ) (ws : List Network) : Type 0 where
  pub few : length ws ≤ count
  -- each is a clash-free solution structure with flows, at its own least cost
  pub each : (k : ℕ) (w : Network) → numbered k ws ≡ Some w → IsLeast p w
  -- costs do not fall
  pub rises : (k : ℕ) (v w : Network) → numbered k ws ≡ Some v → numbered (suc k) ws ≡ Some w
      → IsNoCheaper v w
  -- no listed network contains the units of another listed one that costs no more
  pub apart : (j k : ℕ) (v w : Network) → (j ≡ k → ⊥) → numbered j ws ≡ Some v
      → numbered k ws ≡ Some w → Repeats v w → ⊥
  -- each clash-free solution structure with flows that is not listed contains the units of a listed
  -- network and costs no less than it, or costs at least as much as the last one
  pub others : (s : ℕ → Bool) (z : ℕ → ℤ) (d : ℤ) → IsStructure (shape_of p) s
      → IsAllowed (shape_of p) s
      → IsFlows (net_of p) s z d → (IsListed ws s → ⊥)
      → ContainsListed p ws s ⊎ CostsLast p count ws s
