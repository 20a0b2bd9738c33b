-- `graph FILE` and `graph FILE TREE`: the maximal structure as a graph for Graphviz, and in it the
-- network of the claim. `graph FILE TREE network`: the network alone.
use Rattle.std.specs.Prelude.{◌≡◌, ◌⊎◌, ℕ, Bool, List, [], Option, Some, None}
use Rattle.report_rules.specs.problem_rules.Problem.{Problem}
use Rattle.report_rules.specs.number_sets.Sets.{has}
use Rattle.report_rules.specs.pns_rules.Shape.{shape_of}
use Rattle.report_rules.specs.tree_rules.Claim.{Network}
use Rattle.studio_rules.specs.Max.{IsMaximal, HasNoStructure}
use Rattle.report_rules.specs.Graph.{graph_lines, empty_lines}
use Rattle.studio_rules.specs.declared.scene.Scene.{Scene}
use Rattle.studio_rules.specs.declared.scene.Scene.TheVariants as scenes
use Rattle.studio_rules.specs.declared.status.Status.{Status}
use Rattle.studio_rules.specs.declared.status.Status.TheVariants.{Done}

-- the graph of the maximal structure, with the networks ws as a table if there are any; or the
-- graph which says that there is no solution structure
abbrev pub AreGraphLines : Problem → Option Network → List Network → List (List ℕ) → Type 0
AreGraphLines p w ws lines =
    (HasNoStructure (shape_of p) × (lines ≡ empty_lines))
    ⊎ ((t : ℕ → Bool) × IsMaximal (shape_of p) t × (lines ≡ graph_lines p w ws t))

abbrev pub PlantGraphWork : Problem → Status → List (List ℕ) → Type 0
PlantGraphWork p Done lines = AreGraphLines p None [] lines
PlantGraphWork p status lines = ⊥

-- the same with the network w in it; or the graph of its own units alone
abbrev pub AreSceneLines : Scene → Problem → Network → List Network → List (List ℕ) → Type 0
AreSceneLines scenes.Plant p w ws lines = AreGraphLines p (Some w) ws lines
AreSceneLines scenes.Network p w ws lines = lines ≡ graph_lines p (Some w) ws (has w.units)

abbrev pub NetworkGraphWork : Scene → Problem → Network → Status → List (List ℕ) → Type 0
NetworkGraphWork scene p w Done lines = AreSceneLines scene p w [] lines
NetworkGraphWork scene p w status lines = ⊥
