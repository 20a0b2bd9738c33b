-- `graph FILE TEXT` on a ranking, or on a list of alternatives: the graph with the first of its
-- networks in it, and all of them as a table. They are judged as claims, and by their order. The
-- nodes of the tree are not judged.
use Rattle.std.specs.Prelude.{◌≡◌, ◌⊎◌, ℕ, List, [], ◌∷◌}
use Rattle.report_rules.specs.problem_rules.Problem.{Problem}
use Rattle.report_rules.specs.tree_rules.declared.why.Why.TheVariants.{Unknown}
use Rattle.report_rules.specs.tree_rules.Claim.{Network}
use Rattle.report_rules.specs.rank_rules.Networks.{ArePassing}
use Rattle.report_rules.specs.rank_rules.Ranked.{Ranking}
use Rattle.report_rules.specs.rank_rules.Text.{Text, ranking_of}
use Rattle.studio_rules.specs.RefusalWords.{claim_line}
use Rattle.studio_rules.specs.Graph.{AreSceneLines}
use Rattle.studio_rules.specs.RankReport.{NetworkRefusal}
use Rattle.studio_rules.specs.declared.scene.Scene.{Scene}
use Rattle.studio_rules.specs.declared.status.Status.{Status}
use Rattle.studio_rules.specs.declared.status.Status.TheVariants.{Done, BadClaim}

-- the graph with the first network in it, or of it alone, if there is one
abbrev pub DrawsFirst : Scene → Problem → List Network → List (List ℕ) → Type 0
DrawsFirst scene p [] lines = ⊥
DrawsFirst scene p (w ∷ ws) lines = AreSceneLines scene p w (w ∷ ws) lines

-- each network passes, and the first is drawn
abbrev pub RankGraphSays : Scene → Problem → Ranking → List (List ℕ) → Type 0
RankGraphSays scene p r lines =
    ArePassing r.distinct p [] r.networks × DrawsFirst scene p r.networks lines

-- A list of which a network fails is refused for the first that does. A list without a network is
-- refused as a claim without one is.
abbrev pub ListRefusal : Problem → Ranking → List (List ℕ) → Type 0
ListRefusal p r lines =
    NetworkRefusal p r lines
    ⊎ ((r.networks ≡ []) × (lines ≡ claim_line Unknown ∷ []))

abbrev pub RankGraphWork : Scene → Problem → Text → Status → List (List ℕ) → Type 0
RankGraphWork scene p t Done lines = RankGraphSays scene p (ranking_of t) lines
RankGraphWork scene p t BadClaim lines = ListRefusal p (ranking_of t) lines
RankGraphWork scene p t status lines = ⊥
