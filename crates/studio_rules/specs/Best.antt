-- What it means that a claim is best, over clash-free solution structures and their flows alone: no
-- tree is named here.
use Rattle.std.specs.Prelude.{◌≡◌, ℕ, ℤ, ◌*ℤ◌, ◌≤ℤ◌, Bool, List}
use Rattle.report_rules.specs.text_rules.Outside.{Told}
use Rattle.report_rules.specs.number_sets.Sets.{has}
use Rattle.report_rules.specs.problem_rules.Problem.{Problem}
use Rattle.report_rules.specs.problem_rules.Validity.{IsValid}
use Rattle.report_rules.specs.pns_rules.Shape.{shape_of}
use Rattle.report_rules.specs.pns_rules.Structure.{IsStructure, IsAllowed}
use Rattle.report_rules.specs.flow_rules.Net.{net_of}
use Rattle.report_rules.specs.flow_rules.Flows.{IsFlows, cost}
use Rattle.report_rules.specs.tree_rules.Claim.{Network, size_in, Claim, network, infeasible}
use Rattle.report_rules.specs.tree_rules.Claim.{unknown}
use Rattle.report_rules.specs.tree_text_rules.Read.{HeadedCertificate}
use Rattle.studio_rules.specs.Reading.{AreHeld, GivesProblem, OnFile}
use Rattle.studio_rules.specs.HeadedFile.{GivesHeaded, OnHeaded}
use Rattle.studio_rules.specs.Check.{CheckWork}
use Rattle.studio_rules.specs.declared.status.Status.TheVariants.{Done}

-- no clash-free solution structure, with any flows, costs less than this much over d
abbrev pub NoneCostsLess : Problem → ℤ → ℤ → Type 0
NoneCostsLess p much d =
    (s : ℕ → Bool) → IsStructure (shape_of p) s → IsAllowed (shape_of p) s
    → (z : ℕ → ℤ) (e : ℤ) → IsFlows (net_of p) s z e → (much *ℤ e) ≤ℤ (cost (net_of p) s z e *ℤ d)

-- no clash-free solution structure has flows
abbrev pub NoneHasFlows : Problem → Type 0
NoneHasFlows p =
    (s : ℕ → Bool) → IsStructure (shape_of p) s → IsAllowed (shape_of p) s → (z : ℕ → ℤ) (e : ℤ)
    → IsFlows (net_of p) s z e → ⊥

-- the network is a clash-free solution structure with flows of its cost, and none costs less
pub record IsBestNetwork (p : Problem) (w : Network) : Type 0 where
  pub structure : IsStructure (shape_of p) (has w.units)
  pub allowed : IsAllowed (shape_of p) (has w.units)
  pub flows : IsFlows (net_of p) (has w.units) (size_in w) w.d
  pub cost_is : cost (net_of p) (has w.units) (size_in w) w.d ≡ w.cost
  pub least : NoneCostsLess p w.cost w.d

-- the claim is a best network, or it is that there is no network, and none has flows
abbrev pub IsBest : Problem → Claim → Type 0
IsBest p (network w) = IsBestNetwork p w
IsBest p infeasible = NoneHasFlows p
IsBest p unknown = ⊥

-- FILE gives a valid problem, TREE a claim with a tree for it, and the claim is best
pub record FilesClaimBest (held : List ℕ → Told) (file tree : List ℕ) : Type 0 where
  pub problem_text : List ℕ
  pub problem_held : AreHeld (held file) problem_text
  pub problem : Problem
  pub gives_problem : GivesProblem problem_text problem
  pub valid : IsValid problem
  pub tree_text : List ℕ
  pub tree_held : AreHeld (held tree) tree_text
  pub certificate : HeadedCertificate
  pub gives_tree : GivesHeaded problem tree_text certificate
  pub best : IsBest problem certificate.claim

-- if `check FILE TREE` answers with status 0, FILE and TREE claim what is best
abbrev pub AcceptedIsBest : Type 0
AcceptedIsBest =
    (held : List ℕ → Told) (file tree : List ℕ) (lines : List (List ℕ))
    → OnFile (OnHeaded CheckWork held tree) held file Done lines → FilesClaimBest held file tree
