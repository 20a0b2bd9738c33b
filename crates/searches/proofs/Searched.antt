-- What a search of the expanded problem says of the plant.
use Rattle.std.proofs.Common.{◌≡◌, ℕ, Bool, List, [], ◌∷◌, codes, refl, sym, subst}
use Rattle.std.proofs.Common.{Some, inl, inr}
use Rattle.tree_text.specs.problem_rules.Problem.{Problem}
use Rattle.tree_text.specs.problem_rules.Validity.{IsValid}
use Rattle.tree_text.specs.pns_rules.Shape.{shape_of}
use Rattle.tree_text.specs.pns_rules.Structure.{IsStructure, IsAllowed}
use Rattle.command_files.specs.plan_rules.Expanded.{expanded}
use Rattle.command_files.specs.plan_rules.Plan.{Plan, IsPlan}
use Rattle.tree_text.specs.tree_rules.Claim as claims
use Rattle.tree_text.specs.tree_rules.Claim.{Claim, Network, claimed_cost, IsFeasible}
use Rattle.tree_text.specs.tree_rules.Costs.{CostsEnough}
use Rattle.tree_text.specs.tree_rules.Accepted.{Tree, first_node}
use Rattle.headed_search.specs.tree_laws.Laws.{AcceptedIsOptimal}
use Rattle.tree_text.specs.tree_rules.Tail as tails
use Rattle.tree_text.specs.tree_text_rules.Read.{Certificate}
use Rattle.headed_search.specs.node_evaluation.Children.{claim_with}
use Rattle.headed_search.specs.abb_search.declared.outcome.Found.{Found}
use Rattle.headed_search.specs.abb_search.declared.outcome.Found.TheVariants as found
use Rattle.headed_search.specs.abb_search.Found.{IsFound}
use Rattle.command_files.specs.plan_rules.Folded.{folded}
use Rattle.command_files.specs.plan_laws.DesignLaws.{LeastNetworkIsLeastDesign, NoNetworkIsNoDesign}
use Rattle.command_files.specs.studio_rules.declared.status.Status.{Status}
use Rattle.command_files.specs.studio_rules.declared.status.Status.TheVariants.{Done, Spent, Past}
use Rattle.command_files.specs.studio_rules.Solve.{Solves, HasProof, PlainWork}
use Rattle.searches.specs.Found.{CertificateSays, FoundSays}
use Rattle.searches.proofs.FoundTexts.{solves, holds}
use Rattle.command_files.specs.studio_rules.DesignText.{design_lines}
use Rattle.command_files.specs.studio_rules.Periods.{PeriodsWork}

some_is : {A : Type 0} (P : A → Type 0) (a b : A) → Some a ≡ Some b → P a → P b
some_is P a b e h = subst P (let e' : a ≡ b = cc in e') h

-- ---- a network that is proved

module _ (p : Problem) (plan : Plan) where
  pub feasible_there : (w : Network) → HasProof (expanded p plan) (claims.network w)
      → IsFeasible (expanded p plan) w
  feasible_there w (inl (tree, it)) = it.feasible w refl
  feasible_there w (inr (head, tree, it)) = it.feasible w refl

  least_there : (w : Network) → HasProof (expanded p plan) (claims.network w)
      → (s : ℕ → Bool) → IsStructure (shape_of (expanded p plan)) s
      → IsAllowed (shape_of (expanded p plan)) s
      → CostsEnough (expanded p plan) (claimed_cost (claims.network w)) s
  least_there w (inl (tree, it)) = it.least
  least_there w (inr (head, tree, it)) = it.least

  pub least_text : LeastNetworkIsLeastDesign → IsValid p → IsPlan p plan → (budget : ℕ)
      → (w : Network) → HasProof (expanded p plan) (claims.network w)
      → PeriodsWork budget p plan Done (design_lines p (folded p plan w))
  least_text law valid formed budget w proof =
      inl (record {
        network_of = w;
        proof = proof;
        design = law p plan valid formed w (feasible_there w proof) (least_there w proof);
        text = refl;
      })

-- ---- what is found

module _ (optimal : AcceptedIsOptimal) (budget : ℕ) (p : Problem) (plan : Plan) (q : Problem)
    (whole : q ≡ expanded p plan) (valid' : IsValid q) where
  there : (claim : Claim) → HasProof q claim → HasProof (expanded p plan) claim
  there claim h = subst (λ (r : Problem). HasProof r claim) whole h

  pub solved_there : (w : Network) (tree : Tree)
      → IsFound q first_node budget (found.Solved w tree)
      → HasProof (expanded p plan) (claims.network w)
  solved_there w tree h =
      there (claims.network w) (inl (tree, solves optimal q valid' (claims.network w) tree h))

  pub none_text : NoNetworkIsNoDesign → IsValid p → IsPlan p plan → (tree : Tree)
      → IsFound q first_node budget (found.Infeasible tree)
      → PeriodsWork budget p plan Done (codes "infeasible" ∷ [])
  none_text law valid formed tree h =
      let it : Solves (expanded p plan) claims.infeasible tree =
      subst (λ r. Solves r claims.infeasible tree) whole
      (solves optimal q valid' claims.infeasible tree h) in
      inr (record {
        tree = tree;
        solves = it;
        none = law p plan valid formed it.least;
        text =
            refl;
      })

  pub stopped_text : (f : Found) → IsFound q first_node budget f
      → ((w : Network) (tree : Tree) → f ≡ found.Solved w tree → ⊥)
      → ((tree : Tree) → f ≡ found.Infeasible tree → ⊥) → (s : Status) (lines : List (List ℕ))
      → FoundSays q f s lines → PeriodsWork budget p plan s lines
  stopped_text (found.Solved w tree) h not none s lines said = absurd (not w tree refl)
  stopped_text (found.Infeasible tree) h not none s lines said = absurd (none tree refl)
  stopped_text (found.Spent best tree next options) h not none s lines said =
      let c : Certificate =
      record { claim = claim_with best; tree = tree; tail = tails.spent next options } in
      let told : CertificateSays q c s lines =
      some_is (λ d. CertificateSays q d s lines) said.0 c (sym said.1) said.2 in
      let work : PlainWork budget q Spent lines = (
        c,
        refl,
        holds optimal q valid' budget (found.Spent best tree next options) h c refl,
        told.1,
      ) in
      subst (λ t. PeriodsWork budget p plan t lines) (sym told.0)
      (subst (λ r. PlainWork budget r Spent lines) whole work)
  stopped_text (found.Past best tree node nonbasic place) h not none s lines said =
      let c : Certificate =
      record { claim = claim_with best; tree = tree; tail = tails.past node nonbasic place } in
      let told : CertificateSays q c s lines =
      some_is (λ d. CertificateSays q d s lines) said.0 c (sym said.1) said.2 in
      let work : PlainWork budget q Past lines = (
        c,
        refl,
        holds optimal q valid' budget (found.Past best tree node nonbasic place) h c refl,
        told.1,
      ) in
      subst (λ t. PeriodsWork budget p plan t lines) (sym told.0)
      (subst (λ r. PlainWork budget r Past lines) whole work)
  stopped_text found.Memory h not none s lines said = absurd cc
