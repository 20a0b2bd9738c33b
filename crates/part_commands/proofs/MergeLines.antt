-- Merged trees are known to the problem, and the tree that is printed.
use Rattle.std.proofs.Common.{◌≡◌, ◌<◌, length, ◌++◌, ◌*ℤ◌, int_lt, Bool, true, false, ℕ, zero, suc}
use Rattle.std.proofs.Common.{List, [], ◌∷◌, refl, sym, subst, if◌then◌else◌}
use Rattle.network_commands.proofs.number_sets.Cited.{has_below}
use Rattle.network_commands.specs.problem_rules.Each.{Each}
use Rattle.network_commands.specs.problem_rules.Problem.{Problem}
use Rattle.network_commands.proofs.text_laws.Cited.{each-append}
use Rattle.network_commands.specs.pns_rules.Shape.{Shape, shape_of}
use Rattle.network_commands.specs.cert_check.Known.{KnowsInside}
use Rattle.network_commands.specs.tree_rules.Claim.{Claim, Network, network, infeasible, unknown}
use Rattle.network_commands.specs.tree_rules.Accepted.{Tree}
use Rattle.network_commands.specs.tree_rules.Known.{KnowsStep, KnowsNode, KnowsTree, KnowsClaim}
use Rattle.network_commands.specs.tree_rules.Known.{AreUnits}
use Rattle.network_commands.specs.tree_text_rules.Graft.{graft_at, grafted, claim_of_both, cheaper}
use Rattle.network_commands.specs.tree_text_rules.Graft.{has_open}
use Rattle.network_commands.specs.tree_text_rules.Part.{Part, start_of}
use Rattle.network_commands.specs.tree_text_rules.Several.{AreMerged}
use Rattle.network_commands.specs.tree_text_rules.PartSpelling.{KnowsPart}

module _ (p : Problem) where
  graft_known : (k : ℕ) (ts part : Tree) → KnowsTree p ts → KnowsTree p part
      → KnowsTree p (graft_at k ts part)
  graft_known k [] part known other = tt
  graft_known k (t ∷ ts) [] known other = known
  graft_known zero (t ∷ ts) (root ∷ part) known other = (
    record {
      option = known.0.option;
      steps =
          each-append (KnowsStep p) t.steps root.steps known.0.steps other.0.steps;
      end =
          other.0.end;
    },
    each-append (KnowsNode p) part ts other.1 known.1,
  )
  graft_known (suc k) (t ∷ ts) (root ∷ part) known other =
      (known.0, graft_known k ts (root ∷ part) known.1 other)

  cheaper_known : (w v : Network) → AreUnits p w.units → AreUnits p v.units
      → AreUnits p (cheaper w v).units
  cheaper_known w v one other = at (int_lt (v.cost *ℤ w.d) (w.cost *ℤ v.d))
    where
      at : (b : Bool) → AreUnits p (if b then v else w).units
      at true = other
      at false = one

  none_known : (b : Bool) → KnowsClaim p (if b then unknown else infeasible)
  none_known true = tt
  none_known false = tt

  both_known : (claim other : Claim) (ts : Tree) → KnowsClaim p claim → KnowsClaim p other
      → KnowsClaim p (claim_of_both claim other ts)
  both_known (network w) (network v) ts one two = cheaper_known w v one two
  both_known (network w) infeasible ts one two = one
  both_known (network w) unknown ts one two = one
  both_known infeasible (network v) ts one two = two
  both_known unknown (network v) ts one two = two
  both_known infeasible infeasible ts one two = none_known (has_open ts)
  both_known infeasible unknown ts one two = none_known (has_open ts)
  both_known unknown infeasible ts one two = none_known (has_open ts)
  both_known unknown unknown ts one two = none_known (has_open ts)

  pub merged_known : (claim : Claim) (tree : Tree) (ps : List Part) (both : Claim) (whole : Tree)
      → AreMerged p claim tree ps both whole → KnowsClaim p claim → KnowsTree p tree
      → Each (KnowsPart p) ps → KnowsClaim p both × KnowsTree p whole
  merged_known claim tree [] both whole are known of_tree parts = (
    subst (KnowsClaim p) (sym are.0) known,
    subst (λ (ts : Tree). KnowsTree p ts) (sym are.1) of_tree,
  )
  merged_known claim tree (part ∷ ps) both whole are known of_tree parts =
      let is = are.2 in
      let grown : KnowsTree p are.1 =
      subst (λ (ts : Tree). KnowsTree p ts) (sym is.tree_is)
      (graft_known is.place tree part.tree of_tree parts.0.tree) in
      let next : KnowsClaim p are.0 =
      subst (KnowsClaim p) (sym is.claim_is)
      (both_known claim part.claim are.1 known parts.0.claim) in
      merged_known are.0 are.1 ps both whole are.3 next grown parts.1

  -- each part's units are units of the graph
  pub inside_known : (g : Shape) → g ≡ shape_of p → (ps : List Part) → Each (KnowsPart p) ps
      → Each (λ (part : Part). KnowsInside g (start_of part)) ps
  inside_known g same [] known = tt
  inside_known g same (part ∷ ps) known = (
    (λ u h. subst (λ (k : Shape). u < k.units) (sym same)
        (has_below (length p.units) part.inside u known.0.inside.below h)),
    inside_known g same ps known.1,
  )
