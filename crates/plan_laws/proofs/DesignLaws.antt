-- The laws, of valid problems and their plans.
use Rattle.std.proofs.Common.{◌≡◌, ◌<◌, ◌≤◌, ℕ, Bool, length, ℤ, pos, negsuc, ◌*ℤ◌, ◌≤ℤ◌, refl, sym}
use Rattle.std.proofs.Common.{ap, subst, ◌∙◌, arith}
use Rattle.std.proofs.lemmas.Int.{ints}
use Rattle.plan_rules.specs.problem_rules.Problem.{Problem, unit_at}
use Rattle.plan_rules.specs.problem_rules.WellFormed.{IsInRange}
use Rattle.plan_rules.specs.problem_rules.Validity.{IsValid}
use Rattle.plan_rules.specs.pns_rules.Shape.{shape_of, IsProper}
use Rattle.plan_rules.specs.pns_rules.Structure.{IsStructure, IsAllowed}
use Rattle.plan_rules.proofs.pns_rules.Cited.{proper_if_valid}
use Rattle.plan_rules.proofs.problem_rules.Cited.{well_formed_from_valid}
use Rattle.plan_rules.specs.flow_rules.Net.{net_of}
use Rattle.plan_rules.proofs.flow_rules.Cited.{net_of_valid, unit_formed}
use Rattle.plan_rules.specs.Expanded.{unlimited, expanded}
use Rattle.plan_rules.specs.Plan.{Plan, IsPlan}
use Rattle.plan_rules.specs.Design.{Design, IsDesign, design_cost}
use Rattle.plan_laws.specs.Laws.{ExpandedIsValid}
use Rattle.plan_rules.specs.tree_rules.Claim.{Network, network, infeasible, claimed_cost}
use Rattle.plan_rules.specs.tree_rules.Claim.{IsFeasible}
use Rattle.plan_rules.specs.tree_rules.Claim.{IsAtLeast}
use Rattle.plan_rules.specs.tree_rules.Costs.{CostsEnough}
use Rattle.plan_rules.specs.Folded.{folded, design_of}
use Rattle.plan_rules.specs.Least.{IsLeastDesign, HasNoDesign}
use Rattle.plan_laws.specs.DesignLaws.{Runs, BuildsUnion, FamiliesAreStructures}
use Rattle.plan_laws.specs.DesignLaws.{StructuresAreFamilies}
use Rattle.plan_laws.specs.DesignLaws.{HasNetwork, DesignsAreNetworks, NoNetworkIsNoDesign}
use Rattle.plan_laws.specs.DesignLaws.{LeastNetworkIsLeastDesign}
use Rattle.plan_laws.proofs.Structures.{families_unite, each_runs, built_is_union}
use Rattle.plan_laws.proofs.Networks.{network_units, network_sizes, structure, allowed, flows}
use Rattle.plan_laws.proofs.Networks.{costs}
use Rattle.plan_laws.proofs.Designs as designs

limited : (x : ℤ) → IsInRange x → x ≤ℤ unlimited
limited (pos k) few = omega (arith, ints, few)
limited (negsuc k) few = omega (arith, ints)

upper_limited : (p : Problem) → IsValid p → (i : ℕ) → i < length p.units
    → (unit_at p i).upper ≤ℤ unlimited
upper_limited p valid i lt =
    limited (unit_at p i).upper
    (unit_formed p (well_formed_from_valid p valid) i lt).bounds.upper_bound.in_range

module _ (expanded_valid : ExpandedIsValid) where
  proper_there : (p : Problem) (plan : Plan) → IsValid p → IsPlan p plan
      → IsProper (shape_of (expanded p plan))
  proper_there p plan valid formed =
      proper_if_valid (expanded p plan) (expanded_valid p plan valid formed)

  pub families_are_structures : FamiliesAreStructures
  families_are_structures p plan valid formed s runs same each union =
      families_unite p plan (proper_if_valid p valid) (proper_there p plan valid formed) s runs same
      each union

  pub structures_are_families : StructuresAreFamilies
  structures_are_families p plan valid formed s runs same is = (
    each_runs p plan (proper_if_valid p valid) (proper_there p plan valid formed) s runs same is,
    built_is_union p plan (proper_if_valid p valid) (proper_there p plan valid formed) s runs
        same is,
  )

  pub designs_are_networks : DesignsAreNetworks
  designs_are_networks p plan valid formed y design =
      let proper = proper_if_valid p valid in
      let there = proper_there p plan valid formed in
      let net = net_of_valid p valid in
      let limited = upper_limited p valid in
      record {
        units = network_units p plan proper there net limited y design;
        sizes = network_sizes p plan proper there net limited y design;
        structure = structure p plan proper there net limited y design;
        allowed = allowed p plan proper there net limited y design;
        flows = flows p plan proper there net limited y design;
        costs = costs p plan proper there net limited y design;
      }

  pub no_network_is_no_design : NoNetworkIsNoDesign
  no_network_is_no_design p plan valid formed none y design =
      let w = designs_are_networks p plan valid formed y design in
      none w.units w.structure w.allowed w.sizes y.d w.flows

  pub least_network_is_least_design : LeastNetworkIsLeastDesign
  least_network_is_least_design p plan valid formed w feasible least =
      let proper = proper_if_valid p valid in
      let there = proper_there p plan valid formed in
      record {
        design = designs.is_design p plan proper there w feasible;
        cost_is = designs.costs p plan proper there w feasible;
        least = λ y design.
            let v = designs_are_networks p plan valid formed y design in
            subst (λ c. (w.cost *ℤ y.d) ≤ℤ (c *ℤ w.d)) v.costs
            (least v.units v.structure v.allowed v.sizes y.d v.flows);
      }
