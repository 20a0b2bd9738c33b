-- The tree of the example with a head: its root is its only node, and a leaf. In the head U4 is
-- taken in as the sole maker of P, and then no unit is larger than 20. So at a price of 3 for C
-- and P the node owes 3 * 20 for P, 5 for U4, and nothing for the others: 65, the claimed cost.
-- Without the head the same tree has three nodes if its leaves charge, and seven with bounds alone.
use Rattle.std.proofs.Common.{◌≡◌, ℕ, ◌<◌, ℤ, pos, negsuc, ◌*ℤ◌, ◌≤ℤ◌, true, false, List, []}
use Rattle.std.proofs.Common.{◌∷◌, refl, arith, inl, inr}
use Rattle.std.proofs.lemmas.Int.{ints}
use Rattle.flow_rules.specs.number_sets.Sets.{has, listed}
use Rattle.flow_rules.proofs.number_sets.Cited.{has_below}
use Rattle.flow_rules.specs.pns_rules.Shape.{Shape, shape_of, IsProper}
use Rattle.flow_rules.specs.pns_rules.Structure.{mats}
use Rattle.flow_rules.proofs.pns_rules.Cited.{proper_if_valid, structure_if, allowed_if}
use Rattle.flow_rules.specs.Net.{low_end, high_end}
use Rattle.flow_rules.specs.Flows.{IsFlows, balance}
use Rattle.flow_rules.specs.CostSteps.{cost_steps}
use Rattle.flow_rules.specs.FeasibleSteps.{feasible_steps}
use Rattle.flow_rules.specs.ChargeSteps.{charge_steps}
use Rattle.flow_rules.specs.ChargeLeaf.{Handed, charge_of}
use Rattle.flow_rules.specs.ChargeLeaf as charges
use Rattle.flow_rules.specs.declared.charge_why.ChargeWhy.TheVariants as charge_causes
use Rattle.tree_rules.specs.declared.why.Why.TheVariants as causes
use Rattle.tree_rules.specs.Tree.{leaf, IsTree}
use Rattle.tree_rules.specs.Claim.{Network, network, IsFeasible, size_in, claimed_cost}
use Rattle.tree_rules.specs.Leaf.{charged}
use Rattle.tree_rules.specs.Accepted.{Tree}
use Rattle.tree_rules.specs.declared.line_why.LineWhy.TheVariants as line_causes
use Rattle.tree_rules.specs.Head.{step, trim}
use Rattle.tree_rules.specs.Headed.{head_node, head_facts, LeafPassesBy, HeadPasses, IsAcceptedBy}
use Rattle.tree_rules.specs.Headed.{LineIsFault, NodeIsFaultBy}
use Rattle.flow_rules.specs.pns_rules.Nodes.{sole}
use Rattle.tree_rules.proofs.HeadExampleProblem.{example, example_is_valid}
use Rattle.tree_rules.proofs.ExampleHead.{net, prices, five, one_maker, may_trim_last}
use Rattle.tree_rules.proofs.ExampleHead.{may_trim_first, may_trim_second, may_trim_third}
use Rattle.tree_rules.proofs.ExampleHead.{too_early}
use Rattle.tree_rules.proofs.HeadWorked.{in_range, at_most, not_at_most, EachBelow, each_below}
use Rattle.tree_rules.proofs.HeadWorked.{no_case}
use Rattle.tree_rules.proofs.HeadWorked.{no_other}

abbrev g : Shape
g = shape_of example

-- ---- the claim

abbrev claim : Network
claim =
    record {
      units = 2 ∷ 3 ∷ [];
      sizes = pos 20000000 ∷ pos 20000000 ∷ [];
      d = pos 1;
      cost = pos 65000000000000000000;
    }

proper : IsProper g
proper = proper_if_valid example example_is_valid

below : (u : ℕ) → has (2 ∷ 3 ∷ []) u ≡ true → u < 4
below u e = has_below 4 (2 ∷ 3 ∷ []) u (omega arith, (omega arith, tt)) e

size_low : EachBelow 4 (λ i. has (2 ∷ 3 ∷ []) i ≡ true → (net.least i *ℤ pos 1) ≤ℤ size_in claim i)
size_low = ((((tt, λ e. no_case e), λ e. no_case e), λ e. at_most _ _ tt), λ e. at_most _ _ tt)

size_high : EachBelow 4 (λ i. has (2 ∷ 3 ∷ []) i ≡ true → size_in claim i ≤ℤ (net.most i *ℤ pos 1))
size_high = ((((tt, λ e. no_case e), λ e. no_case e), λ e. at_most _ _ tt), λ e. at_most _ _ tt)

others : EachBelow 4 (λ i. has (2 ∷ 3 ∷ []) i ≡ false → size_in claim i ≡ pos 0)
others = ((((tt, λ e. refl), λ e. refl), λ e. no_other e), λ e. no_other e)

low_ends : EachBelow 4 (λ j. mats g (has (2 ∷ 3 ∷ [])) j ≡ true
    → (low_end net j (net.lower j) *ℤ pos 1) ≤ℤ balance net (has (2 ∷ 3 ∷ [])) (size_in claim) j)
unfolding listed
low_ends = ((((tt, λ e. at_most _ _ tt), λ e. no_case e), λ e. at_most _ _ tt), λ e. at_most _ _ tt)

high_ends : EachBelow 4 (λ j. mats g (has (2 ∷ 3 ∷ [])) j ≡ true
    → balance net (has (2 ∷ 3 ∷ [])) (size_in claim) j ≤ℤ (high_end net j (net.lower j) *ℤ pos 1))
unfolding listed
high_ends =
    ((((tt, λ e. at_most _ _ tt), λ e. no_case e), λ e. at_most _ _ tt), λ e. at_most _ _ tt)

its_flows : IsFlows net (has (2 ∷ 3 ∷ [])) (size_in claim) (pos 1)
its_flows = record {
  positive = at_most _ _ tt;
  at_least = each_below 4 _ size_low;
  at_most = each_below 4 _ size_high;
  no_others = each_below 4 _ others;
  low = each_below 4 _ low_ends;
  high = each_below 4 _ high_ends;
}

is_feasible : IsFeasible example claim
unfolding listed
is_feasible = record {
  structure = structure_if g proper (has (2 ∷ 3 ∷ [])) below refl;
  allowed = allowed_if g proper (has (2 ∷ 3 ∷ [])) below refl;
  balances = in_range (feasible_steps net (has (2 ∷ 3 ∷ [])) (size_in claim) (pos 1)) refl;
  flows = its_flows;
  costs = in_range (cost_steps net (has (2 ∷ 3 ∷ [])) (size_in claim) (pos 1)) refl;
  cost_is = refl;
}

-- ---- the tree

abbrev charge_by : List ℤ → Handed
charge_by ys = record { d = pos 1; ys = ys; covers = [] }

abbrev tree_by : List ℤ → Tree
tree_by ys = record { option = []; steps = []; end = leaf (charged (charge_by ys)) } ∷ []

is_tree : IsTree (tree_by prices)
is_tree = (refl, (tt, tt))

its_lines : HeadPasses example (network claim) five
unfolding listed
its_lines = (
  (refl, omega arith, refl, refl, refl, each_below 4 _ one_maker),
  (may_trim_last, (may_trim_first, (may_trim_second, (may_trim_third, tt)))),
)

-- the charge of the root by the head, and the same without a head
values : (charge_of example (head_node example five) (head_facts example five) (charge_by prices)
    ≡ pos 65000000000000000000)
    × (charge_of example (head_node example five) (head_facts example []) (charge_by prices)
    ≡ negsuc 14999999999999999999)
unfolding listed
values = (refl, refl)

abbrev steps_of : List ℤ → List ℤ
steps_of ys =
    charge_steps net (head_node example five) (head_facts example five) (pos 1)
    (charges.multiplier example (head_node example five) (charge_by ys)) []

root_charged
    : LeafPassesBy (head_facts example five) false example (claimed_cost (network claim))
    (head_node example five) (charged (charge_by prices))
unfolding listed
root_charged = record {
  scale = inr (at_most _ _ tt, tt);
  each_row = refl;
  covered = tt;
  formed = in_range (steps_of prices) refl;
  reaches = inl (at_most _ _ tt, at_most _ _ tt);
}

is_accepted : IsAcceptedBy example (network claim) five (tree_by prices)
is_accepted = record {
  claimed = is_feasible;
  lines = its_lines;
  passes = (tt, root_charged, tt);
}

-- ---- faults

-- U1 may not be trimmed before U4
line_fails : LineIsFault example (network claim) (step (sole 3 3) ∷ trim 0 ∷ []) 1 line_causes.Trim
unfolding listed
line_fails =
    ((refl, omega arith, refl, refl, refl, each_below 4 _ one_maker), inl (refl, too_early))

-- at a price of a little less than 3 the charge is below the claimed cost
abbrev low_prices : List ℤ
low_prices = pos 0 ∷ pos 0 ∷ pos 2999999 ∷ pos 2999999 ∷ []

charge_is_low : NodeIsFaultBy false example (head_node example five) (network claim) five
    (tree_by low_prices) 0 causes.Bound
unfolding listed
charge_is_low = inr (
  tt,
  (
    charge_causes.Bound,
    refl,
    inr (
      (inr (at_most _ _ tt, tt), refl),
      inr (
        tt,
        inr (
          in_range (steps_of low_prices) refl,
          inl (
            refl,
            λ h. elim h [
              | inl k ↦ not_at_most (pos 65000000000000000000) (pos 64999980000000000000) tt k.1
              | inr k ↦ let none : pos 1 ≡ pos 0 = k.0 in omega (arith, ints)
            ],
          ),
        ),
      ),
    ),
  ),
)
