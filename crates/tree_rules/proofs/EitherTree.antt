-- The branch tree of the example, which is accepted for the network of U3 and U4. U3 goes in or
-- out; with U3 in, U1 goes in or out; with U1 out, so does U2. Then there are changes of the tree,
-- and the first fault of each.
use Rattle.std.proofs.Common.{◌≡◌, ℕ, ◌<◌, ℤ, pos, ◌*ℤ◌, ◌≤ℤ◌, true, false, List, [], ◌∷◌, refl}
use Rattle.std.proofs.Common.{arith, inl, inr}
use Rattle.flow_rules.specs.number_sets.Sets.{has, listed}
use Rattle.flow_rules.proofs.number_sets.Cited.{has_below}
use Rattle.flow_rules.specs.pns_rules.Shape.{Shape, shape_of, IsProper}
use Rattle.flow_rules.specs.pns_rules.Structure.{mats}
use Rattle.flow_rules.specs.pns_rules.Nodes.{Node, Step, sole, after}
use Rattle.flow_rules.proofs.pns_rules.Cited.{proper_if_valid, structure_if, allowed_if}
use Rattle.flow_rules.specs.Net.{Net, net_of, low_end, high_end}
use Rattle.flow_rules.specs.Flows.{IsFlows, balance}
use Rattle.flow_rules.specs.Relaxed.{bound}
use Rattle.flow_rules.specs.BoundSteps.{bound_steps}
use Rattle.flow_rules.specs.CostSteps.{cost_steps}
use Rattle.flow_rules.specs.FeasibleSteps.{feasible_steps}
use Rattle.tree_rules.specs.declared.why.Why.TheVariants as causes
use Rattle.tree_rules.specs.Ways.{Way, at_material, either, MayBranch, child_at, IsDecision}
use Rattle.tree_rules.specs.Tree.{TreeNode, branch, leaf, IsTree, StepsPass}
use Rattle.tree_rules.specs.Claim.{Network, network, IsFeasible, size_in, claimed_cost}
use Rattle.tree_rules.specs.Leaf.{Leaf, bounded, multiplier, LeafPasses}
use Rattle.tree_rules.specs.Accepted.{Tree, first_node, IsAccepted, NodeIsFault}
use Rattle.tree_rules.proofs.EitherProblem.{example, example_is_valid}
use Rattle.tree_rules.proofs.Worked.{in_range, at_most, not_at_most, EachBelow, each_below, no_case}
use Rattle.tree_rules.proofs.Worked.{no_other}

abbrev pub g : Shape
g = shape_of example

abbrev pub net : Net
net = net_of example

abbrev pub claim : Network
claim =
    record {
      units = 2 ∷ 3 ∷ [];
      sizes = pos 20000000 ∷ pos 20000000 ∷ [];
      d = pos 1;
      cost =
          pos 65000000000000000000;
    }

-- ---- the tree

abbrev pub first_steps : List Step
first_steps = sole 3 3 ∷ []

abbrev pub root_by : Way → TreeNode Leaf
root_by w = record { option = []; steps = first_steps; end = branch w }

abbrev split_by : List ℕ → Way → TreeNode Leaf
split_by t w = record { option = t; steps = []; end = branch w }

abbrev pub bound_by : List ℕ → List ℤ → TreeNode Leaf
bound_by t ys = record { option = t; steps = []; end = leaf (bounded (pos 1) ys) }

-- the multipliers with U3 in, with U1 and U2 out, and with U3 out
abbrev two_each : List ℤ
two_each = pos 0 ∷ pos 0 ∷ pos 2000000 ∷ pos 2000000 ∷ []

abbrev two_last : List ℤ
two_last = pos 0 ∷ pos 2000000 ∷ pos 2000000 ∷ []

abbrev pub three_each : List ℤ
three_each = pos 0 ∷ pos 0 ∷ pos 3100000 ∷ pos 3100000 ∷ []

-- the subtree with U3 in, with its option
abbrev with_three : List ℕ → Tree → Tree
with_three t rest =
    split_by t (either 0)
    ∷ bound_by (0 ∷ []) two_each
    ∷ split_by [] (either 1)
    ∷ bound_by (1 ∷ []) two_each
    ∷ bound_by [] two_last
    ∷ rest

abbrev tree : Tree
tree = root_by (either 2) ∷ with_three (2 ∷ []) (bound_by [] three_each ∷ [])

is_tree : IsTree tree
is_tree = (refl, (omega arith, (omega arith, (tt, (omega arith, (tt, (tt, (tt, tt))))))))

-- ---- the claim

pub proper : IsProper g
proper = proper_if_valid example example_is_valid

known : (u : ℕ) → has (2 ∷ 3 ∷ []) u ≡ true → u < 4
known u e = has_below 4 (2 ∷ 3 ∷ []) u (omega arith, (omega arith, tt)) e

size_low : EachBelow 4 (λ i. has (2 ∷ 3 ∷ []) i ≡ true → (net.least i *ℤ pos 1) ≤ℤ size_in claim i)
size_low = ((((tt, λ e. no_case e), λ e. no_case e), λ e. at_most _ _ tt), λ e. at_most _ _ tt)

size_high : EachBelow 4 (λ i. has (2 ∷ 3 ∷ []) i ≡ true → size_in claim i ≤ℤ (net.most i *ℤ pos 1))
size_high = ((((tt, λ e. no_case e), λ e. no_case e), λ e. at_most _ _ tt), λ e. at_most _ _ tt)

others : EachBelow 4 (λ i. has (2 ∷ 3 ∷ []) i ≡ false → size_in claim i ≡ pos 0)
others = ((((tt, λ e. refl), λ e. refl), λ e. no_other e), λ e. no_other e)

low_ends : EachBelow 4 (λ j. mats g (has (2 ∷ 3 ∷ [])) j ≡ true
    → (low_end net j (net.lower j) *ℤ pos 1) ≤ℤ balance net (has (2 ∷ 3 ∷ [])) (size_in claim) j)
unfolding listed
low_ends = ((((tt, λ e. at_most _ _ tt), λ e. no_case e), λ e. at_most _ _ tt), λ e. at_most _ _ tt)

high_ends : EachBelow 4 (λ j. mats g (has (2 ∷ 3 ∷ [])) j ≡ true
    → balance net (has (2 ∷ 3 ∷ [])) (size_in claim) j ≤ℤ (high_end net j (net.lower j) *ℤ pos 1))
unfolding listed
high_ends =
    ((((tt, λ e. at_most _ _ tt), λ e. no_case e), λ e. at_most _ _ tt), λ e. at_most _ _ tt)

its_flows : IsFlows net (has (2 ∷ 3 ∷ [])) (size_in claim) (pos 1)
its_flows = record {
  positive = at_most _ _ tt;
  at_least = each_below 4 _ size_low;
  at_most = each_below 4 _ size_high;
  no_others = each_below 4 _ others;
  low = each_below 4 _ low_ends;
  high = each_below 4 _ high_ends;
}

pub is_feasible : IsFeasible example claim
unfolding listed
is_feasible = record {
  structure = structure_if g proper (has (2 ∷ 3 ∷ [])) known refl;
  allowed = allowed_if g proper (has (2 ∷ 3 ∷ [])) known refl;
  balances = in_range (feasible_steps net (has (2 ∷ 3 ∷ [])) (size_in claim) (pos 1)) refl;
  flows = its_flows;
  costs = in_range (cost_steps net (has (2 ∷ 3 ∷ [])) (size_in claim) (pos 1)) refl;
  cost_is = refl;
}

-- ---- the nodes

abbrev pub start : Node
start = after g first_node (sole 3 3)

-- at first U3 is in or out, then U1, then U2
abbrev pub three_in : Node
three_in = child_at g start (either 2) (2 ∷ [])

abbrev pub three_out : Node
three_out = child_at g start (either 2) []

abbrev one_in : Node
one_in = child_at g three_in (either 0) (0 ∷ [])

abbrev one_out : Node
one_out = child_at g three_in (either 0) []

abbrev two_in : Node
two_in = child_at g one_out (either 1) (1 ∷ [])

abbrev two_out : Node
two_out = child_at g one_out (either 1) []

one_maker : EachBelow 4 (λ v. g.makes v 3 ≡ true → first_node.outside v ≡ false → v ≡ 3)
one_maker = ((((tt, λ e. no_case e), λ e. no_case e), λ e. no_case e), λ e f. refl)

pub its_steps : StepsPass g first_node first_steps
its_steps = ((refl, omega arith, refl, refl, refl, each_below 4 _ one_maker), tt)

-- each unit may be decided at its place, and decides something
pub three_may : MayBranch g start (either 2)
three_may = (omega arith, refl)

one_may : MayBranch g three_in (either 0)
one_may = (omega arith, refl)

two_may : MayBranch g one_out (either 1)
two_may = (omega arith, refl)

three_decides : IsDecision g start (either 2)
three_decides = (2, refl, refl)

one_decides : IsDecision g three_in (either 0)
one_decides = (2, refl, refl)

two_decides : IsDecision g one_out (either 1)
two_decides = (2, refl, refl)

abbrev steps_of : Node → List ℤ → List ℤ
steps_of n ys = bound_steps net n (pos 1) (multiplier example n ys)

abbrev Bounds : Node → List ℤ → Type 0
Bounds n ys = LeafPasses false example (claimed_cost (network claim)) n (bounded (pos 1) ys)

one_bound : Bounds one_in two_each
unfolding listed
one_bound =
    record {
      positive = at_most _ _ tt;
      each_row = refl;
      formed =
          in_range (steps_of one_in two_each) refl;
      reaches = at_most _ _ tt;
    }

two_bound : Bounds two_in two_each
unfolding listed
two_bound =
    record {
      positive = at_most _ _ tt;
      each_row = refl;
      formed =
          in_range (steps_of two_in two_each) refl;
      reaches = at_most _ _ tt;
    }

last_bound : Bounds two_out two_last
unfolding listed
last_bound =
    record {
      positive = at_most _ _ tt;
      each_row = refl;
      formed =
          in_range (steps_of two_out two_last) refl;
      reaches = at_most _ _ tt;
    }

pub out_bound : Bounds three_out three_each
unfolding listed
out_bound =
    record {
      positive = at_most _ _ tt;
      each_row = refl;
      formed =
          in_range (steps_of three_out three_each) refl;
      reaches = at_most _ _ tt;
    }

-- the values that are bounded: 75, 66, 65 and 67
values : (bound net one_in (pos 1) (multiplier example one_in two_each) ≡ pos 75000000000000000000)
    × (bound net two_in (pos 1) (multiplier example two_in two_each) ≡ pos 66000000000000000000)
    × (bound net two_out (pos 1) (multiplier example two_out two_last) ≡ pos 65000000000000000000)
    × (bound net three_out (pos 1) (multiplier example three_out three_each)
    ≡ pos 67000000000000000000)
unfolding listed
values = (refl, refl, refl, refl)

is_accepted : IsAccepted example first_node (network claim) tree
is_accepted = record {
  claimed = is_feasible;
  passes = (
    its_steps,
    (three_may, refl),
    (
      tt,
      (one_may, refl),
      (
        tt,
        one_bound,
        (tt, (two_may, refl), (tt, two_bound, (tt, last_bound, (tt, out_bound, tt)))),
      ),
    ),
  );
}

-- ---- faults

-- U4 is taken in at the root
unit_is_in : NodeIsFault false example first_node (network claim)
    (root_by (either 3) ∷ with_three (2 ∷ []) (bound_by [] three_each ∷ [])) 0 causes.Options
unit_is_in = inr (its_steps, inl (refl, λ h. no_case h.0.1))

-- U2 is decided, and the first child takes U3 in
other_unit : NodeIsFault false example first_node (network claim)
    (root_by (either 1) ∷ with_three (2 ∷ []) (bound_by [] three_each ∷ [])) 0 causes.Options
other_unit = inr (its_steps, inl (refl, λ h. cc))

-- the first child takes nothing in, or U1 too; the second takes U3 in
nothing_in : NodeIsFault false example first_node (network claim)
    (root_by (either 2) ∷ with_three [] (bound_by [] three_each ∷ [])) 0 causes.Options
nothing_in = inr (its_steps, inl (refl, λ h. cc))

two_are_in : NodeIsFault false example first_node (network claim)
    (root_by (either 2) ∷ with_three (0 ∷ 2 ∷ []) (bound_by [] three_each ∷ [])) 0 causes.Options
two_are_in = inr (its_steps, inl (refl, λ h. cc))

both_in : NodeIsFault false example first_node (network claim)
    (root_by (either 2) ∷ with_three (2 ∷ []) (bound_by (2 ∷ []) three_each ∷ [])) 0 causes.Options
both_in = inr (its_steps, inl (refl, λ h. cc))

-- two children are not all options of C
too_few : NodeIsFault false example first_node (network claim)
    (root_by (at_material 2 2) ∷ with_three (2 ∷ []) (bound_by [] three_each ∷ [])) 0 causes.Options
unfolding listed
too_few = inr (its_steps, inl (refl, λ h. cc))

-- U1 is left out at the node at which it is decided again
unit_is_out : NodeIsFault false example first_node (network claim)
    (root_by (either 2) ∷ split_by (2 ∷ []) (either 0) ∷ bound_by (0 ∷ []) two_each
    ∷ split_by [] (either 0) ∷ bound_by (0 ∷ []) two_each ∷ bound_by [] two_last
    ∷ bound_by [] three_each ∷ [])
    3 causes.Options
unit_is_out = (
  its_steps,
  (three_may, refl),
  (tt, (one_may, refl), (tt, one_bound, inr (tt, inl (refl, λ h. no_case h.0.1)))),
)

-- the bound with U3 out is below the claimed cost
abbrev low_each : List ℤ
low_each = pos 0 ∷ pos 0 ∷ pos 2999999 ∷ pos 2999999 ∷ []

bound_is_low : NodeIsFault false example first_node (network claim)
    (root_by (either 2) ∷ with_three (2 ∷ []) (bound_by [] low_each ∷ [])) 6 causes.Bound
unfolding listed
bound_is_low = (
  its_steps,
  (three_may, refl),
  (
    tt,
    (one_may, refl),
    (
      tt,
      one_bound,
      (
        tt,
        (two_may, refl),
        (
          tt,
          two_bound,
          (
            tt,
            last_bound,
            inr (
              tt,
              inr (
                (tt, at_most _ _ tt, refl),
                inr (
                  in_range (steps_of three_out low_each) refl,
                  inl (
                    refl,
                    λ h. not_at_most (pos 65000000000000000000) (pos 64999980000000000000) tt h,
                  ),
                ),
              ),
            ),
          ),
        ),
      ),
    ),
  ),
)
