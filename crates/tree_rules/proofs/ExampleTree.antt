-- The branch tree of the example, which is accepted for the network of U1 and U3. Nothing makes E,
-- so what uses it is left out; nothing uses what U5 makes; P is made by U3 alone. Then C is made by
-- U1, by U2, or by both.
use Rattle.std.proofs.Common.{◌≡◌, ℕ, ◌<◌, ℤ, pos, ◌*ℤ◌, ◌≤ℤ◌, true, false, List, [], ◌∷◌, refl}
use Rattle.std.proofs.Common.{arith}
use Rattle.flow_rules.specs.number_sets.Sets.{has, listed}
use Rattle.flow_rules.proofs.number_sets.Cited.{has_below}
use Rattle.flow_rules.specs.pns_rules.Shape.{Shape, shape_of, IsProper}
use Rattle.flow_rules.specs.pns_rules.Structure.{mats}
use Rattle.flow_rules.specs.pns_rules.Nodes.{Node, starve, loose, sole, is_free, IsPossible, after}
use Rattle.flow_rules.specs.pns_rules.Nodes.{child}
use Rattle.flow_rules.specs.pns_rules.Nodes.{options}
use Rattle.flow_rules.proofs.pns_rules.Cited.{proper_if_valid, structure_if, allowed_if}
use Rattle.flow_rules.specs.Net.{Net, net_of, low_end, high_end}
use Rattle.flow_rules.specs.Flows.{IsFlows, balance}
use Rattle.flow_rules.specs.BoundSteps.{bound_steps}
use Rattle.flow_rules.specs.CostSteps.{cost_steps}
use Rattle.flow_rules.specs.FeasibleSteps.{feasible_steps}
use Rattle.tree_rules.specs.Ways.{at_material}
use Rattle.tree_rules.specs.Tree.{branch, leaf, IsTree, StepsPass}
use Rattle.tree_rules.specs.Claim.{Network, network, IsFeasible, size_in, claimed_cost}
use Rattle.tree_rules.specs.Leaf.{bounded, multiplier, LeafPasses}
use Rattle.tree_rules.specs.Accepted.{Tree, first_node, IsAccepted}
use Rattle.tree_rules.proofs.ExampleProblem.{example, example_is_valid}
use Rattle.tree_rules.proofs.Worked.{in_range, at_most, EachBelow, each_below, no_case, no_other}

abbrev pub g : Shape
g = shape_of example

abbrev pub net : Net
net = net_of example

abbrev pub claim : Network
claim =
    record {
      units = 0 ∷ 2 ∷ [];
      sizes = pos 20000000 ∷ pos 20000000 ∷ [];
      d = pos 1;
      cost =
          pos 75000000000000000000;
    }

abbrev pub tree : Tree
tree =
    record {
      option = [];
      steps = starve 3 ∷ loose (4 ∷ []) ∷ sole 5 2 ∷ [];
      end =
          branch (at_material 2 3);
    }
    ∷ record {
      option = 0 ∷ [];
      steps = [];
      end =
          leaf (bounded (pos 1) (pos 0 ∷ pos 3000000 ∷ pos 3000000 ∷ []));
    }
    ∷ record {
      option = 1 ∷ [];
      steps = [];
      end =
          leaf (bounded (pos 1) (pos 0 ∷ pos 4000000 ∷ pos 4000000 ∷ []));
    }
    ∷ record {
      option = 0 ∷ 1 ∷ [];
      steps = [];
      end =
          leaf (bounded (pos 1) (pos 0 ∷ pos 0 ∷ pos 3000000 ∷ pos 3000000 ∷ []));
    }
    ∷ []

is_tree : IsTree tree
is_tree = (refl, (omega arith, (tt, (tt, (tt, tt)))))

-- ---- the claim

pub proper : IsProper g
proper = proper_if_valid example example_is_valid

pub known : (u : ℕ) → has (0 ∷ 2 ∷ []) u ≡ true → u < 5
known u e = has_below 5 (0 ∷ 2 ∷ []) u (omega arith, (omega arith, tt)) e

size_low : EachBelow 5 (λ i. has (0 ∷ 2 ∷ []) i ≡ true → (net.least i *ℤ pos 1) ≤ℤ size_in claim i)
size_low = (
  ((((tt, λ e. at_most _ _ tt), λ e. no_case e), λ e. at_most _ _ tt), λ e. no_case e),
  λ e. no_case e,
)

size_high : EachBelow 5 (λ i. has (0 ∷ 2 ∷ []) i ≡ true → size_in claim i ≤ℤ (net.most i *ℤ pos 1))
size_high = (
  ((((tt, λ e. at_most _ _ tt), λ e. no_case e), λ e. at_most _ _ tt), λ e. no_case e),
  λ e. no_case e,
)

others : EachBelow 5 (λ i. has (0 ∷ 2 ∷ []) i ≡ false → size_in claim i ≡ pos 0)
others = (((((tt, λ e. no_other e), λ e. refl), λ e. no_other e), λ e. refl), λ e. refl)

low_ends : EachBelow 6 (λ j. mats g (has (0 ∷ 2 ∷ [])) j ≡ true
    → (low_end net j (net.lower j) *ℤ pos 1) ≤ℤ balance net (has (0 ∷ 2 ∷ [])) (size_in claim) j)
unfolding listed
low_ends = (
  (
    ((((tt, λ e. at_most _ _ tt), λ e. no_case e), λ e. at_most _ _ tt), λ e. no_case e),
    λ e. no_case e,
  ),
  λ e. at_most _ _ tt,
)

high_ends : EachBelow 6 (λ j. mats g (has (0 ∷ 2 ∷ [])) j ≡ true
    → balance net (has (0 ∷ 2 ∷ [])) (size_in claim) j ≤ℤ (high_end net j (net.lower j) *ℤ pos 1))
unfolding listed
high_ends = (
  (
    ((((tt, λ e. at_most _ _ tt), λ e. no_case e), λ e. at_most _ _ tt), λ e. no_case e),
    λ e. no_case e,
  ),
  λ e. at_most _ _ tt,
)

pub its_flows : IsFlows net (has (0 ∷ 2 ∷ [])) (size_in claim) (pos 1)
its_flows = record {
  positive = at_most _ _ tt;
  at_least = each_below 5 _ size_low;
  at_most = each_below 5 _ size_high;
  no_others = each_below 5 _ others;
  low = each_below 6 _ low_ends;
  high = each_below 6 _ high_ends;
}

is_feasible : IsFeasible example claim
unfolding listed
is_feasible = record {
  structure = structure_if g proper (has (0 ∷ 2 ∷ [])) known refl;
  allowed = allowed_if g proper (has (0 ∷ 2 ∷ [])) known refl;
  balances = in_range (feasible_steps net (has (0 ∷ 2 ∷ [])) (size_in claim) (pos 1)) refl;
  flows = its_flows;
  costs = in_range (cost_steps net (has (0 ∷ 2 ∷ [])) (size_in claim) (pos 1)) refl;
  cost_is = refl;
}

-- ---- the tree

-- what the steps leave
abbrev starved : Node
starved = after g first_node (starve 3)

abbrev loosened : Node
loosened = after g starved (loose (4 ∷ []))

abbrev pub start : Node
start = after g loosened (sole 5 2)

-- all numbers that a child's bound forms
abbrev steps_of : List ℕ → List ℤ → List ℤ
steps_of t ys =
    bound_steps net (child g start 2 t) (pos 1) (multiplier example (child g start 2 t) ys)

abbrev Bounds : List ℕ → List ℤ → Type 0
Bounds t ys =
    LeafPasses false example (claimed_cost (network claim)) (child g start 2 t) (bounded (pos 1) ys)

pub first_bound : Bounds (0 ∷ []) (pos 0 ∷ pos 3000000 ∷ pos 3000000 ∷ [])
unfolding listed
first_bound =
    record {
      positive = at_most _ _ tt;
      each_row = refl;
      formed =
          in_range (steps_of (0 ∷ []) (pos 0 ∷ pos 3000000 ∷ pos 3000000 ∷ [])) refl;
      reaches =
          at_most _ _ tt;
    }

second_bound : Bounds (1 ∷ []) (pos 0 ∷ pos 4000000 ∷ pos 4000000 ∷ [])
unfolding listed
second_bound =
    record {
      positive = at_most _ _ tt;
      each_row = refl;
      formed =
          in_range (steps_of (1 ∷ []) (pos 0 ∷ pos 4000000 ∷ pos 4000000 ∷ [])) refl;
      reaches =
          at_most _ _ tt;
    }

third_bound : Bounds (0 ∷ 1 ∷ []) (pos 0 ∷ pos 0 ∷ pos 3000000 ∷ pos 3000000 ∷ [])
unfolding listed
third_bound =
    record {
      positive = at_most _ _ tt;
      each_row = refl;
      formed =
          in_range (steps_of (0 ∷ 1 ∷ []) (pos 0 ∷ pos 0 ∷ pos 3000000 ∷ pos 3000000 ∷ [])) refl;
      reaches = at_most _ _ tt;
    }

pub its_options : options g start 2 ≡ (0 ∷ []) ∷ (1 ∷ []) ∷ (0 ∷ 1 ∷ []) ∷ []
unfolding listed
its_options = refl

no_maker : EachBelow 5 (λ u. g.makes u 3 ≡ true → first_node.outside u ≡ true)
no_maker =
    (((((tt, λ e. no_case e), λ e. no_case e), λ e. no_case e), λ e. no_case e), λ e. no_case e)

one_maker : EachBelow 5 (λ v. g.makes v 5 ≡ true → loosened.outside v ≡ false → v ≡ 2)
one_maker =
    (((((tt, λ e. no_case e), λ e. no_case e), λ e f. refl), λ e f. no_other f), λ e. no_case e)

-- what `loose` needs of each material that one of its units makes
abbrev IsUseless : ℕ → Type 0
IsUseless x = (g.product x ≡ false)
    × ((v : ℕ) → v < 5 → starved.outside v ≡ false → has (4 ∷ []) v ≡ false → g.uses v x ≡ false)

five_free : EachBelow 5 (λ u. has (4 ∷ []) u ≡ true → (u < 5) × (is_free g starved u ≡ true))
five_free = (
  ((((tt, λ e. no_case e), λ e. no_case e), λ e. no_case e), λ e. no_case e),
  λ e. (omega arith, refl),
)

no_user : EachBelow 5 (λ v. starved.outside v ≡ false → has (4 ∷ []) v ≡ false → g.uses v 4 ≡ false)
no_user = (((((tt, λ e f. refl), λ e f. refl), λ e f. refl), λ e f. refl), λ e f. refl)

made_by_five : EachBelow 6 (λ x. g.makes 4 x ≡ true → IsUseless x)
made_by_five = (
  (
    ((((tt, λ e. no_case e), λ e. no_case e), λ e. no_case e), λ e. no_case e),
    λ e. (refl, each_below 5 _ no_user),
  ),
  λ e. no_case e,
)

all_useless : (x : ℕ) → EachBelow 5 (λ u. has (4 ∷ []) u ≡ true → g.makes u x ≡ true → IsUseless x)
all_useless x = (
  ((((tt, λ e f. no_case e), λ e f. no_case e), λ e f. no_case e), λ e f. no_case e),
  λ e f. each_below 6 (λ y. g.makes 4 y ≡ true → IsUseless y) made_by_five x
      (proper.output_known 4 x f) f,
)

is_loose : IsPossible g starved (loose (4 ∷ []))
is_loose = (
  (4, refl),
  (λ u e. each_below 5 (λ w. has (4 ∷ []) w ≡ true → (w < 5) × (is_free g starved w ≡ true))
      five_free u (has_below 5 (4 ∷ []) u (omega arith, tt) e) e),
  (λ u x e f. each_below 5 (λ w. has (4 ∷ []) w ≡ true → g.makes w x ≡ true → IsUseless x)
      (all_useless x) u (has_below 5 (4 ∷ []) u (omega arith, tt) e) e f),
)

is_starved : IsPossible g first_node (starve 3)
is_starved = (refl, each_below 5 _ no_maker, (3, omega arith, refl, refl), λ u lt e f. refl)

is_sole : IsPossible g loosened (sole 5 2)
is_sole = (refl, omega arith, refl, refl, refl, each_below 5 _ one_maker)

pub its_steps : StepsPass g first_node (starve 3 ∷ loose (4 ∷ []) ∷ sole 5 2 ∷ [])
its_steps = (is_starved, (is_loose, (is_sole, tt)))

is_accepted : IsAccepted example first_node (network claim) tree
unfolding listed
is_accepted = record {
  claimed = is_feasible;
  passes = (its_steps, (refl, refl), (tt, first_bound, (tt, second_bound, (tt, third_bound, tt))));
}
