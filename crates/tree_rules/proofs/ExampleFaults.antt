-- Changes of the example's tree and of its claim, and the first fault of each.
use Rattle.std.proofs.Common.{◌≡◌, ℕ, ℤ, pos, ◌≤ℤ◌, false, List, [], ◌∷◌, refl, subst, inl, inr}
use Rattle.std.proofs.Common.{None}
use Rattle.flow_rules.specs.number_sets.Sets.{has, listed}
use Rattle.flow_rules.specs.pns_rules.Nodes.{starve, loose, sole, child}
use Rattle.flow_rules.proofs.pns_rules.Cited.{structure_if, allowed_if}
use Rattle.flow_rules.specs.Relaxed.{bound}
use Rattle.flow_rules.specs.BoundSteps.{bound_steps}
use Rattle.flow_rules.specs.CostSteps.{cost_steps}
use Rattle.flow_rules.specs.FeasibleSteps.{feasible_steps}
use Rattle.tree_rules.specs.declared.why.Why.TheVariants as causes
use Rattle.tree_rules.specs.Ways.{at_material}
use Rattle.tree_rules.specs.Tree.{TreeNode, branch, leaf}
use Rattle.tree_rules.specs.Claim.{Network, network, infeasible, unknown, size_in, ClaimFails}
use Rattle.tree_rules.specs.Leaf.{Leaf, bounded, untried, multiplier}
use Rattle.tree_rules.specs.Accepted.{Tree, first_node, NodeIsFault}
use Rattle.tree_rules.proofs.ExampleProblem.{example}
use Rattle.tree_rules.proofs.ExampleTree.{g, net, claim, tree, start, proper, known, its_flows}
use Rattle.tree_rules.proofs.ExampleTree.{its_steps}
use Rattle.tree_rules.proofs.Worked.{in_range, at_most, not_at_most}

-- a root with so many children, and the first two of them; the multiplier of P at the first is an
-- argument
abbrev root_with : ℕ → TreeNode Leaf
root_with c =
    record {
      option = [];
      steps = starve 3 ∷ loose (4 ∷ []) ∷ sole 5 2 ∷ [];
      end =
          branch (at_material 2 c);
    }

abbrev first_with : ℤ → TreeNode Leaf
first_with y =
    record {
      option = 0 ∷ [];
      steps = [];
      end =
          leaf (bounded (pos 1) (pos 0 ∷ pos 3000000 ∷ y ∷ []));
    }

abbrev second : TreeNode Leaf
second =
    record {
      option = 1 ∷ [];
      steps = [];
      end =
          leaf (bounded (pos 1) (pos 0 ∷ pos 4000000 ∷ pos 4000000 ∷ []));
    }

abbrev last : TreeNode Leaf
last =
    record {
      option = 0 ∷ 1 ∷ [];
      steps = [];
      end =
          leaf (bounded (pos 1) (pos 0 ∷ pos 0 ∷ pos 3000000 ∷ pos 3000000 ∷ []));
    }

abbrev too_few : Tree
too_few = root_with 2 ∷ first_with (pos 3000000) ∷ second ∷ []

abbrev too_low : Tree
too_low = root_with 3 ∷ first_with (pos 2999999) ∷ second ∷ last ∷ []

abbrev still_open : Tree
still_open = record { option = []; steps = []; end = leaf (untried None) } ∷ []

-- ---- nodes

option_is_missing : NodeIsFault false example first_node (network claim) too_few 0 causes.Options
unfolding listed
option_is_missing = inr (its_steps, inl (refl, λ h. cc))

low_bound : bound net (child g start 2 (0 ∷ [])) (pos 1)
    (multiplier example (child g start 2 (0 ∷ [])) (pos 0 ∷ pos 3000000 ∷ pos 2999999 ∷ []))
    ≡ pos 74999980000000000000
unfolding listed
low_bound = refl

abbrev low_steps : List ℤ
low_steps =
    bound_steps net (child g start 2 (0 ∷ [])) (pos 1)
    (multiplier example (child g start 2 (0 ∷ [])) (pos 0 ∷ pos 3000000 ∷ pos 2999999 ∷ []))

bound_is_low : NodeIsFault false example first_node (network claim) too_low 1 causes.Bound
unfolding listed
bound_is_low = (
  its_steps,
  (refl, refl),
  inr (
    tt,
    inr (
      (tt, at_most _ _ tt, refl),
      inr (
        in_range low_steps refl,
        inl (refl, λ h. not_at_most (pos 75000000000000000000) (pos 74999980000000000000) tt h),
      ),
    ),
  ),
)

-- nothing is claimed that a bound could reach
no_cost_to_reach : NodeIsFault false example first_node infeasible tree 1 causes.Bound
unfolding listed
no_cost_to_reach = (its_steps, (refl, refl), inr (tt, inl (refl, λ h. h.0)))

leaf_is_open : NodeIsFault false example first_node (network claim) still_open 0 causes.Open
leaf_is_open = inr (tt, inl (refl, λ h. cc))

-- ---- claims

abbrev too_cheap : Network
too_cheap =
    record {
      units = 0 ∷ 2 ∷ [];
      sizes = pos 20000000 ∷ pos 20000000 ∷ [];
      d = pos 1;
      cost =
          pos 74000000000000000000;
    }

cost_differs : ClaimFails false example (network too_cheap) causes.Cost
unfolding listed
cost_differs =
    inr (
      structure_if g proper (has (0 ∷ 2 ∷ [])) known refl,
      inr (
        allowed_if g proper (has (0 ∷ 2 ∷ [])) known refl,
        inr (
          in_range (feasible_steps net (has (0 ∷ 2 ∷ [])) (size_in too_cheap) (pos 1)) refl,
          inr (
            its_flows,
            inr (
              in_range (cost_steps net (has (0 ∷ 2 ∷ [])) (size_in too_cheap) (pos 1)) refl,
              inl (
                refl,
                λ h.
                    let same : pos 75000000000000000000 ≡ pos 74000000000000000000 = h in
                    not_at_most (pos 75000000000000000000) (pos 74000000000000000000) tt
                    (subst (λ (z : ℤ). pos 75000000000000000000 ≤ℤ z) same (at_most _ _ tt)),
              ),
            ),
          ),
        ),
      ),
    )

nothing_claimed : ClaimFails false example unknown causes.Unknown
nothing_claimed = inl (refl, λ h. cc)
