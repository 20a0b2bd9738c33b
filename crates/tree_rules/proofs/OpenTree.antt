-- The example with U3 in or out (`EitherTree`), and the leaf where U3 is in still open. With a
-- bound there, C and P at 1.5, the row of P gives 30, U3 owes 20 and U4 5: no network costs less
-- than 55, whichever of that leaf. The bound is written over 2. Without it nothing is known below
-- the claimed cost.
use Rattle.std.proofs.Common.{◌≡◌, ℤ, pos, true, false, [], ◌∷◌, Option, Some, None, refl, inl, inr}
use Rattle.flow_rules.specs.number_sets.Sets.{listed}
use Rattle.flow_rules.specs.BoundSteps.{bound_steps}
use Rattle.tree_rules.specs.declared.why.Why.TheVariants as causes
use Rattle.tree_rules.specs.Ways.{either}
use Rattle.tree_rules.specs.Tree.{TreeNode, leaf}
use Rattle.tree_rules.specs.Claim.{network}
use Rattle.tree_rules.specs.Leaf.{Leaf, untried, Scaled, multiplier}
use Rattle.tree_rules.specs.Lower.{lower_bound}
use Rattle.tree_rules.specs.Accepted.{Tree, first_node, IsPartial, NodeIsFault}
use Rattle.tree_rules.proofs.EitherProblem.{example}
use Rattle.tree_rules.proofs.EitherTree.{net, claim, root_by, bound_by, three_each, three_in}
use Rattle.tree_rules.proofs.EitherTree.{its_steps, three_may, is_feasible, out_bound}
use Rattle.tree_rules.proofs.Worked.{in_range, at_most, not_at_most}

abbrev low_over : ℤ → Scaled
low_over d = record { d = d; ys = pos 0 ∷ pos 0 ∷ pos 3000000 ∷ pos 3000000 ∷ [] }

abbrev open_by : Option Scaled → TreeNode Leaf
open_by low = record { option = 2 ∷ []; steps = []; end = leaf (untried low) }

abbrev tree_with : Option Scaled → Tree
tree_with low = root_by (either 2) ∷ open_by low ∷ bound_by [] three_each ∷ []

abbrev with_low : Tree
with_low = tree_with (Some (low_over (pos 2)))

is_partial : IsPartial example first_node (network claim) with_low
unfolding listed
is_partial = record {
  claimed = is_feasible;
  passes = (
    its_steps,
    (three_may, refl),
    (
      tt,
      (
        refl,
        record {
          positive = at_most _ _ tt;
          each_row = refl;
          formed =
              in_range
              (bound_steps net three_in (pos 2) (multiplier example three_in (low_over (pos 2)).ys))
              refl;
        },
      ),
      (tt, out_bound, tt),
    ),
  );
}

-- ---- lower bounds

its_bound : lower_bound example first_node (network claim) with_low
    ≡ Some (Some (record { cost = pos 110000000000000000000; d = pos 2 }))
unfolding listed
its_bound = refl

no_bound : lower_bound example first_node (network claim) (tree_with None) ≡ None
no_bound = refl

-- where no leaf is open, it is what is claimed
closed_bound : lower_bound example first_node (network claim)
    (root_by (either 2) ∷ bound_by (2 ∷ []) three_each ∷ bound_by [] three_each ∷ [])
    ≡ Some (Some (record { cost = pos 65000000000000000000; d = pos 1 }))
closed_bound = refl

-- ---- faults

-- in a whole tree no leaf is open
still_open : NodeIsFault false example first_node (network claim) with_low 1 causes.Open
unfolding listed
still_open = (its_steps, (three_may, refl), inr (tt, inl (refl, λ h. cc)))

-- the scale is 0
no_scale : NodeIsFault true example first_node (network claim) (tree_with (Some (low_over (pos 0))))
    1 causes.Bound
unfolding listed
no_scale = (
  its_steps,
  (three_may, refl),
  inr (tt, inr (refl, inl (refl, λ h. not_at_most (pos 1) (pos 0) tt h.0))),
)
