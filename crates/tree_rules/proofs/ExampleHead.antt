-- The head of a tree for the example, for the claimed cost of 65, that of U3 and U4 at size 20. U4
-- is taken in as the sole maker of P. Nothing beyond 20 of P can be of use, so no size above 20 of
-- U4, and then no more than 20 of C: no unit is larger than 20. U3 at a price of 3 for C owes
-- 20 - 20 * 1 = 0, so with U1 a network costs 60 + 5 + 10 at least, and U1 is left out; with U2 at
-- size 1 or more it costs 60 + 5 + 1 + 1, so U2 is not larger. What is known then charges the node
-- with 65: no network costs less, and the tree is one leaf.
use Rattle.std.proofs.Common.{◌≡◌, ℤ, pos, negsuc, true, false, List, [], ◌∷◌, refl, arith, inl}
use Rattle.std.proofs.Common.{inr, map}
use Rattle.std.specs.Prelude.{Option, Some}
use Rattle.flow_rules.specs.number_sets.Sets.{listed}
use Rattle.flow_rules.specs.pns_rules.Nodes.{Node, sole}
use Rattle.flow_rules.specs.Net.{Net, net_of}
use Rattle.flow_rules.specs.ChargeFacts.{Facts}
use Rattle.flow_rules.specs.ChargeSteps.{charge_steps}
use Rattle.flow_rules.specs.ChargeLeaf.{charge_of}
use Rattle.tree_rules.specs.Claim.{CostOver}
use Rattle.tree_rules.specs.Leaf.{multiplier}
use Rattle.tree_rules.specs.Accepted.{first_node}
use Rattle.tree_rules.specs.Charged.{handed, IsCharged}
use Rattle.tree_rules.specs.Trim.{MayTrim}
use Rattle.tree_rules.specs.Head.{HeadLine, step, cap, out, trim, Known, known_first, with_in}
use Rattle.tree_rules.specs.Head.{with_least, after_lines, LinesPass}
use Rattle.tree_rules.proofs.HeadExampleProblem.{example}
use Rattle.tree_rules.proofs.HeadWorked.{in_range, at_most, not_at_most, EachBelow, each_below}
use Rattle.tree_rules.proofs.HeadWorked.{no_case}

abbrev pub net : Net
net = net_of example

abbrev pub claimed : Option CostOver
claimed = Some (record { cost = pos 65000000000000000000; d = pos 1 })

abbrev pub prices : List ℤ
prices = pos 0 ∷ pos 0 ∷ pos 3000000 ∷ pos 3000000 ∷ []

-- ---- what is known after each line

abbrev pub known : List HeadLine → Known
known lines = after_lines example (known_first example first_node) lines

abbrev pub one : List HeadLine
one = step (sole 3 3) ∷ []

abbrev two : List HeadLine
two = step (sole 3 3) ∷ trim 3 ∷ []

abbrev three : List HeadLine
three = step (sole 3 3) ∷ trim 3 ∷ trim 0 ∷ []

abbrev four : List HeadLine
four = step (sole 3 3) ∷ trim 3 ∷ trim 0 ∷ trim 1 ∷ []

abbrev pub five : List HeadLine
five = step (sole 3 3) ∷ trim 3 ∷ trim 0 ∷ trim 1 ∷ trim 2 ∷ []

abbrev six : List HeadLine
six = step (sole 3 3) ∷ trim 3 ∷ trim 0 ∷ trim 1 ∷ trim 2 ∷ out 0 (pos 1) prices [] ∷ []

abbrev head : List HeadLine
head =
    step (sole 3 3) ∷ trim 3 ∷ trim 0 ∷ trim 1 ∷ trim 2 ∷ out 0 (pos 1) prices []
    ∷ cap 1 (pos 1000000) (pos 1) prices [] ∷ []

-- the greatest sizes before the first line, after the trims, and after the last line
sizes : (map (known []).facts.most (0 ∷ 1 ∷ 2 ∷ 3 ∷ [])
    ≡ pos 100000000 ∷ pos 100000000 ∷ pos 100000000 ∷ pos 150000000 ∷ [])
    × (map (known five).facts.most (0 ∷ 1 ∷ 2 ∷ 3 ∷ [])
    ≡ pos 20000000 ∷ pos 20000000 ∷ pos 20000000 ∷ pos 20000000 ∷ [])
    × (map (known head).facts.most (0 ∷ 1 ∷ 2 ∷ 3 ∷ [])
    ≡ pos 20000000 ∷ pos 1000000 ∷ pos 20000000 ∷ pos 20000000 ∷ [])
unfolding listed
sizes = (refl, refl, refl)

-- the charges of the two lines, and of the node after them
charges :
    (charge_of example (with_in (known five).node 0) (known five).facts (handed (pos 1) prices [])
    ≡ pos 75000000000000000000)
    × (charge_of example (with_in (known six).node 1)
    (with_least (known six).facts 1 (pos 1000000)) (handed (pos 1) prices [])
    ≡ pos 67000000000000000000)
    × (charge_of example (known head).node (known head).facts (handed (pos 1) prices [])
    ≡ pos 65000000000000000000)
unfolding listed
charges = (refl, refl, refl)

-- before the units are trimmed the node is charged less than nothing
untrimmed : charge_of example (known one).node (known one).facts (handed (pos 1) prices [])
    ≡ negsuc 14999999999999999999
unfolding listed
untrimmed = refl

-- ---- the lines pass

pub one_maker : EachBelow 4 (λ v. net.graph.makes v 3 ≡ true → first_node.outside v ≡ false → v ≡ 3)
one_maker = ((((tt, λ e. no_case e), λ e. no_case e), λ e. no_case e), λ e f. refl)

pub may_trim_last : MayTrim net (known one).node (known one).facts 3
unfolding listed
may_trim_last = record {
  known = omega arith;
  not_outside = refl;
  costs = at_most _ _ tt;
  no_raw = each_below 4 _ ((((tt, λ h. absurd h.lt), λ h. absurd h.lt), λ h. refl), λ h. refl);
  inputs =
      each_below 4 _
      ((((tt, λ h. at_most _ _ tt), λ h. at_most _ _ tt), λ h. at_most _ _ tt), λ h. absurd h.lt);
  less = at_most _ _ tt;
}

pub may_trim_first : MayTrim net (known two).node (known two).facts 0
unfolding listed
may_trim_first = record {
  known = omega arith;
  not_outside = refl;
  costs = at_most _ _ tt;
  no_raw = each_below 4 _ ((((tt, λ h. absurd h.lt), λ h. absurd h.lt), λ h. refl), λ h. refl);
  inputs =
      each_below 4 _ (
        (((tt, λ h. at_most _ _ tt), λ h. at_most _ _ tt), λ h. at_most _ _ tt),
        λ h. at_most _ _ tt,
      );
  less = at_most _ _ tt;
}

pub may_trim_second : MayTrim net (known three).node (known three).facts 1
unfolding listed
may_trim_second = record {
  known = omega arith;
  not_outside = refl;
  costs = at_most _ _ tt;
  no_raw = each_below 4 _ ((((tt, λ h. absurd h.lt), λ h. absurd h.lt), λ h. refl), λ h. refl);
  inputs =
      each_below 4 _ (
        (((tt, λ h. at_most _ _ tt), λ h. at_most _ _ tt), λ h. at_most _ _ tt),
        λ h. at_most _ _ tt,
      );
  less = at_most _ _ tt;
}

pub may_trim_third : MayTrim net (known four).node (known four).facts 2
unfolding listed
may_trim_third = record {
  known = omega arith;
  not_outside = refl;
  costs = at_most _ _ tt;
  no_raw = each_below 4 _ ((((tt, λ h. absurd h.lt), λ h. absurd h.lt), λ h. refl), λ h. refl);
  inputs =
      each_below 4 _ (
        (((tt, λ h. at_most _ _ tt), λ h. at_most _ _ tt), λ h. at_most _ _ tt),
        λ h. at_most _ _ tt,
      );
  less = at_most _ _ tt;
}

abbrev steps_of : Node → Facts → List ℤ
steps_of n f = charge_steps net n f (pos 1) (multiplier example n prices) []

out_charged : IsCharged example claimed (with_in (known five).node 0) (known five).facts (pos 1)
    prices []
unfolding listed
out_charged = record {
  scale = inr (at_most _ _ tt, tt);
  each_row = refl;
  covered = tt;
  formed = in_range (steps_of (with_in (known five).node 0) (known five).facts) refl;
  reaches = inl (at_most _ _ tt, at_most _ _ tt);
}

cap_charged : IsCharged example claimed (with_in (known six).node 1)
    (with_least (known six).facts 1 (pos 1000000)) (pos 1) prices []
unfolding listed
cap_charged = record {
  scale = inr (at_most _ _ tt, tt);
  each_row = refl;
  covered = tt;
  formed =
      in_range
      (steps_of (with_in (known six).node 1) (with_least (known six).facts 1 (pos 1000000))) refl;
  reaches = inl (at_most _ _ tt, at_most _ _ tt);
}

pub lines_pass : LinesPass example claimed (known_first example first_node) head
unfolding listed
lines_pass = (
  (refl, omega arith, refl, refl, refl, each_below 4 _ one_maker),
  (
    may_trim_last,
    (
      may_trim_first,
      (
        may_trim_second,
        (
          may_trim_third,
          (
            record {
              free = record { known = omega arith; not_inside = refl; not_outside = refl };
              charged = out_charged;
            },
            (
              record {
                known = omega arith;
                not_outside = refl;
                at_least = at_most _ _ tt;
                at_most = at_most _ _ tt;
                charged = cap_charged;
              },
              tt,
            ),
          ),
        ),
      ),
    ),
  ),
)

-- the node after them is charged all of the claimed cost
is_charged : IsCharged example claimed (known head).node (known head).facts (pos 1) prices []
unfolding listed
is_charged = record {
  scale = inr (at_most _ _ tt, tt);
  each_row = refl;
  covered = tt;
  formed = in_range (steps_of (known head).node (known head).facts) refl;
  reaches = inl (at_most _ _ tt, at_most _ _ tt);
}

-- before U4 is trimmed, 150 of C may be used, and U1 is not larger than 100: it may not be trimmed
pub too_early : MayTrim net (known one).node (known one).facts 0 → ⊥
unfolding listed
too_early may = not_at_most _ _ tt may.less
