-- A line of the example's head that bounds the use of C, for the claimed cost of 65. U4 is taken in
-- as the sole maker of P. The price of C is 2.2, and so is the worth of its use. U1 then owes
-- 3 - 2.2 for each unit of size, and U2 4 - 2.2. U3 owes 20 - 100 * 0.2 = 0 at its greatest size.
-- U4 pays the price of what it uses and gets its worth, and owes its 5. If 28 of C are used, a
-- network costs 5 + 28 * 2.2 = 66.6 at least. So no more than 28 are used, and no more of what a
-- unit makes of C is of use. At a price of 3 for C and P the node is charged
-- 60 + 5 + (20 - 28) = 57, and 60 + 5 + (20 - 100) before.
use Rattle.std.proofs.Common.{◌≡◌, ℤ, pos, negsuc, ◌<ℤ◌, List, [], ◌∷◌, refl, arith, inl, inr}
use Rattle.std.specs.Prelude.{Some}
use Rattle.std.proofs.lemmas.Int.{ints}
use Rattle.flow_rules.specs.number_sets.Sets.{listed}
use Rattle.flow_rules.specs.pns_rules.Nodes.{sole}
use Rattle.flow_rules.specs.ChargeFacts.{Demand}
use Rattle.flow_rules.specs.ChargeSteps.{charge_steps}
use Rattle.flow_rules.specs.ChargeLeaf.{charge_of}
use Rattle.tree_rules.specs.Leaf.{multiplier}
use Rattle.tree_rules.specs.Accepted.{first_node}
use Rattle.tree_rules.specs.declared.line_why.LineWhy.TheVariants as causes
use Rattle.tree_rules.specs.Charged.{handed, IsCharged}
use Rattle.tree_rules.specs.Trim.{trimmed_size}
use Rattle.tree_rules.specs.Head.{HeadLine, step, uses, known_first, with_demand, LinesPass}
use Rattle.tree_rules.specs.HeadFaults.{LineFails}
use Rattle.tree_rules.proofs.HeadExampleProblem.{example}
use Rattle.tree_rules.proofs.ExampleHead.{net, claimed, prices, known, one, one_maker}
use Rattle.tree_rules.proofs.HeadWorked.{in_range, at_most, each_below}

-- 28 of C, and what each part of its use is worth
abbrev asked : Demand
asked = record { of = 2; amount = pos 28000000; worth = pos 2200000 }

abbrev worths : List ℤ
worths = pos 0 ∷ pos 0 ∷ pos 2200000 ∷ pos 0 ∷ []

abbrev line : HeadLine
line = uses asked (pos 1) worths []

abbrev two : List HeadLine
two = step (sole 3 3) ∷ line ∷ []

-- what is charged if 28 are used, and at the price of 3 before the line and after it
charges :
    (charge_of example (known one).node (with_demand (known one).facts asked)
    (handed (pos 1) worths [])
    ≡ pos 66600000000000000000)
    × (charge_of example (known one).node (known one).facts (handed (pos 1) prices [])
    ≡ negsuc 14999999999999999999)
    × (charge_of example (known two).node (known two).facts (handed (pos 1) prices [])
    ≡ pos 57000000000000000000)
unfolding listed
charges = (refl, refl, refl)

-- the use that is known, and the size of U3 beyond which it makes nothing of use
sizes : ((known two).facts.used 2 ≡ Some (pos 28000000))
    × (trimmed_size net (known two).node (known two).facts 2 ≡ pos 28000000)
unfolding listed
sizes = (refl, refl)

use_charged : IsCharged example claimed (known one).node (with_demand (known one).facts asked)
    (pos 1) worths []
unfolding listed
use_charged = record {
  scale = inr (at_most _ _ tt, tt);
  each_row = refl;
  covered = tt;
  formed =
      in_range
      (charge_steps net (known one).node (with_demand (known one).facts asked) (pos 1)
      (multiplier example (known one).node worths) []) refl;
  reaches = inl (at_most _ _ tt, at_most _ _ tt);
}

lines_pass : LinesPass example claimed (known_first example first_node) two
unfolding listed
lines_pass = (
  (refl, omega arith, refl, refl, refl, each_below 4 _ one_maker),
  (
    record {
      row = refl;
      not_raw = refl;
      at_least = at_most _ _ tt;
      at_most = at_most _ _ tt;
      less = tt;
      worth = at_most _ _ tt;
      charged = use_charged;
    },
    tt,
  ),
)

-- the line says nothing new if it comes again
not_less : LineFails example claimed (known two) line causes.Fact
not_less =
    inl (
      refl,
      λ is. let less : pos 28000000 <ℤ pos 28000000 = is.4 in omega (arith, ints),
    )
