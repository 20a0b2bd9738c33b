-- A worked problem. A costs 2 and B 3. U1 makes C of A with a fixed cost of 10, and 1 for each unit
-- of size; U2 makes C of B with a fixed cost of 1, and 1 for each unit of size; U3 makes C of A
-- with a fixed cost of 20. Each of them has a size of at most 100. U4 makes the product P of C with
-- a fixed cost of 5 and a size of at most 150. 20 of P are wanted.
--
-- U4 is taken in, and no more than 20 of C are used. So a size of U1, U2 or U3 above 20 makes
-- nothing that is worth anything.
--
-- First charge: C and P at 3. The row of P gives 3 * 20 = 60, and U4 owes its 5. A size of U1 costs
-- 3 and earns 3, so U1 owes 10 or is left out: nothing. U2 owes 1 or nothing. A size of U3 costs 2
-- and earns 3, up to 20 at most: 20 - 20 * 1 = 0. Together 65, the least cost: U3 and U4 at size 20
-- cost 40 + 20 + 5. Without the knee U3 would owe 20 - 100.
--
-- Second charge: U2 is left out, C and P are at 5/2, and U1 and U3 are a set with the weight 10.
-- The row of P gives 50, the set 10, and U4 owes 5. U1 is paid 10 and owes 10 - 10 = 0. A size of
-- U3 costs 1/2 less than it earns, up to 20: U3 owes 20 - 10 - 20 / 2 = 0. Together 65 again;
-- without the set 55.
--
-- Third charge: nothing is taken in, and C and P are at 4. The row of P gives 80. U1 owes 10 - 20 *
-- (4 - 3) = -10, U2 owes 1 or nothing, and U3 owes 20 - 20 * (4 - 2) = -20. U4 owes 5 or nothing.
-- Together 50. Each structure that has U3 has U4: a set of U4 beside U3, of the weight 5, pays all
-- that U4 owes, and U3 pays it: it owes -15. Together 55.
--
-- Fourth charge: nothing is known of what is used, but no size is above 20. U4 is taken in, and C
-- and P are at 3, as in the first. At a size of 20 all that U3 makes is of use, so no knee counts:
-- U3 owes 20 - 20 * (3 - 2) = 0. Together 60 + 5 again. The list has each number that is formed: 2
-- for each of the rows A, B, C and P, 9 for each of the units, and one more for U4, which is added.
--
-- Fifth charge: at least 20 of B are used, and the use of 1 is worth 1. U2 and U4 are taken in, and
-- C and P are at 3 as in the first. The row of P gives 60 and the use 20. A size of U2 costs 4,
-- earns 3, and what it uses is worth 1: U2 owes 1. U1 and U3 owe nothing, and U4 owes 5. Together
-- 86, the least cost: U2 and U4 at size 20 cost 80 + 1 + 5. Without the use 66.
--
-- Sixth charge: at least 30 of C are used, and no cost is counted. The use of 1 is worth 1, P is at
-- -1, and no other row has a multiplier. The row of P gives -20 and the use 30, and a size of U4
-- owes 1 - 1. Together 10, which is above 0: so much of C can not be used. 20 can be: the charge is
-- 0 then.
use Rattle.std.proofs.Common.{◌≡◌, ℕ, ◌==◌, pos, negsuc, ℤ, List, [], ◌∷◌, refl, cond, length}
use Rattle.std.specs.Prelude.{Option, Some, None}
use Rattle.pns_rules.specs.number_sets.Sets.{has, listed}
use Rattle.pns_rules.specs.problem_rules.Problem.{Problem, Material, Kind, Term, raw_material}
use Rattle.pns_rules.specs.problem_rules.Problem.{intermediate}
use Rattle.pns_rules.specs.problem_rules.Problem.{product}
use Rattle.pns_rules.specs.Nodes.{Node}
use Rattle.flow_rules.specs.Net.{net_of, beside}
use Rattle.flow_rules.specs.Flows.{cost}
use Rattle.flow_rules.specs.Steps.{last_from}
use Rattle.flow_rules.specs.ChargeFacts.{Demand, Facts, own_facts}
use Rattle.flow_rules.specs.Cover.{Cover}
use Rattle.flow_rules.specs.Charge.{knees, owed_bent, unit_part, charge}
use Rattle.flow_rules.specs.ChargeSteps.{charge_steps}

-- at one unit of mass for each unit of size
abbrev term_of : ℕ → List Term
term_of x = record { material = x; rate = pos 1000000 } ∷ []

abbrev material : ℕ → Kind → ℤ → ℤ → ℤ → Material
material letter kind price lower upper =
    record { name = letter ∷ []; kind = kind; price = price; lower = lower; upper = upper }

abbrev plant : Problem
plant = record {
  materials = material 65 raw_material (pos 2000000) (pos 0) (pos 1000000000000000)
      ∷ material 66 raw_material (pos 3000000) (pos 0) (pos 1000000000000000)
      ∷ material 67 intermediate (pos 0) (pos 0) (pos 1000000000000000)
      ∷ material 80 product (pos 0) (pos 20000000) (pos 20000000)
      ∷ [];
  units = record {
    name = 85 ∷ 49 ∷ [];
    lower = pos 0;
    upper = pos 100000000;
    fix = pos 10000000;
    proportional = pos 1000000;
    investment_fix = pos 0;
    investment_proportional = pos 0;
    inputs = term_of 0;
    outputs = term_of 2;
  }
      ∷ record {
        name = 85 ∷ 50 ∷ [];
        lower = pos 0;
        upper = pos 100000000;
        fix = pos 1000000;
        proportional = pos 1000000;
        investment_fix = pos 0;
        investment_proportional = pos 0;
        inputs = term_of 1;
        outputs = term_of 2;
      }
      ∷ record {
        name = 85 ∷ 51 ∷ [];
        lower = pos 0;
        upper = pos 100000000;
        fix = pos 20000000;
        proportional = pos 0;
        investment_fix = pos 0;
        investment_proportional = pos 0;
        inputs = term_of 0;
        outputs = term_of 2;
      }
      ∷ record {
        name = 85 ∷ 52 ∷ [];
        lower = pos 0;
        upper = pos 150000000;
        fix = pos 5000000;
        proportional = pos 0;
        investment_fix = pos 0;
        investment_proportional = pos 0;
        inputs = term_of 2;
        outputs = term_of 3;
      }
      ∷ [];
  exclusions = [];
  payout = pos 1;
}

-- no more than 20 of C are used
abbrev used_of : ℕ → Option ℤ
used_of j = cond (j == 2) (Some (pos 20000000)) None

abbrev facts : Facts
facts = record {
  least = (net_of plant).least;
  most = (net_of plant).most;
  used = used_of;
  demand = None;
}

-- one number for C and P, none for A and B
abbrev at_price : ℤ → ℕ → ℤ
at_price y = beside (2 ∷ 3 ∷ []) (y ∷ y ∷ [])

least_cost : cost (net_of plant) (has (2 ∷ 3 ∷ []))
    (beside (2 ∷ 3 ∷ []) (pos 20000000 ∷ pos 20000000 ∷ [])) (pos 1) ≡ pos 65000000000000000000
unfolding listed
least_cost = refl

-- ---- the first charge

abbrev node : Node
node = record { inside = has (3 ∷ []); outside = has [] }

-- U3 has one knee, at the size 20, and each unit of size below it is worth 3
its_knee : knees (net_of plant) node facts (at_price (pos 3000000)) 2
    ≡ record { at = pos 20000000; worth = pos 3000000000000 } ∷ []
unfolding listed
its_knee = refl

-- nothing is left to pay for its size, and nothing besides
its_rest : owed_bent (net_of plant) node facts (pos 1) (at_price (pos 3000000)) [] 2
    ≡ record { each = pos 0; once = pos 0 }
unfolding listed
its_rest = refl

its_charge : charge (net_of plant) node facts (pos 1) (at_price (pos 3000000)) []
    ≡ pos 65000000000000000000
unfolding listed
its_charge = refl

-- a price that is lower by a millionth
less_charge : charge (net_of plant) node facts (pos 1) (at_price (pos 2999999)) []
    ≡ pos 64999980000000000000
unfolding listed
less_charge = refl

-- with the problem's own numbers up to 150 of C may be used, and U3 makes at most 100: 65 + 20 -
-- 100
own_charge : charge (net_of plant) node (own_facts (net_of plant)) (pos 1)
    (at_price (pos 3000000)) [] ≡ negsuc 14999999999999999999
unfolding listed
own_charge = refl

-- ---- the second charge

abbrev smaller : Node
smaller = record { inside = has (3 ∷ []); outside = has (1 ∷ []) }

abbrev set : Cover
set = record { weight = pos 10000000000000000000; beside = None; units = 0 ∷ 2 ∷ [] }

without_set : charge (net_of plant) smaller facts (pos 1) (at_price (pos 2500000)) []
    ≡ pos 55000000000000000000
unfolding listed
without_set = refl

with_set : charge (net_of plant) smaller facts (pos 1) (at_price (pos 2500000)) (set ∷ [])
    ≡ pos 65000000000000000000
unfolding listed
with_set = refl

-- what U1 and U3 give to it, which are paid all that they owe
paid_parts : unit_part (net_of plant) smaller facts (pos 1) (at_price (pos 2500000)) (set ∷ []) 0
    ∷ unit_part (net_of plant) smaller facts (pos 1) (at_price (pos 2500000)) (set ∷ []) 2 ∷ []
    ≡ pos 0 ∷ pos 0 ∷ []
unfolding listed
paid_parts = refl

-- its steps: two for each row, one for the weight, one for each unit of the set, and for each unit
-- three, two for each of its rates, three for a knee that counts, two for its sizes, and one more
-- for U4, which is taken in
its_steps : length (charge_steps (net_of plant) smaller facts (pos 1) (at_price (pos 2500000))
    (set ∷ [])) ≡ 40
unfolding listed
its_steps = refl

its_last : last_from (pos 0) (charge_steps (net_of plant) smaller facts (pos 1)
    (at_price (pos 2500000)) (set ∷ [])) ≡ pos 65000000000000000000
unfolding listed
its_last = refl

-- ---- the third charge

abbrev root : Node
root = record { inside = has []; outside = has [] }

abbrev beside_unit : Cover
beside_unit = record { weight = pos 5000000000000000000; beside = Some 2; units = 3 ∷ [] }

at_root : charge (net_of plant) root facts (pos 1) (at_price (pos 4000000)) []
    ≡ pos 50000000000000000000
unfolding listed
at_root = refl

at_root_beside : charge (net_of plant) root facts (pos 1) (at_price (pos 4000000))
    (beside_unit ∷ []) ≡ pos 55000000000000000000
unfolding listed
at_root_beside = refl

-- two steps for each of four rows, what U4 is paid and what U3 is then, nine for each unit, and
-- four more for U1 and for U3: a knee that counts, and the sum with what the unit owes
its_steps_beside : length (charge_steps (net_of plant) root facts (pos 1) (at_price (pos 4000000))
    (beside_unit ∷ [])) ≡ 54
unfolding listed
its_steps_beside = refl

-- ---- the fourth charge

abbrev cut : Facts
cut = record {
  least = (net_of plant).least;
  most = λ i. pos 20000000;
  used = λ j. None;
  demand = None;
}

its_numbers : charge_steps (net_of plant) node cut (pos 1) (at_price (pos 3000000)) []
    ≡ pos 0 ∷ pos 0
    ∷ pos 0 ∷ pos 0
    ∷ pos 0 ∷ pos 0
    ∷ pos 60000000000000000000 ∷ pos 60000000000000000000
    ∷ pos 3000000000000 ∷ pos 0 ∷ pos 3000000000000 ∷ pos 3000000000000 ∷ pos 0
    ∷ pos 10000000000000000000 ∷ pos 10000000000000000000 ∷ pos 0 ∷ pos 10000000000000000000
    ∷ pos 4000000000000 ∷ pos 0 ∷ pos 4000000000000 ∷ pos 3000000000000 ∷ pos 1000000000000
    ∷ pos 1000000000000000000 ∷ pos 1000000000000000000 ∷ pos 0 ∷ pos 1000000000000000000
    ∷ pos 2000000000000 ∷ pos 0 ∷ pos 2000000000000 ∷ pos 3000000000000 ∷ negsuc 999999999999
    ∷ pos 20000000000000000000 ∷ pos 20000000000000000000 ∷ negsuc 19999999999999999999 ∷ pos 0
    ∷ pos 0 ∷ negsuc 2999999999999 ∷ pos 3000000000000 ∷ pos 3000000000000 ∷ pos 0
    ∷ pos 5000000000000000000 ∷ pos 5000000000000000000 ∷ pos 0 ∷ pos 5000000000000000000
    ∷ pos 65000000000000000000
    ∷ []
unfolding listed
its_numbers = refl

cut_charge : charge (net_of plant) node cut (pos 1) (at_price (pos 3000000)) []
    ≡ pos 65000000000000000000
unfolding listed
cut_charge = refl

-- a price that is lower by a millionth is not enough
less_cut_charge : charge (net_of plant) node cut (pos 1) (at_price (pos 2999999)) []
    ≡ pos 64999980000000000000
unfolding listed
less_cut_charge = refl

-- ---- the fifth charge

abbrev asking : Demand → Facts
asking q = record {
  least = (net_of plant).least;
  most = (net_of plant).most;
  used = used_of;
  demand = Some q;
}

abbrev much_of_b : Facts
much_of_b = asking (record { of = 1; amount = pos 20000000; worth = pos 1000000 })

abbrev both : Node
both = record { inside = has (1 ∷ 3 ∷ []); outside = has [] }

cost_with_b : cost (net_of plant) (has (1 ∷ 3 ∷ []))
    (beside (1 ∷ 3 ∷ []) (pos 20000000 ∷ pos 20000000 ∷ [])) (pos 1) ≡ pos 86000000000000000000
unfolding listed
cost_with_b = refl

-- what U2 owes: nothing for its size, and its fixed cost
its_rest_with_b : owed_bent (net_of plant) both much_of_b (pos 1) (at_price (pos 3000000)) [] 1
    ≡ record { each = pos 0; once = pos 1000000000000000000 }
unfolding listed
its_rest_with_b = refl

charge_with_b : charge (net_of plant) both much_of_b (pos 1) (at_price (pos 3000000)) []
    ≡ pos 86000000000000000000
unfolding listed
charge_with_b = refl

charge_without_b : charge (net_of plant) both facts (pos 1) (at_price (pos 3000000)) []
    ≡ pos 66000000000000000000
unfolding listed
charge_without_b = refl

-- two steps for each of four rows, three for the use, nine for each unit, two more for U2, which
-- uses B, three for the knee of U3, and one for each of the two that are taken in
its_steps_with_b : length (charge_steps (net_of plant) both much_of_b (pos 1)
    (at_price (pos 3000000)) []) ≡ 54
unfolding listed
its_steps_with_b = refl

its_last_with_b : last_from (pos 0) (charge_steps (net_of plant) both much_of_b (pos 1)
    (at_price (pos 3000000)) []) ≡ pos 86000000000000000000
unfolding listed
its_last_with_b = refl

-- ---- the sixth charge

abbrev much_of_c : ℤ → Facts
much_of_c amount = asking (record { of = 2; amount = amount; worth = pos 1 })

refuted : charge (net_of plant) node (much_of_c (pos 30000000)) (pos 0)
    (beside (3 ∷ []) (negsuc 0 ∷ [])) [] ≡ pos 10000000000000
unfolding listed
refuted = refl

not_refuted : charge (net_of plant) node (much_of_c (pos 20000000)) (pos 0)
    (beside (3 ∷ []) (negsuc 0 ∷ [])) [] ≡ pos 0
unfolding listed
not_refuted = refl
