-- Texts and the problems that they stand for: defaults of every key, units with and without a line
-- of their own, exclusions in any order, and payout periods in any spelling.
use Rattle.std.proofs.Common.{◌≡◌, ℕ, List, [], ◌∷◌, map, flat_map, codes, refl, Result, Ok, Err}
use Rattle.std.proofs.Common.{pos, negsuc, ℤ}
use Rattle.problem_rules.specs.Problem.{raw_material, intermediate, product, Problem}
use Rattle.text_rules.specs.Fault.{Fault}
use Rattle.text_rules.specs.Value.{read_text}
use Rattle.text_rules.proofs.Texts.{body}

-- sections in reverse order: a value that an item leaves out is the default, wherever that is
reversed : List (List ℕ)
reversed =
    codes "mutual_exclusions:"
    ∷ codes "X: W, V"
    ∷ codes "material_to_operating_unit_flow_rates:"
    ∷ codes "W: A => 0.5 P"
    ∷ codes "V: 2 A + B => P"
    ∷ codes "operating_units:"
    ∷ codes "V : capacity_upper_bound = 7 , investment_fix_cost=1"
    ∷ codes "materials:"
    ∷ codes "P: flow_rate_lower_bound=3"
    ∷ codes "A: raw_material, price=-1"
    ∷ codes "B: flow_rate_upper_bound=5, intermediate"
    ∷ codes "defaults:"
    ∷ codes "payout_period=12"
    ∷ codes "material_type=product"
    ∷ codes "material_price=9"
    ∷ codes "material_flow_rate_lower_bound=1"
    ∷ codes "material_flow_rate_upper_bound=4"
    ∷ codes "operating_unit_capacity_lower_bound=2"
    ∷ codes "operating_unit_capacity_upper_bound=6"
    ∷ codes "operating_unit_fix_cost=11"
    ∷ codes "operating_unit_proportional_cost=-13"
    ∷ codes "operating_unit_investment_fix_cost=17"
    ∷ codes "operating_unit_investment_proportional_cost=-19"
    ∷ []

reversed_problem : Problem
reversed_problem = record {
  materials =
      record {
        name = codes "P";
        kind = product;
        price = pos 9000000;
        lower = pos 3000000;
        upper =
            pos 4000000;
      }
      ∷ record {
        name = codes "A";
        kind = raw_material;
        price = negsuc 999999;
        lower =
            pos 1000000;
        upper = pos 4000000;
      }
      ∷ record {
        name = codes "B";
        kind = intermediate;
        price = pos 9000000;
        lower =
            pos 1000000;
        upper = pos 5000000;
      } ∷ [];
  units = record {
    name = codes "V";
    lower = pos 2000000;
    upper = pos 7000000;
    fix = pos 11000000;
    proportional = negsuc 12999999;
    investment_fix = pos 1000000;
    investment_proportional = negsuc 18999999;
    inputs = record { material = 1; rate = pos 2000000 }
        ∷ record { material = 2; rate = pos 1000000 } ∷ [];
    outputs = record { material = 0; rate = pos 1000000 } ∷ [];
  } ∷ record {
    name = codes "W";
    lower = pos 2000000;
    upper = pos 6000000;
    fix = pos 11000000;
    proportional = negsuc 12999999;
    investment_fix = pos 17000000;
    investment_proportional = negsuc 18999999;
    inputs = record { material = 1; rate = pos 1000000 } ∷ [];
    outputs = record { material = 0; rate = pos 500000 } ∷ [];
  } ∷ [];
  exclusions = record { name = codes "X"; units = 0 ∷ 1 ∷ [] } ∷ [];
  payout = pos 12;
}

reversed_reads : read_text (body reversed) ≡ Ok reversed_problem
unfolding reversed reversed_problem
reversed_reads = refl

-- a remark before each line, with the same text
remarked : List (List ℕ) → List (List ℕ)
remarked = flat_map (λ line. (32 ∷ 9 ∷ 35 ∷ line) ∷ line ∷ [])

remarked_reads : read_text (body (remarked reversed)) ≡ Ok reversed_problem
unfolding reversed reversed_problem remarked
remarked_reads = refl

-- the values if neither a line nor the defaults have any
bare : Problem
bare = record {
  materials =
      record {
        name = codes "P";
        kind = product;
        price = pos 0;
        lower = pos 0;
        upper =
            pos 1000000000000000;
      }
      ∷ record {
        name = codes "A";
        kind = intermediate;
        price = pos 0;
        lower = pos 0;
        upper =
            pos 1000000000000000;
      } ∷ [];
  units = record {
    name = codes "U";
    lower = pos 0;
    upper = pos 1000000000000000;
    fix = pos 0;
    proportional = pos 0;
    investment_fix = pos 0;
    investment_proportional = pos 0;
    inputs = record { material = 1; rate = pos 1000000 } ∷ [];
    outputs = record { material = 0; rate = pos 1000000 } ∷ [];
  } ∷ [];
  exclusions = [];
  payout = pos 1;
}

bare_reads : read_text
    (body (codes "materials:" ∷ codes "P: product" ∷ codes "A"
    ∷ codes "material_to_operating_unit_flow_rates:" ∷ codes "U: A => P" ∷ [])) ≡ Ok bare
unfolding bare
bare_reads = refl

-- a payout period in any spelling of a whole number of years
payout_in : Result Problem Fault → ℤ
payout_in (Ok p) = p.payout
payout_in (Err fault) = negsuc 0

paying : List ℕ → List ℕ
paying line = body (codes "materials:" ∷ codes "P: product" ∷ codes "defaults:" ∷ line ∷ [])

payouts : List (List ℕ × ℤ)
payouts =
    (codes "payout_period=1", pos 1)
    ∷ (codes "payout_period=1e1", pos 10)
    ∷ (codes "payout_period = 10.0", pos 10)
    ∷ (codes "payout_period=100", pos 100)
    ∷ (codes "payout_period=+0.5e2", pos 50)
    ∷ (codes "material_price=7", pos 1)
    ∷ (codes "payout_period=101", negsuc 0)
    ∷ []

payouts_read : map (λ row. payout_in (read_text (paying (row.0)))) payouts
    ≡ map (λ row. row.1) payouts
unfolding payouts paying payout_in
payouts_read = refl
