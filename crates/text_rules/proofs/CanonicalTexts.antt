-- Canonical texts, byte for byte: rates that are 1 and rates that are not, amounts below 0 and with
-- places, both investment costs, and a problem with the default bounds.
use Rattle.std.proofs.Common.{◌≡◌, ℕ, List, [], ◌∷◌, codes, refl, Ok, pos, negsuc}
use Rattle.std.specs.Fmt.{digits}
use Rattle.problem_rules.specs.Problem.{raw_material, intermediate, product, Problem}
use Rattle.text_rules.specs.Canonical.{canonical}
use Rattle.text_rules.specs.Value.{read_text}
use Rattle.text_rules.proofs.Texts.{text_of}

mixed : Problem
mixed = record {
  materials =
      record {
        name = codes "A";
        kind = raw_material;
        price = negsuc 1500000;
        lower = pos 0;
        upper =
            pos 1000000000000000;
      }
      ∷ record {
        name = codes "B";
        kind = intermediate;
        price = pos 1;
        lower = pos 500000;
        upper =
            pos 500000;
      }
      ∷ record {
        name = codes "P";
        kind = product;
        price = pos 0;
        lower = pos 20000000;
        upper =
            pos 20500000;
      } ∷ [];
  units = record {
    name = codes "U1";
    lower = pos 0;
    upper = pos 100000000;
    fix = pos 10;
    proportional = negsuc 0;
    investment_fix = pos 100000000;
    investment_proportional = negsuc 9999999;
    inputs = record { material = 0; rate = pos 2000000 }
        ∷ record { material = 1; rate = pos 1000000 } ∷ [];
    outputs = record { material = 2; rate = pos 1 } ∷ [];
  } ∷ record {
    name = codes "U2";
    lower = pos 1000000;
    upper = pos 1000000;
    fix = pos 0;
    proportional = pos 0;
    investment_fix = pos 0;
    investment_proportional = pos 1;
    inputs = record { material = 1; rate = pos 1000000 } ∷ [];
    outputs = record { material = 2; rate = pos 1000000 }
        ∷ record { material = 0; rate = pos 1000000000000000 } ∷ [];
  } ∷ [];
  exclusions = record { name = codes "X.1"; units = 0 ∷ 1 ∷ [] } ∷ [];
  payout = pos 100;
}

mixed_lines : List (List ℕ)
mixed_lines =
    codes "file_type=PNS_problem_v1"
    ∷ []
    ∷ codes "defaults:"
    ∷ codes "payout_period=100"
    ∷ []
    ∷ codes "materials:"
    ∷ codes
    "A: raw_material, price=-1.500001, flow_rate_lower_bound=0, flow_rate_upper_bound=1000000000"
    ∷ codes
    "B: intermediate, price=0.000001, flow_rate_lower_bound=0.5, flow_rate_upper_bound=0.5"
    ∷ codes "P: product, price=0, flow_rate_lower_bound=20, flow_rate_upper_bound=20.5"
    ∷ []
    ∷ codes "operating_units:"
    ∷ codes
    "U1: capacity_lower_bound=0, capacity_upper_bound=100, fix_cost=0.00001, proportional_cost=-0.000001, investment_fix_cost=100, investment_proportional_cost=-10"
    ∷ codes
    "U2: capacity_lower_bound=1, capacity_upper_bound=1, fix_cost=0, proportional_cost=0, investment_proportional_cost=0.000001"
    ∷ []
    ∷ codes "material_to_operating_unit_flow_rates:"
    ∷ codes "U1: 2 A + B => 0.000001 P"
    ∷ codes "U2: B => P + 1000000000 A"
    ∷ []
    ∷ codes "mutual_exclusions:"
    ∷ codes "X.1: U1, U2"
    ∷ []

mixed_printed : canonical mixed ≡ text_of mixed_lines
unfolding mixed mixed_lines digits
mixed_printed = refl

mixed_reads : read_text (text_of mixed_lines) ≡ Ok mixed
unfolding mixed mixed_lines
mixed_reads = refl

-- a problem without units and exclusions
least : Problem
least =
    record {
      materials =
          record {
            name = codes "P";
            kind = product;
            price = pos 0;
            lower = pos 0;
            upper =
                pos 1000000000000000;
          } ∷ [];
      units = [];
      exclusions = [];
      payout = pos 1;
    }

least_lines : List (List ℕ)
least_lines =
    codes "file_type=PNS_problem_v1"
    ∷ []
    ∷ codes "materials:"
    ∷ codes
    "P: product, price=0, flow_rate_lower_bound=0, flow_rate_upper_bound=1000000000"
    ∷ []
    ∷ codes "operating_units:"
    ∷ []
    ∷ codes "material_to_operating_unit_flow_rates:"
    ∷ []

least_printed : canonical least ≡ text_of least_lines
unfolding least least_lines digits
least_printed = refl

least_reads : read_text (text_of least_lines) ≡ Ok least
unfolding least least_lines
least_reads = refl
