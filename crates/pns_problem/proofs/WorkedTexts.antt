-- The canonical texts of two problems, as the definition gives them, byte for byte.
use Rattle.std.proofs.Common.{◌≡◌, [], ◌∷◌, ◌++◌, refl, codes, pos}
use Rattle.std.specs.Fmt.{digits}
use Rattle.text_rules.specs.problem_rules.Problem.{Problem, raw_material, intermediate, product}
use Rattle.text_rules.specs.Canonical.{canonical}

five_units : Problem
five_units = record {
  materials =
      (record {
        name = codes "A";
        kind = raw_material;
        price = pos 2000000;
        lower = pos 0;
        upper =
            pos 1000000000000000;
      })
      ∷ (record {
        name = codes "B";
        kind = raw_material;
        price = pos 3000000;
        lower = pos 0;
        upper =
            pos 1000000000000000;
      })
      ∷ (record {
        name = codes "C";
        kind = intermediate;
        price = pos 0;
        lower = pos 0;
        upper =
            pos 1000000000000000;
      })
      ∷ (record {
        name = codes "E";
        kind = intermediate;
        price = pos 0;
        lower = pos 0;
        upper =
            pos 1000000000000000;
      })
      ∷ (record {
        name = codes "F";
        kind = intermediate;
        price = pos 0;
        lower = pos 0;
        upper =
            pos 1000000000000000;
      })
      ∷ (record {
        name = codes "P";
        kind = product;
        price = pos 0;
        lower = pos 20000000;
        upper =
            pos 20000000;
      })
      ∷ [];
  units =
      (record {
        name = codes "U1";
        lower = pos 0;
        upper = pos 100000000;
        fix =
            pos 10000000;
        proportional = pos 1000000;
        investment_fix =
            pos 0;
        investment_proportional = pos 0;
        inputs =
            record { material = 0; rate = pos 1000000 } ∷ [];
        outputs =
            record { material = 2; rate = pos 1000000 } ∷ [];
      })
      ∷ (record {
        name = codes "U2";
        lower = pos 0;
        upper = pos 100000000;
        fix =
            pos 1000000;
        proportional = pos 1000000;
        investment_fix = pos 0;
        investment_proportional =
            pos 0;
        inputs = record { material = 1; rate = pos 1000000 } ∷ [];
        outputs =
            record { material = 2; rate = pos 1000000 } ∷ [];
      })
      ∷ (record {
        name = codes "U3";
        lower = pos 0;
        upper = pos 150000000;
        fix =
            pos 5000000;
        proportional = pos 0;
        investment_fix = pos 0;
        investment_proportional =
            pos 0;
        inputs = record { material = 2; rate = pos 1000000 } ∷ [];
        outputs =
            record { material = 5; rate = pos 1000000 } ∷ [];
      })
      ∷ (record {
        name = codes "U4";
        lower = pos 0;
        upper = pos 1000000000000000;
        fix =
            pos 0;
        proportional = pos 0;
        investment_fix = pos 0;
        investment_proportional =
            pos 0;
        inputs = record { material = 3; rate = pos 1000000 } ∷ [];
        outputs =
            record { material = 5; rate = pos 1000000 } ∷ [];
      })
      ∷ (record {
        name = codes "U5";
        lower = pos 0;
        upper = pos 1000000000000000;
        fix =
            pos 0;
        proportional = pos 0;
        investment_fix = pos 0;
        investment_proportional =
            pos 0;
        inputs = record { material = 1; rate = pos 1000000 } ∷ [];
        outputs =
            record { material = 4; rate = pos 1000000 } ∷ [];
      })
      ∷ [];
  exclusions = [];
  payout = pos 1;
}

text_of_five_units : canonical five_units ≡ codes "file_type=PNS_problem_v1\n"
    ++ (codes "\n"
    ++ (codes "materials:\n"
    ++ (codes
    "A: raw_material, price=2, flow_rate_lower_bound=0, flow_rate_upper_bound=1000000000\n"
    ++ (codes
    "B: raw_material, price=3, flow_rate_lower_bound=0, flow_rate_upper_bound=1000000000\n"
    ++ (codes
    "C: intermediate, price=0, flow_rate_lower_bound=0, flow_rate_upper_bound=1000000000\n"
    ++ (codes
    "E: intermediate, price=0, flow_rate_lower_bound=0, flow_rate_upper_bound=1000000000\n"
    ++ (codes
    "F: intermediate, price=0, flow_rate_lower_bound=0, flow_rate_upper_bound=1000000000\n"
    ++ (codes "P: product, price=0, flow_rate_lower_bound=20, flow_rate_upper_bound=20\n"
    ++ (codes "\n"
    ++ (codes "operating_units:\n"
    ++ (codes
    "U1: capacity_lower_bound=0, capacity_upper_bound=100, fix_cost=10, proportional_cost=1\n"
    ++ (codes
    "U2: capacity_lower_bound=0, capacity_upper_bound=100, fix_cost=1, proportional_cost=1\n"
    ++ (codes
    "U3: capacity_lower_bound=0, capacity_upper_bound=150, fix_cost=5, proportional_cost=0\n"
    ++ (codes
    "U4: capacity_lower_bound=0, capacity_upper_bound=1000000000, fix_cost=0, proportional_cost=0\n"
    ++ (codes
    "U5: capacity_lower_bound=0, capacity_upper_bound=1000000000, fix_cost=0, proportional_cost=0\n"
    ++ (codes "\n"
    ++ (codes "material_to_operating_unit_flow_rates:\n"
    ++ (codes "U1: A => C\n"
    ++ (codes "U2: B => C\n"
    ++ (codes "U3: C => P\n"
    ++ (codes "U4: E => P\n"
    ++ (codes "U5: B => F\n"))))))))))))))))))))))
unfolding five_units digits
text_of_five_units = refl

three_generated_units : Problem
three_generated_units = record {
  materials =
      (record {
        name = codes "R0";
        kind = raw_material;
        price = pos 3000000;
        lower = pos 0;
        upper =
            pos 1000000000000000;
      })
      ∷ (record {
        name = codes "R1";
        kind = raw_material;
        price = pos 9000000;
        lower =
            pos 0;
        upper = pos 1000000000000000;
      })
      ∷ (record {
        name = codes "R2";
        kind = raw_material;
        price = pos 6000000;
        lower =
            pos 0;
        upper = pos 1000000000000000;
      })
      ∷ (record {
        name = codes "M0";
        kind = intermediate;
        price = pos 0;
        lower = pos 0;
        upper =
            pos 1000000000000000;
      })
      ∷ (record {
        name = codes "P";
        kind = product;
        price = pos 0;
        lower = pos 10000000;
        upper =
            pos 10000000;
      })
      ∷ [];
  units =
      (record {
        name = codes "U0";
        lower = pos 0;
        upper = pos 144000000;
        fix =
            pos 10000000;
        proportional = pos 2000000;
        investment_fix =
            pos 0;
        investment_proportional = pos 0;
        inputs =
            record { material = 1; rate = pos 1000000 } ∷ [];
        outputs =
            record { material = 3; rate = pos 2000000 } ∷ [];
      })
      ∷ (record {
        name = codes "U1";
        lower = pos 0;
        upper = pos 134000000;
        fix =
            pos 40000000;
        proportional = pos 2000000;
        investment_fix =
            pos 0;
        investment_proportional = pos 0;
        inputs =
            record { material = 3; rate = pos 1000000 } ∷ [];
        outputs =
            record { material = 4; rate = pos 1000000 } ∷ [];
      })
      ∷ (record {
        name = codes "U2";
        lower = pos 0;
        upper = pos 109000000;
        fix =
            pos 41000000;
        proportional = pos 4000000;
        investment_fix =
            pos 0;
        investment_proportional = pos 0;
        inputs =
            record { material = 1; rate = pos 1000000 } ∷ [];
        outputs =
            record { material = 3; rate = pos 2000000 } ∷ [];
      })
      ∷ [];
  exclusions = [];
  payout = pos 1;
}

text_of_three_generated_units : canonical three_generated_units ≡ codes "file_type=PNS_problem_v1\n"
    ++ (codes "\n"
    ++ (codes "materials:\n"
    ++ (codes
    "R0: raw_material, price=3, flow_rate_lower_bound=0, flow_rate_upper_bound=1000000000\n"
    ++ (codes
    "R1: raw_material, price=9, flow_rate_lower_bound=0, flow_rate_upper_bound=1000000000\n"
    ++ (codes
    "R2: raw_material, price=6, flow_rate_lower_bound=0, flow_rate_upper_bound=1000000000\n"
    ++ (codes
    "M0: intermediate, price=0, flow_rate_lower_bound=0, flow_rate_upper_bound=1000000000\n"
    ++ (codes "P: product, price=0, flow_rate_lower_bound=10, flow_rate_upper_bound=10\n"
    ++ (codes "\n"
    ++ (codes "operating_units:\n"
    ++ (codes
    "U0: capacity_lower_bound=0, capacity_upper_bound=144, fix_cost=10, proportional_cost=2\n"
    ++ (codes
    "U1: capacity_lower_bound=0, capacity_upper_bound=134, fix_cost=40, proportional_cost=2\n"
    ++ (codes
    "U2: capacity_lower_bound=0, capacity_upper_bound=109, fix_cost=41, proportional_cost=4\n"
    ++ (codes "\n"
    ++ (codes "material_to_operating_unit_flow_rates:\n"
    ++ (codes "U0: R1 => 2 M0\n"
    ++ (codes "U1: M0 => P\n"
    ++ (codes "U2: R1 => 2 M0\n")))))))))))))))))
unfolding three_generated_units digits
text_of_three_generated_units = refl
