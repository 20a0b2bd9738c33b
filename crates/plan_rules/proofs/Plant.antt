-- A small plant to plan for: one unit that makes P of A.
use Rattle.std.proofs.Common.{[], ◌∷◌, codes, pos}
use Rattle.edit_rules.specs.problem_rules.Problem.{Problem, raw_material, product}
use Rattle.plan_rules.specs.Plan.{Period, Plan}

abbrev pub plant : Problem
plant = record {
  materials =
      record {
        name = codes "A";
        kind = raw_material;
        price = pos 2000000;
        lower = pos 0;
        upper =
            pos 1000000000000000;
      }
      ∷ record {
        name = codes "P";
        kind = product;
        price = pos 0;
        lower = pos 0;
        upper =
            pos 1000000000000000;
      } ∷ [];
  units = record {
    name = codes "U1";
    lower = pos 0;
    upper = pos 100000000;
    fix = pos 10000000;
    proportional = pos 1000000;
    investment_fix = pos 0;
    investment_proportional = pos 0;
    inputs = record { material = 0; rate = pos 1000000 } ∷ [];
    outputs = record { material = 1; rate = pos 1000000 } ∷ [];
  } ∷ [];
  exclusions = [];
  payout = pos 1;
}

-- 20 of P are made in the first period, 30 in the second
abbrev pub first : Period
first =
    record {
      prices = pos 2000000 ∷ pos 0 ∷ [];
      lowers = pos 0 ∷ pos 20000000 ∷ [];
      uppers =
          pos 1000000000000000 ∷ pos 20000000 ∷ [];
    }

abbrev pub second : Period
second =
    record {
      prices = pos 2000000 ∷ pos 0 ∷ [];
      lowers = pos 0 ∷ pos 30000000 ∷ [];
      uppers =
          pos 1000000000000000 ∷ pos 30000000 ∷ [];
    }

abbrev pub plan : Plan
plan = record { periods = first ∷ second ∷ [] }
