-- A problem in which three units make one material: U1 and U3 make C of A, U2 makes C of B, and U4
-- makes the product P of C.
use Rattle.std.proofs.Common.{ℕ, pos, List, [], ◌∷◌, refl}
use Rattle.flow_rules.specs.problem_rules.Problem.{Problem, Term, raw_material, intermediate}
use Rattle.flow_rules.specs.problem_rules.Problem.{product}
use Rattle.flow_rules.specs.problem_rules.Validity.{IsValid}

-- at one unit of mass for each unit of size
abbrev term_of : ℕ → List Term
term_of x = record { material = x; rate = pos 1000000 } ∷ []

abbrev pub example : Problem
example = record {
  materials =
      record {
        name = 65 ∷ [];
        kind = raw_material;
        price = pos 2000000;
        lower = pos 0;
        upper =
            pos 1000000000000000;
      }
      ∷ record {
        name = 66 ∷ [];
        kind = raw_material;
        price = pos 3000000;
        lower = pos 0;
        upper =
            pos 1000000000000000;
      }
      ∷ record {
        name = 67 ∷ [];
        kind = intermediate;
        price = pos 0;
        lower = pos 0;
        upper =
            pos 1000000000000000;
      }
      ∷ record {
        name = 80 ∷ [];
        kind = product;
        price = pos 0;
        lower = pos 20000000;
        upper =
            pos 20000000;
      }
      ∷ [];
  units = record {
    name = 85 ∷ 49 ∷ [];
    lower = pos 0;
    upper = pos 100000000;
    fix = pos 10000000;
    proportional = pos 1000000;
    investment_fix = pos 0;
    investment_proportional = pos 0;
    inputs = term_of 0;
    outputs = term_of 2;
  }
      ∷ record {
        name = 85 ∷ 50 ∷ [];
        lower = pos 0;
        upper = pos 100000000;
        fix = pos 1000000;
        proportional = pos 1000000;
        investment_fix = pos 0;
        investment_proportional = pos 0;
        inputs = term_of 1;
        outputs = term_of 2;
      }
      ∷ record {
        name = 85 ∷ 51 ∷ [];
        lower = pos 0;
        upper = pos 100000000;
        fix = pos 20000000;
        proportional = pos 0;
        investment_fix = pos 0;
        investment_proportional = pos 0;
        inputs = term_of 0;
        outputs = term_of 2;
      }
      ∷ record {
        name = 85 ∷ 52 ∷ [];
        lower = pos 0;
        upper = pos 150000000;
        fix = pos 5000000;
        proportional = pos 0;
        investment_fix = pos 0;
        investment_proportional = pos 0;
        inputs = term_of 2;
        outputs = term_of 3;
      }
      ∷ [];
  exclusions = [];
  payout = pos 1;
}

pub example_is_valid : IsValid example
example_is_valid = refl
