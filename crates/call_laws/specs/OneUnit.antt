-- A worked plant without demands: one unit, which makes a product of a raw material at a fixed
-- cost.
use Rattle.std.specs.Prelude.{◌≡◌, ℕ, pos, List, [], ◌∷◌, Some, codes}
use Rattle.studio.specs.problem_rules.Problem.{Problem, raw_material, product}
use Rattle.studio.specs.text_rules.Outside.{Told}
use Rattle.studio.specs.studio_rules.Lines.{text_of}
use Rattle.call_laws.specs.Calls.{IsSure}

abbrev pub one_unit_text : List ℕ
one_unit_text =
    text_of
    (codes "file_type=PNS_problem_v1"
    ∷ codes "materials:"
    ∷ codes "A: raw_material, price=2"
    ∷ codes "P: product, flow_rate_lower_bound=0"
    ∷ codes "operating_units:"
    ∷ codes "U: fix_cost=5"
    ∷ codes "material_to_operating_unit_flow_rates:"
    ∷ codes "U: A => P"
    ∷ [])

-- what the text stands for: amounts are in millionths, and what it leaves out has its default
abbrev pub one_unit : Problem
one_unit = record {
  materials = record {
    name = codes "A";
    kind = raw_material;
    price = pos 2000000;
    lower = pos 0;
    upper = pos 1000000000000000;
  } ∷ record {
    name = codes "P";
    kind = product;
    price = pos 0;
    lower = pos 0;
    upper = pos 1000000000000000;
  } ∷ [];
  units = record {
    name = codes "U";
    lower = pos 0;
    upper = pos 1000000000000000;
    fix = pos 5000000;
    proportional = pos 0;
    investment_fix = pos 0;
    investment_proportional = pos 0;
    inputs = record { material = 0; rate = pos 1000000 } ∷ [];
    outputs = record { material = 1; rate = pos 1000000 } ∷ [];
  } ∷ [];
  exclusions = [];
  payout = pos 1;
}

-- a search of the text, as the file `a.pns`, is sure to finish within a budget of 4
abbrev pub OneUnitIsSure : Type 0
OneUnitIsSure =
    (held : List ℕ → Told) → held (codes "a.pns") ≡ Some (Some one_unit_text)
    → IsSure held (codes "a.pns") 4
