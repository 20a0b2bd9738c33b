-- The shipped file a.pns: what it stands for, and what is reported if it is changed or ends early.
use Rattle.std.proofs.Common.{◌≡◌, ◌+◌, ◌-◌, ◌++◌, ℕ, List, [], ◌∷◌, take, drop, map}
use Rattle.std.proofs.Common.{codes}
use Rattle.std.proofs.Common.{refl}
use Rattle.std.proofs.Common.{Option, Some, None, Ok, Err, pos, ℤ}
use Rattle.std.specs.Fmt.{digits}
use Rattle.std.specs.List.{range_with_len}
use Rattle.problem_rules.specs.Problem.{Kind, raw_material, intermediate, product}
use Rattle.problem_rules.specs.Problem.{Material}
use Rattle.problem_rules.specs.Problem.{OperatingUnit, Problem}
use Rattle.text_rules.specs.declared.TextKind.TheVariants.{FileType, BadLine, DoubleKey}
use Rattle.text_rules.specs.declared.TextKind.TheVariants.{TooFine}
use Rattle.text_rules.specs.declared.TextKind.TheVariants.{LowAboveHigh, NoRates}
use Rattle.text_rules.specs.declared.TextKind.TheVariants.{NoProduct}
use Rattle.text_rules.specs.declared.TextKind.TheVariants.{DoubleMember, UnknownUnit}
use Rattle.text_rules.specs.declared.TextKind.TheVariants.{BadPayout}
use Rattle.text_rules.specs.Canonical.{canonical_lines}
use Rattle.text_rules.specs.Fault.{Fault}
use Rattle.text_rules.specs.Value.{read_text}
use Rattle.text_rules.proofs.Texts.{text_of, fault_in}

a_pns : List (List ℕ)
a_pns =
    codes "file_type=PNS_problem_v1"
    ∷ codes "file_name=example_a"
    ∷ []
    ∷ codes "measurement_units:"
    ∷ codes "mass_unit=t"
    ∷ codes "time_unit=y"
    ∷ codes "money_unit=EUR"
    ∷ []
    ∷ codes "defaults:"
    ∷ codes "material_type=intermediate"
    ∷ codes "material_flow_rate_lower_bound=0"
    ∷ codes "material_flow_rate_upper_bound=1000000000"
    ∷ codes "material_price=0"
    ∷ codes "operating_unit_capacity_lower_bound=0"
    ∷ codes "operating_unit_capacity_upper_bound=1000000000"
    ∷ codes "operating_unit_fix_cost=0"
    ∷ codes "operating_unit_proportional_cost=0"
    ∷ []
    ∷ codes "materials:"
    ∷ codes "A: raw_material, price=2"
    ∷ codes "B: raw_material, price=3"
    ∷ codes "C: intermediate"
    ∷ codes "E: intermediate"
    ∷ codes "F: intermediate"
    ∷ codes "P: product, flow_rate_lower_bound=20, flow_rate_upper_bound=20"
    ∷ []
    ∷ codes "operating_units:"
    ∷ codes "U1: capacity_upper_bound=100, fix_cost=10, proportional_cost=1"
    ∷ codes "U2: capacity_upper_bound=100, fix_cost=1, proportional_cost=1"
    ∷ codes "U3: capacity_upper_bound=150, fix_cost=5"
    ∷ codes "U4"
    ∷ codes "U5"
    ∷ []
    ∷ codes "material_to_operating_unit_flow_rates:"
    ∷ codes "U1: A => C"
    ∷ codes "U2: B => C"
    ∷ codes "U3: C => P"
    ∷ codes "U4: E => P"
    ∷ codes "U5: B => F"
    ∷ []

most : ℤ
most = pos 1000000000000000

-- a material with these values, and a unit that makes one from another at rate 1
material_of : List ℕ → Kind → ℤ → ℤ → ℤ → Material
material_of name kind price lower upper =
    record { name = name; kind = kind; price = price; lower = lower; upper = upper }

unit_of : List ℕ → ℤ → ℤ → ℤ → ℕ → ℕ → OperatingUnit
unit_of name upper fix proportional from into = record {
  name = name;
  lower = pos 0;
  upper = upper;
  fix = fix;
  proportional = proportional;
  investment_fix = pos 0;
  investment_proportional = pos 0;
  inputs = record { material = from; rate = pos 1000000 } ∷ [];
  outputs = record { material = into; rate = pos 1000000 } ∷ [];
}

a_materials : List Material
a_materials =
    material_of (codes "A") raw_material (pos 2000000) (pos 0) most
    ∷ material_of (codes "B") raw_material (pos 3000000) (pos 0) most
    ∷ material_of (codes "C") intermediate (pos 0) (pos 0) most
    ∷ material_of (codes "E") intermediate (pos 0) (pos 0) most
    ∷ material_of (codes "F") intermediate (pos 0) (pos 0) most
    ∷ material_of (codes "P") product (pos 0) (pos 20000000) (pos 20000000)
    ∷ []

a_units : OperatingUnit → List OperatingUnit
a_units first =
    first
    ∷ unit_of (codes "U2") (pos 100000000) (pos 1000000) (pos 1000000) 1 2
    ∷ unit_of (codes "U3") (pos 150000000) (pos 5000000) (pos 0) 2 5
    ∷ unit_of (codes "U4") most (pos 0) (pos 0) 3 5
    ∷ unit_of (codes "U5") most (pos 0) (pos 0) 1 4
    ∷ []

unit_1 : OperatingUnit
unit_1 = unit_of (codes "U1") (pos 100000000) (pos 10000000) (pos 1000000) 0 2

a_problem : Problem
a_problem =
    record {
      materials = a_materials;
      units = a_units unit_1;
      exclusions = [];
      payout =
          pos 1;
    }

a_pns_reads : read_text (text_of a_pns) ≡ Ok a_problem
unfolding a_pns a_problem a_materials a_units unit_1 material_of unit_of most
a_pns_reads = refl

-- with a byte order mark, carriage returns and blanks, and no last line feed
with_returns : List (List ℕ) → List ℕ
with_returns [] = []
with_returns (line ∷ []) = line ++ 32 ∷ []
with_returns (line ∷ next ∷ lines) =
    (9 ∷ line) ++ 32 ∷ 13 ∷ 10 ∷ with_returns (next ∷ lines)

returns_read : read_text (239 ∷ 187 ∷ 191 ∷ with_returns a_pns) ≡ Ok a_problem
unfolding with_returns a_pns a_problem a_materials a_units unit_1 material_of unit_of most
returns_read = refl

-- with another text in one line, counted from 1; with a further line after one; and the first lines
-- alone
changed : ℕ → List ℕ → List ℕ
changed line text = text_of (take (line - 1) a_pns ++ text ∷ drop line a_pns)

further : ℕ → List ℕ → List ℕ
further line text = text_of (take line a_pns ++ text ∷ drop line a_pns)

exponent_reads : read_text (changed 12 (codes "material_flow_rate_upper_bound=1E+09"))
    ≡ Ok a_problem
unfolding changed a_pns a_problem a_materials a_units unit_1 material_of unit_of most
exponent_reads = refl

low_above_high : read_text
    (changed 25 (codes "P: product, flow_rate_lower_bound=5, flow_rate_upper_bound=4"))
    ≡ Err (25, LowAboveHigh)
unfolding changed a_pns
low_above_high = refl

double_key : read_text
    (changed 28
    (codes "U1: capacity_upper_bound=100, fix_cost=10, fix_cost=10, proportional_cost=1"))
    ≡ Err (28, DoubleKey)
unfolding changed a_pns
double_key = refl

too_fine : read_text (changed 20 (codes "A: raw_material, price=2.0000001"))
    ≡ Err (20, TooFine)
unfolding changed a_pns
too_fine = refl

cut_in_line : read_text (text_of (take 36 a_pns) ++ codes "U3: C =") ≡ Err (37, BadLine)
unfolding a_pns
cut_in_line = refl

-- the first k lines alone, for k from 0 to 39
cut_faults : List (Option Fault)
cut_faults = Some (1, FileType) ∷ map (λ k. Some (k + 1, NoProduct)) (range_with_len 1 24)
    ++ None ∷ None ∷ None ∷ map (λ k. Some (28, NoRates)) (range_with_len 28 7)
    ++ map (λ k. Some (k - 6, NoRates)) (range_with_len 35 4) ++ None ∷ []

cut : map (λ k. fault_in (read_text (text_of (take k a_pns)))) (range_with_len 0 40)
    ≡ cut_faults
unfolding a_pns cut_faults
cut = refl

-- with an exclusion at line 42
excluding : List ℕ → List ℕ
excluding line = text_of (a_pns ++ [] ∷ codes "mutual_exclusions:" ∷ line ∷ [])

with_exclusion : Problem
with_exclusion =
    record {
      materials = a_materials;
      units = a_units unit_1;
      exclusions =
          record { name = codes "X1"; units = 0 ∷ 1 ∷ [] } ∷ [];
      payout = pos 1;
    }

exclusion_reads : read_text (excluding (codes "X1: U2, U1")) ≡ Ok with_exclusion
unfolding excluding a_pns with_exclusion a_materials a_units unit_1 material_of unit_of
    most
exclusion_reads = refl

double_member : read_text (excluding (codes "X1: U1, U1")) ≡ Err (42, DoubleMember)
unfolding excluding a_pns
double_member = refl

unknown_unit : read_text (excluding (codes "X1: U1, U9")) ≡ Err (42, UnknownUnit)
unfolding excluding a_pns
unknown_unit = refl

-- with a payout period among the defaults, at line 18, and an investment cost of U1
with_payout : List (List ℕ)
with_payout = take 17 a_pns ++ codes "payout_period=10" ∷ take 10 (drop 17 a_pns)
    ++ codes
    "U1: capacity_upper_bound=100, fix_cost=0, proportional_cost=1, investment_fix_cost=100"
    ∷ drop 28 a_pns

invested : OperatingUnit
invested = record {
  name = codes "U1";
  lower = pos 0;
  upper = pos 100000000;
  fix = pos 0;
  proportional = pos 1000000;
  investment_fix = pos 100000000;
  investment_proportional = pos 0;
  inputs = record { material = 0; rate = pos 1000000 } ∷ [];
  outputs = record { material = 2; rate = pos 1000000 } ∷ [];
}

paid : Problem
paid =
    record {
      materials = a_materials;
      units = a_units invested;
      exclusions = [];
      payout =
          pos 10;
    }

payout_reads : read_text (text_of with_payout) ≡ Ok paid
unfolding with_payout a_pns paid invested a_materials a_units material_of unit_of most
payout_reads = refl

bad_payout : read_text (further 17 (codes "payout_period=0.5")) ≡ Err (18, BadPayout)
unfolding further a_pns
bad_payout = refl

-- the canonical texts of these problems
canonical_front : List (List ℕ)
canonical_front =
    codes "materials:"
    ∷ codes
    "A: raw_material, price=2, flow_rate_lower_bound=0, flow_rate_upper_bound=1000000000"
    ∷ codes
    "B: raw_material, price=3, flow_rate_lower_bound=0, flow_rate_upper_bound=1000000000"
    ∷ codes
    "C: intermediate, price=0, flow_rate_lower_bound=0, flow_rate_upper_bound=1000000000"
    ∷ codes
    "E: intermediate, price=0, flow_rate_lower_bound=0, flow_rate_upper_bound=1000000000"
    ∷ codes
    "F: intermediate, price=0, flow_rate_lower_bound=0, flow_rate_upper_bound=1000000000"
    ∷ codes "P: product, price=0, flow_rate_lower_bound=20, flow_rate_upper_bound=20"
    ∷ []
    ∷ codes "operating_units:"
    ∷ []

canonical_back : List (List ℕ)
canonical_back =
    codes
    "U2: capacity_lower_bound=0, capacity_upper_bound=100, fix_cost=1, proportional_cost=1"
    ∷ codes
    "U3: capacity_lower_bound=0, capacity_upper_bound=150, fix_cost=5, proportional_cost=0"
    ∷ codes
    "U4: capacity_lower_bound=0, capacity_upper_bound=1000000000, fix_cost=0, proportional_cost=0"
    ∷ codes
    "U5: capacity_lower_bound=0, capacity_upper_bound=1000000000, fix_cost=0, proportional_cost=0"
    ∷ []
    ∷ codes "material_to_operating_unit_flow_rates:"
    ∷ codes "U1: A => C"
    ∷ codes "U2: B => C"
    ∷ codes "U3: C => P"
    ∷ codes "U4: E => P"
    ∷ codes "U5: B => F"
    ∷ []

a_canonical : canonical_lines a_problem
    ≡ codes "file_type=PNS_problem_v1" ∷ [] ∷ canonical_front
    ++ codes
    "U1: capacity_lower_bound=0, capacity_upper_bound=100, fix_cost=10, proportional_cost=1"
    ∷ canonical_back
unfolding a_problem a_materials a_units unit_1 material_of unit_of most canonical_front
    canonical_back digits
a_canonical = refl

exclusion_canonical : canonical_lines with_exclusion
    ≡ codes "file_type=PNS_problem_v1" ∷ [] ∷ canonical_front
    ++ codes
    "U1: capacity_lower_bound=0, capacity_upper_bound=100, fix_cost=10, proportional_cost=1"
    ∷ canonical_back ++ [] ∷ codes "mutual_exclusions:" ∷ codes "X1: U1, U2" ∷ []
unfolding with_exclusion a_materials a_units unit_1 material_of unit_of most
    canonical_front
    canonical_back digits
exclusion_canonical = refl

payout_canonical : canonical_lines paid
    ≡ codes "file_type=PNS_problem_v1" ∷ [] ∷ codes "defaults:" ∷ codes "payout_period=10"
    ∷ []
    ∷ canonical_front
    ++ codes
    "U1: capacity_lower_bound=0, capacity_upper_bound=100, fix_cost=0, proportional_cost=1, investment_fix_cost=100" ∷ canonical_back
unfolding paid invested a_materials a_units material_of unit_of most canonical_front
    canonical_back
    digits
payout_canonical = refl
