-- The problem that a number and a count of units stand for. It has three raw materials, a chain of
-- intermediates up to one product, and operating units that take the stages of the chain in turn. A
-- unit of a stage makes the target of that stage, from a raw material or from the target of the
-- stage before.
use Rattle.std.specs.Prelude.{ℕ, ◌+◌, ◌-◌, ◌*◌, ◌/◌, ◌%◌, ◌==◌, nat_lt, ◌≤◌, List, [], ◌∷◌, ◌++◌}
use Rattle.std.specs.Prelude.{map, codes, decimal, ℤ, pos, if◌then◌else◌}
use Rattle.std.specs.List.{range_with_len}
use Rattle.problem_rules.specs.Problem.{raw_material, intermediate, product, Material, Term}
use Rattle.problem_rules.specs.Problem.{OperatingUnit, Problem}
use Rattle.problem_rules.specs.Validity.{IsValid}
use Rattle.problem_rules.specs.Draws.{first_state, state_after, drawn}

-- an amount in millionths
abbrev pub whole : ℕ → ℤ
whole amount = pos (amount * 1000000)

-- a letter and a number
abbrev pub numbered : List ℕ → ℕ → List ℕ
numbered letter number = letter ++ decimal number

-- ---- materials

-- raw material R0, R1 or R2
abbrev pub raw_priced : ℕ → ℕ → Material
raw_priced number price =
    record {
      name = numbered (codes "R") number;
      kind = raw_material;
      price = whole price;
      lower =
          pos 0;
      upper = whole 1000000000;
    }

-- the prices are the first three draws
abbrev pub raw_of : ℕ → ℕ → Material
raw_of state number = raw_priced number (1 + drawn number state 9)

abbrev pub intermediate_of : ℕ → Material
intermediate_of number =
    record {
      name = numbered (codes "M") number;
      kind = intermediate;
      price = pos 0;
      lower =
          pos 0;
      upper = whole 1000000000;
    }

abbrev pub end_product : Material
end_product =
    record { name = codes "P"; kind = product; price = pos 0; lower = whole 10; upper = whole 10 }

abbrev pub raw_materials : ℕ → List Material
raw_materials state = map (raw_of state) (range_with_len 0 3)

abbrev pub intermediates : ℕ → List Material
intermediates count = map intermediate_of (range_with_len 0 count)

abbrev pub materials_of : ℕ → ℕ → List Material
materials_of count state = raw_materials state ++ (intermediates count ++ end_product ∷ [])

-- the material number of a target: after the three raw materials follow the intermediates, and then
-- the product
abbrev pub target : ℕ → ℕ
target number = 3 + number

-- ---- operating units

-- the stage of a unit, if there are so many intermediates between the raw materials and the product
abbrev pub stage : ℕ → ℕ → ℕ
stage count number = number % (count + 1)

-- what a unit uses: at stage 0 any raw material; at a later stage, in three cases of four, the
-- target of the stage before, else R2
abbrev pub input : ℕ → ℕ → ℕ
input at state =
    if at == 0 then drawn 0 state 3
    else (if nat_lt (drawn 0 state 4) 3 then target (at - 1) else 2)

abbrev pub term : ℕ → ℕ → Term
term material rate = record { material = material; rate = whole rate }

-- a unit, from the state before its five draws
abbrev pub unit : ℕ → ℕ → ℕ → OperatingUnit
unit count state number = record {
  name = numbered (codes "U") number;
  lower = pos 0;
  upper = whole (100 + drawn 4 state 100);
  fix = whole (1 + drawn 2 state 50);
  proportional = whole (1 + drawn 3 state 5);
  investment_fix = pos 0;
  investment_proportional = pos 0;
  inputs = term (input (stage count number) state) 1 ∷ [];
  outputs = term (target (stage count number)) (1 + drawn 1 state 2) ∷ [];
}

-- a unit, from the state before the first unit: each unit before it has five draws
abbrev pub unit_in_turn : ℕ → ℕ → ℕ → OperatingUnit
unit_in_turn count state number = unit count (state_after (5 * number) state) number

abbrev pub units_of : ℕ → ℕ → ℕ → List OperatingUnit
units_of count state units = map (unit_in_turn count state) (range_with_len 0 units)

-- ---- the problem

-- how many intermediates there are
abbrev pub chain_length : ℕ → ℕ
chain_length units = units / 3

abbrev pub generated : ℕ → ℕ → Problem
generated number units = record {
  materials = materials_of (chain_length units) (first_state number);
  units = units_of (chain_length units) (state_after 3 (first_state number)) units;
  exclusions = [];
  payout = pos 1;
}

-- for each number and each count of 1 to 128 units the problem is valid
abbrev pub GeneratedIsValid : Type 0
GeneratedIsValid = (number units : ℕ) → 1 ≤ units → units ≤ 128 → IsValid (generated number units)
