-- The worked plant: its text reads as it, it is valid, and it has no demands.
use Rattle.std.proofs.Common.{◌≡◌, ◌<◌, ℕ, zero, suc, Ok, arith, refl}
use Rattle.std.specs.Prelude.{pos, ◌≤ℤ◌}
use Rattle.std.proofs.lemmas.Int.{ints}
use Rattle.studio.specs.problem_rules.Problem.{material_at, unit_at}
use Rattle.studio.specs.problem_rules.Validity.{IsValid}
use Rattle.studio.specs.text_rules.Value.{read_text}
use Rattle.studio.specs.flow_rules.Net.{net_of, size_cost}
use Rattle.studio.specs.studio_rules.Reading.{GivesProblem}
use Rattle.call_laws.specs.NoDemands.{HasNoDemands}
use Rattle.call_laws.specs.OneUnit.{one_unit_text, one_unit, OneUnitIsSure}

text_reads : read_text one_unit_text ≡ Ok one_unit
text_reads = refl

is_valid : IsValid one_unit
is_valid = refl

gives : GivesProblem one_unit_text one_unit
gives = record { within = omega arith; reads = text_reads; valid = is_valid }

no_demands : HasNoDemands one_unit
no_demands = record { no_flow = no_flow; no_size = no_size; no_gain = no_gain }
  where
    no_flow : (j : ℕ) → j < 2 → (material_at one_unit j).lower ≡ pos 0
    no_flow zero h = refl
    no_flow (suc zero) h = refl
    no_flow (suc (suc j)) h = absurd (omega arith)

    no_size : (i : ℕ) → i < 1 → (unit_at one_unit i).lower ≡ pos 0
    no_size zero h = refl
    no_size (suc i) h = absurd (omega arith)

    cost_is : size_cost (net_of one_unit) 0 ≡ pos 2000000000000
    cost_is = refl

    no_gain : (i : ℕ) → i < 1 → pos 0 ≤ℤ size_cost (net_of one_unit) i
    no_gain zero h = let e = cost_is in omega (arith, ints)
    no_gain (suc i) h = absurd (omega arith)

pub one_unit_is_sure : OneUnitIsSure
one_unit_is_sure held told =
    record {
      bytes = one_unit_text;
      plant = one_unit;
      told = told;
      gives = gives;
      no_demands =
          no_demands;
      enough = omega arith;
    }
