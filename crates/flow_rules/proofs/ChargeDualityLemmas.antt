-- The laws of charges for each valid problem.
use Rattle.std.proofs.Common.{arith, pos, ℤ, ◌*ℤ◌, ◌≤ℤ◌, ◌<ℤ◌}
use Rattle.std.proofs.lemmas.Int.{ints}
use Rattle.integer_laws.proofs.Cited.{mul-le_right}
use Rattle.flow_rules.specs.Net.{net_of}
use Rattle.flow_rules.specs.Flows.{cost}
use Rattle.flow_rules.proofs.NetLemmas.{net_of_valid}
use Rattle.flow_rules.specs.Charge.{charge}
use Rattle.flow_rules.specs.ChargeLaws.{ChargeDuality, ChargeRefutes, OwnFactsHold, FlowsFit}
use Rattle.flow_rules.proofs.ChargeLemmas.{charge_least}

pub charge_duality : ChargeDuality
charge_duality p valid n s between f facts z d flows fit covers are scale nonneg y =
    charge_least (net_of p) (net_of_valid p valid) n s between f facts z d flows fit covers are
    scale y

too_large : (d b c : ℤ) → pos 1 ≤ℤ d → pos 0 <ℤ b → (d *ℤ b) ≤ℤ (pos 0 *ℤ c) → ⊥
too_large d b c p q h =
    let a : (pos 1 *ℤ b) ≤ℤ (d *ℤ b) = mul-le_right (pos 1) d b p (omega (arith, ints)) in
    omega (arith, ints)

pub charge_refutes : ChargeRefutes
charge_refutes p valid n s between f facts covers are y above z d flows fit =
    too_large d (charge (net_of p) n f (pos 0) y covers)
    (cost (net_of p) s z d) flows.positive above
    (charge_least (net_of p) (net_of_valid p valid) n s between f facts z d flows fit covers are
    (pos 0) y)

pub own_facts_hold : OwnFactsHold
own_facts_hold p valid = record {
  not_negative = λ i l. (net_of_valid p valid).least_not_negative i l;
  ordered = λ i l. (net_of_valid p valid).least_within i l;
  some_used = λ j l. tt;
  some_worth = tt;
}

pub flows_fit : FlowsFit
flows_fit p s z d flows = record {
  at_least = λ i l h. flows.at_least i l h;
  at_most = λ i l h. flows.at_most i l h;
  used = λ j l. tt;
  demand = tt;
}
