-- The problem of number 0 with three units: its states, its values and its canonical text.
use Rattle.std.proofs.Common.{◌≡◌, ℕ, List, [], ◌∷◌, ◌++◌, map, flat_map, codes, refl}
use Rattle.std.specs.Fmt.{digits}
use Rattle.std.specs.List.{range_with_len}
use Rattle.text_rules.specs.Canonical.{canonical}
use Rattle.text_rules.specs.problem_rules.Draws.{first_state, next_state, state_after}
use Rattle.text_rules.specs.problem_rules.Generated.{generated}

states : map (λ draws. state_after draws (first_state 0)) (range_with_len 1 18)
    ≡ 74 ∷ 5624 ∷ 28652 ∷ 51790 ∷ 17641 ∷ 12409 ∷ 13231 ∷ 9344 ∷ 45504 ∷ 4950 ∷ 43639 ∷ 61686
    ∷ 38934 ∷ 36496 ∷ 50257 ∷ 33740 ∷ 40168 ∷ 63509 ∷ []
unfolding next_state
states = refl

-- only the last 16 bits of a number count
last_bits : generated 65536 3 ≡ generated 0 3
last_bits = refl

three_units : List (List ℕ)
three_units =
    codes "file_type=PNS_problem_v1"
    ∷ []
    ∷ codes "materials:"
    ∷ codes "R0: raw_material, price=3, flow_rate_lower_bound=0, flow_rate_upper_bound=1000000000"
    ∷ codes "R1: raw_material, price=9, flow_rate_lower_bound=0, flow_rate_upper_bound=1000000000"
    ∷ codes "R2: raw_material, price=6, flow_rate_lower_bound=0, flow_rate_upper_bound=1000000000"
    ∷ codes "M0: intermediate, price=0, flow_rate_lower_bound=0, flow_rate_upper_bound=1000000000"
    ∷ codes "P: product, price=0, flow_rate_lower_bound=10, flow_rate_upper_bound=10"
    ∷ []
    ∷ codes "operating_units:"
    ∷ codes "U0: capacity_lower_bound=0, capacity_upper_bound=144, fix_cost=10, proportional_cost=2"
    ∷ codes "U1: capacity_lower_bound=0, capacity_upper_bound=134, fix_cost=40, proportional_cost=2"
    ∷ codes "U2: capacity_lower_bound=0, capacity_upper_bound=109, fix_cost=41, proportional_cost=4"
    ∷ []
    ∷ codes "material_to_operating_unit_flow_rates:"
    ∷ codes "U0: R1 => 2 M0"
    ∷ codes "U1: M0 => P"
    ∷ codes "U2: R1 => 2 M0"
    ∷ []

printed : canonical (generated 0 3) ≡ flat_map (λ line. line ++ 10 ∷ []) three_units
unfolding three_units next_state digits
printed = refl
