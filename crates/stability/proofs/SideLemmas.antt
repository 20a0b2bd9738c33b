-- Values on a side of the present one.
use Rattle.std.proofs.Common.{◌≡◌, ℕ, ◌+◌, ◌<◌, ◌≤◌, ℤ, arith}
use Rattle.std.proofs.lemmas.Int.{ints}
use Rattle.stability_laws.specs.report_rules.declared.spot.Spot.{Spot}
use Rattle.stability_laws.specs.report_rules.declared.side.Side.{Side}
use Rattle.stability_laws.specs.report_rules.declared.side.Side.TheVariants.{Below, Above}
use Rattle.stability_laws.specs.report_rules.Spot.{IsAllowedValue, value_on, limit_on}
use Rattle.stability_laws.specs.report_rules.Range.{beyond}

-- what lies nearer than an allowed value is allowed
pub nearer_allowed : (spot : Spot) (side : Side) (present : ℤ) (a b : ℕ)
    → IsAllowedValue spot present → IsAllowedValue spot (value_on side present b) → a ≤ b
    → IsAllowedValue spot (value_on side present a)
nearer_allowed spot Below present a b now far less =
    let low = far.low in
    let high = now.high in
    record { low = omega (arith, ints); high = omega (arith, ints) }
nearer_allowed spot Above present a b now far less =
    let low = now.low in
    let high = far.high in
    record { low = omega (arith, ints); high = omega (arith, ints) }

pub limit_allowed : (spot : Spot) (side : Side) (present : ℤ) (room : ℕ)
    → IsAllowedValue spot present → value_on side present room ≡ limit_on side spot
    → IsAllowedValue spot (value_on side present room)
limit_allowed spot Below present room now e =
    let low = now.low in
    let high = now.high in
    record { low = omega (arith, ints); high = omega (arith, ints) }
limit_allowed spot Above present room now e =
    let low = now.low in
    let high = now.high in
    record { low = omega (arith, ints); high = omega (arith, ints) }

pub nowhere : (side : Side) (present : ℤ) → value_on side present 0 ≡ present
nowhere Below present = omega (arith, ints)
nowhere Above present = omega (arith, ints)

pub one_beyond : (side : Side) (present : ℤ) (a : ℕ)
    → value_on side present (a + 1) ≡ beyond side (value_on side present a)
one_beyond Below present a = omega (arith, ints)
one_beyond Above present a = omega (arith, ints)

-- what lies away is not the present value
pub not_present : (side : Side) (present : ℤ) (a : ℕ) → 0 < a → value_on side present a ≡ present
    → ⊥
not_present Below present a some e = absurd (omega (arith, ints))
not_present Above present a some e = absurd (omega (arith, ints))

pub one_within : (room : ℕ) → (room ≡ 0 → ⊥) → 1 ≤ room
one_within room some = omega (arith, some)

-- one step away is allowed if there is room
pub step_allowed : (spot : Spot) (side : Side) (present : ℤ) (room : ℕ) → (room ≡ 0 → ⊥)
    → IsAllowedValue spot present → value_on side present room ≡ limit_on side spot
    → IsAllowedValue spot (value_on side present 1)
step_allowed spot side present room some now limit =
    nearer_allowed spot side present 1 room now (limit_allowed spot side present room now limit)
    (one_within room some)
