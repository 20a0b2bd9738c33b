use Rattle.std.proofs.Common.{rules, SFits, arith, pos, ◌<ℤ◌, ◌≤ℤ◌}
use Rattle.std.specs.Int.{w128}
use Rattle.std.proofs.lemmas.Int.{to_z-of_z, ints}
use Rattle.scaled_flows.proofs.SettledLemmas.{settled_low, settled_high, settled_within}
use Rattle.scaled_flows.proofs.settled.is_settled.Goals as goal

pub returns-then-price-gt0 : goal.returns-then-price-gt0
returns-then-price-gt0 c =
    let number = c.ranges.number in
    let d = c.ranges.d in
    let price = c.ranges.price in
    let low : SFits w128 c.args.range.low = search rules in
    let t = simp to_z-of_z at c.if-price-gt0.true in
    let sign : pos 0 <ℤ c.args.price = omega (arith, ints) in
    let w =
    settled_low c.args.range.low c.args.range.high c.args.d c.args.number c.args.price
    c.requires.positive c.requires.ordered sign in
    let g = simp to_z-of_z at c.is_at.ensures in
    (λ h. w.0 (g.0 h), λ h. g.1 (w.1 h))

pub returns-then-price-lt0 : goal.returns-then-price-lt0
returns-then-price-lt0 c =
    let number = c.ranges.number in
    let d = c.ranges.d in
    let price = c.ranges.price in
    let high : SFits w128 c.args.range.high = search rules in
    let t = simp to_z-of_z at c.if-price-lt0.true in
    let sign : c.args.price <ℤ pos 0 = omega (arith, ints) in
    let w =
    settled_high c.args.range.low c.args.range.high c.args.d c.args.number c.args.price
    c.requires.positive c.requires.ordered sign in
    let g = simp to_z-of_z at c.is_at-then-price-lt0.ensures in
    (λ h. w.0 (g.0 h), λ h. g.1 (w.1 h))

pub returns-else-price-lt0 : goal.returns-else-price-lt0
returns-else-price-lt0 c =
    let number = c.ranges.number in
    let d = c.ranges.d in
    let price = c.ranges.price in
    let low : SFits w128 c.args.range.low = search rules in
    let high : SFits w128 c.args.range.high = search rules in
    let t = simp to_z-of_z at c.if-price-gt0.false in
    let f = simp to_z-of_z at c.if-price-lt0.false in
    let top : c.args.price ≤ℤ pos 0 = omega (arith, ints) in
    let bottom : pos 0 ≤ℤ c.args.price = omega (arith, ints) in
    let w =
    settled_within c.args.range.low c.args.range.high c.args.d c.args.number c.args.price
    c.requires.positive c.requires.ordered top bottom in
    let g = simp to_z-of_z at c.is_within.ensures in
    (λ h. w.0 (g.0 h), λ h. g.1 (w.1 h))
