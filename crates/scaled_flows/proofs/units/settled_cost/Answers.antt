use Rattle.std.proofs.Common.{◌≡◌, ◌∙◌, refl, ap, SFits, rules, true, ℤ, ◌-ℤ◌, ◌*ℤ◌}
use Rattle.std.specs.Prelude.{int_div}
use Rattle.std.specs.Int.{w128}
use Rattle.std.proofs.lemmas.Int.{to_z-of_z}
use Rattle.tree_rules.specs.integer_laws.Total.{total}
use Rattle.flow_program.specs.Entry.{entry}
use Rattle.scaled_flows.specs.Divisors.{rate_divisor}
use Rattle.scaled_flows.proofs.ProgramLemmas.{some_of, settled_same}
use Rattle.scaled_flows.proofs.units.settled_cost.Goals as goal

pub returns-then-is_settled-clause-settled : goal.returns-then-is_settled-clause-settled
returns-then-is_settled-clause-settled c =
    let size = c.ranges.size in
    let d = c.ranges.d in
    let scale = c.ranges.scale in
    let co : SFits w128 c.args.unit.cost = search rules in
    let low : SFits w128 c.args.unit.low = search rules in
    let high : SFits w128 c.args.unit.high = search rules in
    let a : SFits w128 c.in_ok-cost.cost = search rules in
    let b : SFits w128 c.in_ok-price.price = search rules in
    let paid : ℤ =
    total
    (λ j. entry c.args.y_at.now j *ℤ int_div (entry c.args.rates.now j)
    (rate_divisor c.args.scales.now j)) c.args.materials in
    let h = simp to_z-of_z at c.in_ok-cost.ensures in
    let k = simp to_z-of_z at c.in_ok-price.ensures in
    let g = simp to_z-of_z at c.is_settled.ensures in
    let t : c.is_settled.result ≡ true = search rules in
    let s =
    settled_same c.args.unit.low c.args.unit.low c.args.unit.high c.args.unit.high c.args.d
    c.args.size c.args.size c.in_ok-price.price (c.args.scale *ℤ c.args.unit.cost -ℤ paid) refl
    refl refl
    (k ∙ ap (λ (z : ℤ). z -ℤ paid) h.1) (g.0 t) in
    some_of c.checked_product-then-is_settled.result _ _ _ (λ x e. s)
    c.checked_product-then-is_settled.ensures

pub returns-then-is_settled-clause-cost : goal.returns-then-is_settled-clause-cost
returns-then-is_settled-clause-cost c =
    let size = c.ranges.size in
    let co : SFits w128 c.args.unit.cost = search rules in
    some_of c.checked_product-then-is_settled.result _ _ _ (λ x e. e)
    (simp to_z-of_z at c.checked_product-then-is_settled.ensures)
