use Rattle.std.proofs.Common.{List, ℤ, sym, subst, rules, SFits, ◌+◌}
use Rattle.std.specs.Int.{w64}
use Rattle.std.proofs.lemmas.Int.{to_z-of_z}
use Rattle.flow_program.specs.pgraph.View.{node_of}
use Rattle.tree_rules.specs.flow_rules.Net.{net_of}
use Rattle.scaled_flows.specs.Found.{AreRateDivisors}
use Rattle.scaled_flows.proofs.FoundLemmas.{rates_more}
use Rattle.scaled_flows.proofs.divisors.rate_divisors.Goals as goal

pub materials-preserved : goal.materials-preserved
materials-preserved c =
    let g : SFits w64 c.rate_divisor.result = search rules in
    let p = simp to_z-of_z at c.in_ok-push.ensures.items in
    subst
    (λ (xs : List ℤ). AreRateDivisors (net_of c.args.problem.now) (node_of c.args.taken.now) xs
    (c.materials.j + 1)) (sym p)
    (rates_more (net_of c.args.problem.now) (node_of c.args.taken.now) c.materials.rates.items
    c.rate_divisor.result c.materials.j c.rate_divisor.ensures.positive
    c.rate_divisor.ensures.rates c.rate_divisor.ensures.low c.rate_divisor.ensures.high
    c.materials.invariant)
