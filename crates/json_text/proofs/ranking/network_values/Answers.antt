use Rattle.std.proofs.Common.{◌≡◌, ◌∙◌, ◌+◌, ℕ, suc, ap, arith}
use Rattle.report_rules.specs.JsonRanked.{network_json}
use Rattle.json_text.proofs.Places.{one_more}
use Rattle.json_text.proofs.ranking.network_values.Goals as goal

pub values-preserved : goal.values-preserved
values-preserved c =
    let p = c.args.problem.now in
    let first = c.args.first.now in
    let w = c.index-networks-i.result in
    let next : c.values.i + 1 ≡ suc c.values.i = omega (arith) in
    one_more p first (c.values.i + 1) c.args.networks.now c.values.i (c.values.i + 1) w
    c.values-test.true c.index-networks-i.is next c.values.values.items c.push.new.self.items _
    c.in_ok-value.value
    (c.in_ok-value.ensures
    ∙ ap (λ (n : ℕ). network_json p first n w) c.place_of.ensures)
    c.in_ok-push.ensures.items c.values.invariant
