use Rattle.std.proofs.Common.{◌∙◌, rules, SFits}
use Rattle.std.specs.Int.{w128}
use Rattle.std.proofs.lemmas.Int.{to_z-of_z}
use Rattle.charges.specs.pgraph.View.{node_of}
use Rattle.tree_text_rules.specs.flow_rules.Net.{net_of, beside}
use Rattle.tree_text_rules.specs.flow_rules.Relaxed.{rows}
use Rattle.tree_text_rules.proofs.flow_rules.Cited.{not_both}
use Rattle.tree_text_rules.specs.flow_rules.ChargeSteps.{charge_steps}
use Rattle.charges.specs.Known.{facts_of}
use Rattle.charges.specs.pgraph.CoversView.{covers_of}
use Rattle.cert_check.proofs.ChargeLemmas.{few_covers, beside_small}
use Rattle.cert_check.proofs.charge.formed_charge.Goals as goal

pub charge_of-requires-clause-few : goal.charge_of-requires-clause-few
charge_of-requires-clause-few c = few_covers c.args.charge.now.covers.now c.requires.covers

pub charge_of-requires-clause-beside : goal.charge_of-requires-clause-beside
charge_of-requires-clause-beside c =
    beside_small c.args.charge.now.covers.now c.requires.covers.each

pub returns-in-Ok-clause-value : goal.returns-in-Ok-clause-value
returns-in-Ok-clause-value c =
    let fits : SFits w128 c.in-Ok.sum = search rules in
    to_z-of_z w128 c.in-Ok.sum fits ∙ c.in-Ok.ensures.value

pub returns-in-Err-clause-past : goal.returns-in-Err-clause-past
returns-in-Err-clause-past c = λ formed.
    let net = net_of c.args.site.now in
    let n = node_of c.args.node.now in
    not_both
    (charge_steps net n (facts_of c.args.facts.now) c.args.charge.now.d
    (beside (rows net n) c.args.charge.now.ys.now) (covers_of c.args.charge.now.covers.now))
    c.in-Err.field-0.at formed c.in-Err.ensures.past
