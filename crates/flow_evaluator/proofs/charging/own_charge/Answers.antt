use Rattle.std.proofs.Common.{◌≡◌, ◌∙◌, ap, subst, rules, SFits}
use Rattle.std.specs.Int.{w128}
use Rattle.std.proofs.lemmas.Int.{to_z-of_z}
use Rattle.dual_simplex.specs.problem_rules.Problem.{Problem}
use Rattle.dual_simplex.specs.pgraph.View.{node_of}
use Rattle.dual_simplex.specs.flow_rules.Net.{net_of, beside}
use Rattle.dual_simplex.specs.flow_rules.Relaxed.{rows}
use Rattle.dual_simplex.specs.flow_rules.Steps.{AreInRange}
use Rattle.dual_simplex.specs.flow_rules.ChargeFacts.{Facts, own_facts}
use Rattle.dual_simplex.specs.flow_rules.Charge.{charge}
use Rattle.dual_simplex.specs.flow_rules.ChargeSteps.{charge_steps}
use Rattle.certified_bounds.specs.charges.Known.{facts_of}
use Rattle.dual_simplex.specs.pgraph.CoversView.{covers_of}
use Rattle.flow_evaluator.proofs.ChargingLemmas.{small_all}
use Rattle.flow_evaluator.proofs.charging.own_charge.Goals as goal

pub charge_of-requires-clause-beside : goal.charge_of-requires-clause-beside
charge_of-requires-clause-beside c =
    small_all c.args.site.now (node_of c.args.node.now) c.args.charge.now.covers.now c.requires.fit

pub returns-in-Ok : goal.returns-in-Ok
returns-in-Ok c =
    let net = net_of c.args.site.now in
    let n = node_of c.args.node.now in
    let own : facts_of c.own-facts.result ≡ own_facts net =
    c.own-facts.ensures ∙ ap (λ (q : Problem). own_facts (net_of q)) c.problem.ensures.same in
    let fits : SFits w128 c.in-Ok.sum = search rules in
    record {
      value = to_z-of_z w128 c.in-Ok.sum fits
          ∙ (c.in-Ok.ensures.value
          ∙ ap
          (λ (f : Facts). charge net n f c.args.charge.now.d
          (beside (rows net n) c.args.charge.now.ys.now)
          (covers_of c.args.charge.now.covers.now)) own);
      formed =
          subst
          (λ (f : Facts). AreInRange
          (charge_steps net n f c.args.charge.now.d (beside (rows net n) c.args.charge.now.ys.now)
          (covers_of c.args.charge.now.covers.now))) own
          c.in-Ok.ensures.in_range;
    }
