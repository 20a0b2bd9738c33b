use Rattle.std.proofs.Common.{subst}
use Rattle.tree_text_rules.specs.pns_rules.Shape.{Shape}
use Rattle.charges.specs.pgraph.View.{node_of, step_of}
use Rattle.cert_check.specs.Known.{KnowsInside}
use Rattle.cert_check.specs.Shown.{cost_over}
use Rattle.cert_check.specs.View.{known_of}
use Rattle.cert_check.proofs.LineLemmas.{step_passes, step_leads, step_fails}
use Rattle.cert_check.proofs.line.judge_step.Goals as goal

pub returns-in-Some-clause-passes : goal.returns-in-Some-clause-passes
returns-in-Some-clause-passes c =
    let p = c.args.site.now in
    let cost = cost_over c.args.claimed in
    let k = known_of c.args.known.now in
    let s = step_of c.args.taken in
    let n = node_of c.in-Some.node in
    record {
      passes = step_passes p cost k _ c.graph.ensures.same s c.in-Some.ensures.possible;
      after = step_leads p cost k _ c.graph.ensures.same s n c.in-Some.ensures.leads;
      inside =
          subst (λ (g : Shape). KnowsInside g n) c.graph.ensures.same c.in-Some.ensures.known;
    }

pub returns-in-None-clause-fails : goal.returns-in-None-clause-fails
returns-in-None-clause-fails c =
    step_fails c.args.site.now (cost_over c.args.claimed) (known_of c.args.known.now) _
    c.graph.ensures.same (step_of c.args.taken) c.in-None.ensures.impossible
