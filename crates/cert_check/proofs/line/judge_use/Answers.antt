use Rattle.std.proofs.Common.{rules, SFits}
use Rattle.std.specs.Int.{w64}
use Rattle.std.proofs.lemmas.Int.{to_z-of_z}
use Rattle.charges.specs.Known.{demand_of, facts_of}
use Rattle.cert_check.specs.Shown.{cost_over}
use Rattle.cert_check.specs.View.{known_of}
use Rattle.cert_check.proofs.LineLemmas.{amount_fails, use_passes, use_fails, use_leads}
use Rattle.cert_check.proofs.line.judge_use.Goals as goal

pub returns-in_default-clause-fails : goal.returns-in_default-clause-fails
returns-in_default-clause-fails c =
    let given = c.args.given.now in
    amount_fails c.args.site.now (cost_over given.claimed) (known_of c.args.known.now)
    (demand_of c.args.demand) given.scaled.now.d given.scaled.now.ys given.covers.now
    c.in_default.ensures.none

pub returns-in-Ok-clause-passes : goal.returns-in-Ok-clause-passes
returns-in-Ok-clause-passes c =
    let p = c.args.site.now in
    let cost = cost_over c.args.given.now.claimed in
    let k = known_of c.args.known.now in
    let q = demand_of c.args.demand in
    let d = c.args.given.now.scaled.now.d in
    let ys = c.args.given.now.scaled.now.ys in
    let covers = c.args.given.now.covers.now in
    let fits : SFits w64 c.in-Some.amount = search rules in
    let some = c.in-Some.ensures.some in
    record {
      passes =
          use_passes p cost k q d ys covers some.1 (facts_of c.with_demand.result)
          c.with_demand.ensures c.in-Ok.ensures.passes;
      after =
          use_leads p cost k q d ys covers c.in-Some.amount some.0
          (facts_of c.with_used.result) (simp to_z-of_z at c.with_used.ensures);
      inside = c.requires.inside;
    }

pub returns-in-Err-clause-fails : goal.returns-in-Err-clause-fails
returns-in-Err-clause-fails c =
    let given = c.args.given.now in
    use_fails c.args.site.now (cost_over given.claimed) (known_of c.args.known.now)
    (demand_of c.args.demand) given.scaled.now.d given.scaled.now.ys given.covers.now
    c.in-Some.ensures.some.1 (facts_of c.with_demand.result) c.with_demand.ensures c.in-Err.why
    c.in-Err.ensures.fails
