use Rattle.std.proofs.Common.{◌<◌, arith, rules, SFits}
use Rattle.std.specs.Int.{w64}
use Rattle.std.proofs.lemmas.Int.{to_z-of_z}
use Rattle.tree_text_rules.specs.pns_rules.Shape.{shape_of}
use Rattle.charges.specs.pgraph.View.{node_of}
use Rattle.charges.specs.Known.{facts_of}
use Rattle.cert_check.specs.Shown.{cost_over}
use Rattle.cert_check.specs.View.{known_of}
use Rattle.cert_check.proofs.LineLemmas.{trim_leads, trim_fails}
use Rattle.cert_check.proofs.line.judge_trim.Goals as goal

pub with_most-requires : goal.with_most-requires
with_most-requires c =
    let may = c.in-Some.ensures.some.1 in
    let lt : c.args.unit < (shape_of c.args.site.now).units = may.known in
    let few = c.graph.ensures.few_units in
    omega (arith, lt, few)

pub returns-in-Some-clause-passes : goal.returns-in-Some-clause-passes
returns-in-Some-clause-passes c =
    let fits : SFits w64 c.in-Some.most = search rules in
    record {
      passes = c.in-Some.ensures.some.1;
      after =
          trim_leads c.args.site.now (cost_over c.args.claimed) (known_of c.args.known.now)
          c.args.unit c.in-Some.most c.in-Some.ensures.some.0 (facts_of c.with_most.result)
          (simp to_z-of_z at c.with_most.ensures);
      inside = c.requires.inside;
    }

pub returns-in-None-clause-fails : goal.returns-in-None-clause-fails
returns-in-None-clause-fails c =
    trim_fails c.args.site.now (cost_over c.args.claimed) (known_of c.args.known.now) c.args.unit
    c.in-None.ensures.none
