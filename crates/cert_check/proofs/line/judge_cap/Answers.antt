use Rattle.std.proofs.Common.{◌<◌, arith, rules, SFits}
use Rattle.std.specs.Int.{w64}
use Rattle.std.proofs.lemmas.Int.{to_z-of_z}
use Rattle.tree_text_rules.specs.pns_rules.Shape.{shape_of}
use Rattle.charges.specs.pgraph.View.{node_of}
use Rattle.charges.specs.Known.{facts_of}
use Rattle.cert_check.specs.Shown.{cost_over}
use Rattle.cert_check.specs.View.{known_of}
use Rattle.cert_check.proofs.LineLemmas.{inside_with, size_fails, cap_passes, cap_fails, cap_leads}
use Rattle.cert_check.proofs.line.judge_cap.Goals as goal

pub returns-in_default-clause-fails : goal.returns-in_default-clause-fails
returns-in_default-clause-fails c =
    let size = c.ranges.size in
    size_fails c.args.site.now (cost_over c.args.given.now.claimed) (known_of c.args.known.now)
    c.args.unit
    c.args.size c.args.given.now.scaled.now.d c.args.given.now.scaled.now.ys
    c.args.given.now.covers.now (simp to_z-of_z at c.in_default.ensures.none)

pub with_in-requires : goal.with_in-requires
with_in-requires c =
    let size = c.ranges.size in
    let is = (simp to_z-of_z at c.in-Some.ensures.some).1 in
    let lt : c.args.unit < (shape_of c.args.site.now).units = is.0 in
    let few = c.graph.ensures.few_units in
    omega (arith, lt, few)

pub with_least-requires : goal.with_least-requires
with_least-requires c =
    let size = c.ranges.size in
    let is = (simp to_z-of_z at c.in-Some.ensures.some).1 in
    let lt : c.args.unit < (shape_of c.args.site.now).units = is.0 in
    let few = c.graph.ensures.few_units in
    omega (arith, lt, few)

pub with_most-requires : goal.with_most-requires
with_most-requires c =
    let size = c.ranges.size in
    let is = (simp to_z-of_z at c.in-Some.ensures.some).1 in
    let lt : c.args.unit < (shape_of c.args.site.now).units = is.0 in
    let few = c.graph.ensures.few_units in
    omega (arith, lt, few)

pub judge_charged-requires : goal.judge_charged-requires
judge_charged-requires c =
    let size = c.ranges.size in
    let some = simp to_z-of_z at c.in-Some.ensures.some in
    record {
      inside =
          inside_with (shape_of c.args.site.now) (node_of c.args.known.now.node)
          (node_of c.with_in.result) c.args.unit c.with_in.ensures some.1.0 c.requires.inside;
    }

pub returns-in-Ok-clause-passes : goal.returns-in-Ok-clause-passes
returns-in-Ok-clause-passes c =
    let p = c.args.site.now in
    let cost = cost_over c.args.given.now.claimed in
    let k = known_of c.args.known.now in
    let u = c.args.unit in
    let d = c.args.given.now.scaled.now.d in
    let ys = c.args.given.now.scaled.now.ys in
    let covers = c.args.given.now.covers.now in
    let size = c.ranges.size in
    let fits : SFits w64 c.in-Some.most = search rules in
    let some = simp to_z-of_z at c.in-Some.ensures.some in
    let least = simp to_z-of_z at c.with_least.ensures in
    record {
      passes =
          cap_passes p cost k u c.args.size d ys covers some.1 c.in-Some.most some.0
          (node_of c.with_in.result) (facts_of c.with_least.result) c.with_in.ensures
          least c.in-Ok.ensures.passes;
      after =
          cap_leads p cost k u c.args.size d ys covers c.in-Some.most some.0
          (facts_of c.with_most.result) (simp to_z-of_z at c.with_most.ensures);
      inside = c.requires.inside;
    }

pub returns-in-Err-clause-fails : goal.returns-in-Err-clause-fails
returns-in-Err-clause-fails c =
    let size = c.ranges.size in
    let fits : SFits w64 c.in-Some.most = search rules in
    let some = simp to_z-of_z at c.in-Some.ensures.some in
    let least = simp to_z-of_z at c.with_least.ensures in
    cap_fails c.args.site.now (cost_over c.args.given.now.claimed) (known_of c.args.known.now)
    c.args.unit
    c.args.size c.args.given.now.scaled.now.d c.args.given.now.scaled.now.ys
    c.args.given.now.covers.now some.1 c.in-Some.most
    some.0 (node_of c.with_in.result) (facts_of c.with_least.result) c.with_in.ensures
    least c.in-Err.why c.in-Err.ensures.fails
