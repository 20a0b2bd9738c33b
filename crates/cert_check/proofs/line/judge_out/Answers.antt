use Rattle.std.proofs.Common.{◌<◌, ◌∙◌, arith, sym, subst}
use Rattle.std.proofs.lemmas.Bool.{both_ways}
use Rattle.tree_text_rules.specs.pns_rules.Shape.{Shape, shape_of}
use Rattle.charges.specs.pgraph.View.{node_of}
use Rattle.tree_text_rules.specs.flow_rules.Cover.{IsFree}
use Rattle.cert_check.specs.Shown.{cost_over}
use Rattle.cert_check.specs.View.{known_of}
use Rattle.cert_check.proofs.LineLemmas.{inside_with, inside_out, free_fails, out_passes, out_fails}
use Rattle.cert_check.proofs.LineLemmas.{out_leads}
use Rattle.cert_check.proofs.line.judge_out.Goals as goal

pub returns-then-not-is_free-clause-fails : goal.returns-then-not-is_free-clause-fails
returns-then-not-is_free-clause-fails c =
    let n = node_of c.args.known.now.node in
    free_fails c.args.site.now (cost_over c.args.given.now.claimed) (known_of c.args.known.now)
    c.args.unit
    c.args.given.now.scaled.now.d c.args.given.now.scaled.now.ys c.args.given.now.covers.now
    (λ h. both_ways c.is_free.result c.if-not-is_free.true
    (c.is_free.ensures.1
    (subst (λ (g : Shape). IsFree g n c.args.unit) (sym c.graph.ensures.same) h)))

pub with_in-requires : goal.with_in-requires
with_in-requires c =
    let free = c.is_free.ensures.0 c.if-not-is_free.false in
    let lt : c.args.unit < (shape_of c.args.site.now).units =
    subst (λ (g : Shape). c.args.unit < g.units) c.graph.ensures.same free.known in
    let few = c.graph.ensures.few_units in
    omega (arith, lt, few)

pub judge_charged-requires : goal.judge_charged-requires
judge_charged-requires c =
    let free = c.is_free.ensures.0 c.if-not-is_free.false in
    record {
      inside =
          inside_with (shape_of c.args.site.now) (node_of c.args.known.now.node)
          (node_of c.with_in.result) c.args.unit c.with_in.ensures
          (subst (λ (g : Shape). c.args.unit < g.units) c.graph.ensures.same free.known)
          c.requires.inside;
    }

pub with_out-requires : goal.with_out-requires
with_out-requires c =
    let free = c.is_free.ensures.0 c.if-not-is_free.false in
    let lt : c.args.unit < (shape_of c.args.site.now).units =
    subst (λ (g : Shape). c.args.unit < g.units) c.graph.ensures.same free.known in
    let few = c.graph.ensures.few_units in
    omega (arith, lt, few)

pub returns-in-Ok-clause-passes : goal.returns-in-Ok-clause-passes
returns-in-Ok-clause-passes c =
    let p = c.args.site.now in
    let k = known_of c.args.known.now in
    let cost = cost_over c.args.given.now.claimed in
    let n = node_of c.args.known.now.node in
    let u = c.args.unit in
    let d = c.args.given.now.scaled.now.d in
    let ys = c.args.given.now.scaled.now.ys in
    let covers = c.args.given.now.covers.now in
    let free : IsFree (shape_of p) n u =
    subst (λ (g : Shape). IsFree g n u) c.graph.ensures.same
    (c.is_free.ensures.0 c.if-not-is_free.false) in
    record {
      passes =
          out_passes p cost k u d ys covers free (node_of c.with_in.result) c.with_in.ensures
          c.in-Ok.ensures.passes;
      after =
          out_leads p cost k u d ys covers (node_of c.with_out.result) c.with_out.ensures;
      inside =
          inside_out (shape_of p) n (node_of c.with_out.result) u c.with_out.ensures
          c.requires.inside;
    }

pub returns-in-Err-clause-fails : goal.returns-in-Err-clause-fails
returns-in-Err-clause-fails c =
    let p = c.args.site.now in
    let n = node_of c.args.known.now.node in
    let u = c.args.unit in
    let free : IsFree (shape_of p) n u =
    subst (λ (g : Shape). IsFree g n u) c.graph.ensures.same
    (c.is_free.ensures.0 c.if-not-is_free.false) in
    out_fails p (cost_over c.args.given.now.claimed) (known_of c.args.known.now) u
    c.args.given.now.scaled.now.d
    c.args.given.now.scaled.now.ys c.args.given.now.covers.now free (node_of c.with_in.result)
    c.with_in.ensures c.in-Err.why c.in-Err.ensures.fails
