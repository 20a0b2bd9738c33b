use Rattle.std.proofs.Common.{◌≡◌, ◌<◌, ◌≤◌, ◌∙◌, ℕ, false, refl, ap, arith, length}
use Rattle.std.proofs.lemmas.Bool.{both_ways}
use Rattle.charges.specs.pgraph.View.{node_of}
use Rattle.tree_text_rules.specs.pns_rules.Shape.{Shape, shape_of}
use Rattle.tree_text_rules.specs.flow_rules.Net.{net_of}
use Rattle.charges.specs.Known.{facts_of}
use Rattle.cert_check.specs.Trims.{Bears}
use Rattle.cert_check.proofs.TrimLemmas.{one_more_bears}
use Rattle.cert_check.proofs.trim.all_bear.Goals as goal

pub materials-init : goal.materials-init
materials-init c = λ j l. absurd (omega arith)

pub returns-then-not-bears : goal.returns-then-not-bears
returns-then-not-bears c =
    let lt = c.materials-test.true in
    let e : c.material_count-count.result ≡ length c.args.site.now.materials =
    c.material_count-count.ensures ∙ ap (λ (g : Shape). g.materials) c.graph.ensures.same in
    let within : c.materials.j < length c.args.site.now.materials = omega (arith, lt, e) in (
      (λ h. absurd (both_ways false refl h)),
      (λ all. absurd
          (both_ways c.bears.result c.if-not-bears.true
          (c.bears.ensures.1 (all c.materials.j within)))),
    )

pub materials-preserved : goal.materials-preserved
materials-preserved c =
    one_more_bears
    (Bears (net_of c.args.site.now) (node_of c.args.known.now.node)
    (facts_of c.args.known.now.facts) c.args.u) c.materials.j c.materials.invariant
    (c.bears.ensures.0 c.if-not-bears.false)

pub returns : goal.returns
returns c =
    let le = c.materials-test.false in
    let e : c.material_count-count.result ≡ length c.args.site.now.materials =
    c.material_count-count.ensures ∙ ap (λ (g : Shape). g.materials) c.graph.ensures.same in
    let within : length c.args.site.now.materials ≤ c.materials.j = omega (arith, le, e) in (
      (λ h. λ j l. c.materials.invariant j (omega (arith, within, l))),
      (λ h. refl),
    )
