use Rattle.std.proofs.Common.{◌≡◌, ◌∙◌, ◌≤◌, ℕ, ap, sym, to_z, rules, arith, length, SFits}
use Rattle.std.specs.Int.{w64, w128}
use Rattle.std.specs.Prelude.{int_lt, pos}
use Rattle.std.proofs.Math.Facts.{sfits_widen}
use Rattle.std.proofs.lemmas.Int.{to_z-of_z}
use Rattle.tree_text_rules.specs.pns_rules.Shape.{Shape}
use Rattle.charges.specs.pgraph.View.{node_of}
use Rattle.tree_text_rules.specs.flow_rules.Net.{net_of}
use Rattle.charges.specs.Known.{facts_of}
use Rattle.tree_text_rules.specs.tree_rules.Trim.{enough_of}
use Rattle.cert_check.proofs.TrimLemmas.{below, below_none, one_more}
use Rattle.cert_check.proofs.trim.trimmed_size.Goals as goal

pub outputs-init : goal.outputs-init
outputs-init c =
    let net = net_of c.args.site.now in
    let f =
    enough_of net (node_of c.args.known.now.node) (facts_of c.args.known.now.facts) c.args.u in
    let narrow : SFits w64 c.least_of-size.result = search rules in
    let wide : SFits w128 c.least_of-size.result = sfits_widen tt narrow in
    simp to_z-of_z
    (c.least_of-size.ensures
    ∙ sym
    (below_none f (λ j. int_lt (pos 0) (net.rate j c.args.u)) (net.least c.args.u)))

pub outputs-preserved : goal.outputs-preserved
outputs-preserved c =
    let net = net_of c.args.site.now in
    let f =
    enough_of net (node_of c.args.known.now.node) (facts_of c.args.known.now.facts) c.args.u in
    let fits : SFits w128 c.with_output-size.result = search rules in
    simp to_z-of_z
    (one_more f (λ j. int_lt (pos 0) (net.rate j c.args.u)) (net.least c.args.u) c.outputs.j
    (to_z w128 c.outputs.size-bits) c.with_output-size.result c.outputs.invariant
    c.with_output-size.ensures)

pub returns : goal.returns
returns c =
    let net = net_of c.args.site.now in
    let f =
    enough_of net (node_of c.args.known.now.node) (facts_of c.args.known.now.facts) c.args.u in
    let le = c.outputs-test.false in
    let ge = c.outputs.auto.j-end in
    let e : c.material_count-count.result ≡ length c.args.site.now.materials =
    c.material_count-count.ensures ∙ ap (λ (g : Shape). g.materials) c.graph.ensures.same in
    let all : c.outputs.j ≡ length c.args.site.now.materials = omega (arith, le, ge, e) in
    c.outputs.invariant
    ∙ ap
    (λ (k : ℕ). below f (λ j. int_lt (pos 0) (net.rate j c.args.u)) (net.least c.args.u) k) all
