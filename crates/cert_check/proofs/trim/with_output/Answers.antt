use Rattle.std.proofs.Common.{◌≡◌, ◌∙◌, true, false, ℤ, Bool, cond, pos, ◌<ℤ◌, SFits, rules, sym}
use Rattle.std.proofs.Common.{ap}
use Rattle.std.proofs.Common.{subst}
use Rattle.std.specs.Prelude.{int_lt}
use Rattle.std.specs.Int.{w64, w128, int_max}
use Rattle.std.proofs.lemmas.Bool.{both_ways}
use Rattle.std.proofs.lemmas.Int.{to_z-of_z}
use Rattle.charges.specs.pgraph.View.{node_of}
use Rattle.tree_text_rules.specs.flow_rules.Net.{net_of}
use Rattle.charges.specs.Known.{facts_of}
use Rattle.tree_text_rules.specs.tree_rules.Trim.{enough_of}
use Rattle.cert_check.proofs.TrimLemmas.{lt_true, lt_false}
use Rattle.cert_check.proofs.trim.with_output.Goals as goal

pub returns-then-not-is_made : goal.returns-then-not-is_made
returns-then-not-is_made c =
    let net = net_of c.args.site.now in
    let r : SFits w64 c.rate_of-rate.result = search rules in
    let s = c.ranges.size in
    let test = simp to_z-of_z at c.is_made.ensures in
    let not_made : pos 0 <ℤ net.rate c.args.j c.args.u → ⊥ =
    λ h. both_ways c.is_made.result c.if-not-is_made.true
    (test.1 (subst (λ (z : ℤ). pos 0 <ℤ z) (sym c.rate_of-rate.ensures.value) h)) in
    let most =
    int_max
    (enough_of net (node_of c.args.known.now.node) (facts_of c.args.known.now.facts) c.args.u
    c.args.j) c.args.size in
    simp to_z-of_z
    (ap (λ (b : Bool). cond b most c.args.size)
    (sym (lt_false (net.rate c.args.j c.args.u) not_made)))

pub enough_of-enough-requires-clause-makes : goal.enough_of-enough-requires-clause-makes
enough_of-enough-requires-clause-makes c =
    let r : SFits w64 c.rate_of-rate.result = search rules in
    let test = simp to_z-of_z at c.is_made.ensures in
    subst (λ (z : ℤ). pos 0 <ℤ z) c.rate_of-rate.ensures.value (test.0 c.if-not-is_made.false)

pub returns : goal.returns
returns c =
    let net = net_of c.args.site.now in
    let r : SFits w64 c.rate_of-rate.result = search rules in
    let s = c.ranges.size in
    let t : SFits w128 c.enough_of-enough.result = search rules in
    let g : SFits w128 c.greater.result = search rules in
    let test = simp to_z-of_z at c.is_made.ensures in
    let made : pos 0 <ℤ net.rate c.args.j c.args.u =
    subst (λ (z : ℤ). pos 0 <ℤ z) c.rate_of-rate.ensures.value
    (test.0 c.if-not-is_made.false) in
    let enough =
    enough_of net (node_of c.args.known.now.node) (facts_of c.args.known.now.facts) c.args.u
    c.args.j in
    let e = simp to_z-of_z at c.greater.ensures in
    simp to_z-of_z
    (e ∙ ap (λ (z : ℤ). int_max z c.args.size) c.enough_of-enough.ensures
    ∙ ap (λ (b : Bool). cond b (int_max enough c.args.size) c.args.size)
    (sym (lt_true (net.rate c.args.j c.args.u) made)))
