use Rattle.std.proofs.Common.{◌≡◌, ◌<◌, ◌∙◌, ℕ, ℤ, List, pos, ◌<ℤ◌, ◌*ℤ◌, SFits, rules, sym, ap}
use Rattle.std.proofs.Common.{subst}
use Rattle.std.proofs.Common.{length}
use Rattle.std.specs.Int.{w64, w128, int_max}
use Rattle.std.proofs.lemmas.Bool.{both_ways}
use Rattle.std.proofs.lemmas.Int.{to_z-of_z}
use Rattle.tree_text_rules.specs.integer_laws.Total.{total}
use Rattle.tree_text_rules.specs.number_sets.Sets.{has}
use Rattle.tree_text_rules.specs.problem_rules.Problem.{Problem}
use Rattle.tree_text_rules.specs.pns_rules.Shape.{Shape, shape_of}
use Rattle.charges.specs.pgraph.View.{node_of}
use Rattle.tree_text_rules.specs.flow_rules.Net.{net_of, high_end}
use Rattle.tree_text_rules.specs.flow_rules.Relaxed.{stays}
use Rattle.charges.proofs.flow_program.Cited.{listed_had}
use Rattle.charges.specs.Known.{facts_of}
use Rattle.tree_text_rules.specs.tree_rules.Trim.{makers_most}
use Rattle.cert_check.proofs.TrimLemmas.{made_bears, none_bears, used_bears}
use Rattle.cert_check.proofs.trim.bears.Goals as goal

pub returns-then-is_made : goal.returns-then-is_made
returns-then-is_made c =
    let r : SFits w64 c.rate_of-rate.result = search rules in
    let test = simp to_z-of_z at c.is_made.ensures in
    made_bears (net_of c.args.site.now) (node_of c.args.known.now.node)
    (facts_of c.args.known.now.facts) c.args.u c.args.j c.has.result
    (c.has.ensures ∙ ap (λ (t : ℕ → _). t c.args.j) c.raws.ensures
    ∙ ap (λ (g : Shape). g.raw c.args.j) c.graph.ensures.same)
    (subst (λ (z : ℤ). pos 0 <ℤ z) c.rate_of-rate.ensures.value (test.0 c.if-is_made.true))

pub returns-then-not-is_used : goal.returns-then-not-is_used
returns-then-not-is_used c =
    let r : SFits w64 c.rate_of-rate.result = search rules in
    let made = simp to_z-of_z at c.is_made.ensures in
    let used = simp to_z-of_z at c.is_used.ensures in
    none_bears (net_of c.args.site.now) (node_of c.args.known.now.node)
    (facts_of c.args.known.now.facts) c.args.u c.args.j
    (λ h. both_ways c.is_made.result c.if-is_made.false
    (made.1 (subst (λ (z : ℤ). pos 0 <ℤ z) (sym c.rate_of-rate.ensures.value) h)))
    (λ h. both_ways c.is_used.result c.if-not-is_used.true
    (used.1 (subst (λ (z : ℤ). z <ℤ pos 0) (sym c.rate_of-rate.ensures.value) h)))

pub makers_most-made-requires : goal.makers_most-made-requires
makers_most-made-requires c = λ u there.
    (listed_had (length c.args.site.now.units) (stays (node_of c.args.known.now.node))
    c.args.units u c.requires.units there).0

pub returns : goal.returns
returns c =
    let net = net_of c.args.site.now in
    let n = node_of c.args.known.now.node in
    let f = facts_of c.args.known.now.facts in
    let j = c.args.j in
    let r : SFits w64 c.rate_of-rate.result = search rules in
    let s1 : SFits w128 c.makers_most-made.result = search rules in
    let s2 : SFits w128 c.full_range-range.result.high = search rules in
    let made = simp to_z-of_z at c.is_made.ensures in
    let used = simp to_z-of_z at c.is_used.ensures in
    let test = simp to_z-of_z at c.is_no_more.ensures in
    used_bears net n f c.args.u j c.is_no_more.result c.makers_most-made.result
    c.full_range-range.result.high
    (c.makers_most-made.ensures.value
    ∙ ap (λ (us : List ℕ). total (λ u. int_max (pos 0) (net.rate j u) *ℤ f.most u) us)
    c.requires.units)
    (c.full_range-range.ensures.high
    ∙ ap (λ (q : Problem). high_end (net_of q) j ((net_of q).lower j)) c.problem.ensures.same)
    (λ h. both_ways c.is_made.result c.if-is_made.false
    (made.1 (subst (λ (z : ℤ). pos 0 <ℤ z) (sym c.rate_of-rate.ensures.value) h)))
    (subst (λ (z : ℤ). z <ℤ pos 0) c.rate_of-rate.ensures.value
    (used.0 c.if-not-is_used.false))
    test
