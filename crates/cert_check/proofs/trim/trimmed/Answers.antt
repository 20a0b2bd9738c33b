use Rattle.std.proofs.Common.{◌≡◌, ◌≤◌, ◌<◌, ◌∙◌, ◌≤ℤ◌, ℕ, ℤ, List, SFits, rules, sym, ap, subst}
use Rattle.std.proofs.Common.{arith}
use Rattle.std.proofs.Common.{length, map}
use Rattle.std.specs.Int.{w64, w128}
use Rattle.std.proofs.lemmas.Bool.{both_ways}
use Rattle.std.proofs.lemmas.Int.{to_z-of_z}
use Rattle.tree_text_rules.specs.pns_rules.Shape.{Shape, shape_of}
use Rattle.charges.specs.pgraph.View.{node_of}
use Rattle.cert_check.specs.Known.{KnowsInside}
use Rattle.tree_text_rules.specs.flow_rules.Net.{net_of}
use Rattle.charges.specs.Known.{facts_of}
use Rattle.tree_text_rules.specs.tree_rules.Trim.{MayTrim, enough_of, outputs}
use Rattle.tree_text_rules.proofs.tree_rules.Cited.{greatest_first}
use Rattle.cert_check.proofs.TrimLemmas.{none_may}
use Rattle.cert_check.proofs.trim.trimmed.Goals as goal

pub returns-then-u-unit_count-clause-none : goal.returns-then-u-unit_count-clause-none
returns-then-u-unit_count-clause-none c = λ may.
    let le = c.if-u-unit_count.true in
    let count = c.unit_count.ensures ∙ ap (λ (g : Shape). g.units) c.graph-graph.ensures.same in
    let lt = may.known in
    absurd (omega (arith, le, count, lt))

pub returns-then-has-clause-none : goal.returns-then-has-clause-none
returns-then-has-clause-none c = λ may.
    both_ways c.has.result (c.has.ensures ∙ may.not_outside) c.if-has.true

pub returns-then-not-earns_nothing-clause-none : goal.returns-then-not-earns_nothing-clause-none
returns-then-not-earns_nothing-clause-none c = λ may.
    both_ways c.earns_nothing.result c.if-not-earns_nothing.true
    (c.earns_nothing.ensures.1 may.costs)

pub returns-then-not-all_bear-clause-none : goal.returns-then-not-all_bear-clause-none
returns-then-not-all_bear-clause-none c = λ may.
    both_ways c.all_bear.result c.if-not-all_bear.true
    (c.all_bear.ensures.1 (λ j l. (may.no_raw j l, may.inputs j l)))

pub returns-clause-none : goal.returns-clause-none
returns-clause-none c =
    let net = net_of c.args.site.now in
    let n = node_of c.args.known.now.node in
    let f = facts_of c.args.known.now.facts in
    let u = c.args.u in
    let s1 : SFits w64 c.least_of.result = search rules in
    let s2 : SFits w128 c.trimmed_size-size.result = search rules in
    let s3 : SFits w64 c.most_of.result = search rules in
    none_may c.size_within.result (MayTrim net n f u) c.least_of.result
    c.trimmed_size-size.result c.most_of.result (simp to_z-of_z at c.size_within.ensures.none)
    (λ may. (
      subst (λ (z : ℤ × ℤ). z.0 ≤ℤ z.1)
          (λ i. (sym c.least_of.ensures i, sym c.trimmed_size-size.ensures i))
          (greatest_first (net.least u) (map (enough_of net n f u) (outputs net u))),
      subst (λ (z : ℤ × ℤ). z.0 ≤ℤ z.1)
          (λ i. (sym c.trimmed_size-size.ensures i, sym c.most_of.ensures i)) may.less,
    ))
