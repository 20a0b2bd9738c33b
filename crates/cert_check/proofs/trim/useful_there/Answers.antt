use Rattle.std.proofs.Common.{◌≡◌, ◌∙◌, ap, ◌+ℤ◌, SFits, rules}
use Rattle.std.specs.Int.{w128}
use Rattle.std.proofs.lemmas.Int.{to_z-of_z}
use Rattle.tree_text_rules.specs.problem_rules.Problem.{Problem}
use Rattle.charges.specs.pgraph.View.{node_of}
use Rattle.tree_text_rules.specs.flow_rules.Net.{net_of, low_end}
use Rattle.tree_text_rules.specs.flow_rules.Charge.{at_most, users_most}
use Rattle.charges.specs.Known.{facts_of}
use Rattle.cert_check.proofs.trim.useful_there.Goals as goal

pub returns-clause-value : goal.returns-clause-value
returns-clause-value c =
    let net = net_of c.args.site.now in
    let n = node_of c.args.known.now.node in
    let f = facts_of c.args.known.now.facts in
    let j = c.args.j in
    let s1 : SFits w128 c.full_range-range.result.low = search rules in
    let s2 : SFits w128 c.most_used-used.result = search rules in
    let s3 : SFits w128 c.both.result = search rules in
    let lo : c.full_range-range.result.low ≡ low_end net j (net.lower j) =
    c.full_range-range.ensures.low
    ∙ ap (λ (q : Problem). low_end (net_of q) j ((net_of q).lower j)) c.problem.ensures.same in
    let mo : c.most_used-used.result ≡ at_most (f.used j) (users_most net n f j) =
    c.most_used-used.ensures.value in
    let b = simp to_z-of_z at c.both.ensures.value in
    simp to_z-of_z (b ∙ (λ i. lo i +ℤ mo i))
