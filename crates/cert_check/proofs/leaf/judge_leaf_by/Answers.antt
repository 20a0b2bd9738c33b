use Rattle.std.proofs.Common.{Bool, Option, None, sym, ap, subst}
use Rattle.charges.specs.pgraph.View.{node_of}
use Rattle.tree_text_rules.specs.tree_rules.declared.why.Why.{Why}
use Rattle.tree_text_rules.specs.tree_rules.Claim.{CostOver}
use Rattle.tree_text_rules.specs.tree_rules.Leaf.{Leaf, untried, LeafPasses, LeafFails}
use Rattle.branch_tree.specs.View.{end_of}
use Rattle.charges.specs.Known.{facts_of}
use Rattle.tree_text_rules.specs.tree_rules.Headed.{LeafPassesBy, LeafFailsBy}
use Rattle.cert_check.specs.Shown.{cost_over}
use Rattle.cert_check.specs.Bare.{as_judged}
use Rattle.cert_check.specs.Visits.{leaf_passes, leaf_fails}
use Rattle.cert_check.proofs.LeafLemmas.{passes_at, fails_at, passes_as, fails_as, judged_as_is}
use Rattle.cert_check.proofs.LeafLemmas.{judged_bare}
use Rattle.cert_check.proofs.leaf.judge_leaf_by.Goals as goal

pub returns-then-judge-clause-passes : goal.returns-then-judge-clause-passes
returns-then-judge-clause-passes c =
    let j = c.args.judge.now in
    let n = node_of c.args.node.now in
    passes_as (end_of c.args.end.now) c.judge_leaf.result (as_judged j.bounds)
    (λ l k. judged_as_is j.bounds c.if-judge.true l)
    (λ (l : Leaf). LeafPassesBy (facts_of j.facts.now) j.partial j.site.now (cost_over j.claimed) n
    l)
    c.judge_leaf.ensures.passes

pub returns-then-judge-clause-fails : goal.returns-then-judge-clause-fails
returns-then-judge-clause-fails c =
    let j = c.args.judge.now in
    let n = node_of c.args.node.now in
    fails_as (end_of c.args.end.now) c.judge_leaf.result (as_judged j.bounds)
    (λ l k. judged_as_is j.bounds c.if-judge.true l)
    (λ (l : Leaf) (why : Why). LeafFailsBy (facts_of j.facts.now) j.partial j.site.now
    (cost_over j.claimed) n l why)
    c.judge_leaf.ensures.fails

pub returns-in-Open-clause-passes : goal.returns-in-Open-clause-passes
returns-in-Open-clause-passes c =
    let j = c.args.judge.now in
    let n = node_of c.args.node.now in
    let k = cost_over j.claimed in
    passes_at (end_of c.args.end.now) (untried c.in-Open.field-0) (ap end_of c.in-Open.is)
    (λ (l : Leaf). leaf_passes j n l)
    ((claimed : Option CostOver) → LeafPasses j.partial j.site.now claimed n (untried None))
    c.judge_open.result
    (λ q. subst
    (λ (b : Bool). LeafPassesBy (facts_of j.facts.now) j.partial j.site.now k n
    (as_judged b (untried c.in-Open.field-0)))
    (sym c.if-judge.false) (q k))
    c.judge_open.ensures.passes

pub returns-in-Open-clause-fails : goal.returns-in-Open-clause-fails
returns-in-Open-clause-fails c =
    let j = c.args.judge.now in
    let n = node_of c.args.node.now in
    let k = cost_over j.claimed in
    fails_at (end_of c.args.end.now) (untried c.in-Open.field-0) (ap end_of c.in-Open.is)
    (λ (l : Leaf) (why : Why). leaf_fails j n l why)
    (λ (why : Why). (claimed : Option CostOver)
    → LeafFails j.partial j.site.now claimed n (untried None) why)
    c.judge_open.result
    (λ why q. subst
    (λ (b : Bool). LeafFailsBy (facts_of j.facts.now) j.partial j.site.now k n
    (as_judged b (untried c.in-Open.field-0)) why)
    (sym c.if-judge.false) (q k))
    c.judge_open.ensures.fails

pub returns-in_default-clause-passes : goal.returns-in_default-clause-passes
returns-in_default-clause-passes c =
    let j = c.args.judge.now in
    let n = node_of c.args.node.now in
    passes_as (end_of c.args.end.now) c.judge_leaf-in_default.result (as_judged j.bounds)
    (judged_bare j.bounds c.if-judge.false c.args.end.now c.in_default.not-Open)
    (λ (l : Leaf). LeafPassesBy (facts_of j.facts.now) j.partial j.site.now (cost_over j.claimed) n
    l)
    c.judge_leaf-in_default.ensures.passes

pub returns-in_default-clause-fails : goal.returns-in_default-clause-fails
returns-in_default-clause-fails c =
    let j = c.args.judge.now in
    let n = node_of c.args.node.now in
    fails_as (end_of c.args.end.now) c.judge_leaf-in_default.result (as_judged j.bounds)
    (judged_bare j.bounds c.if-judge.false c.args.end.now c.in_default.not-Open)
    (λ (l : Leaf) (why : Why). LeafFailsBy (facts_of j.facts.now) j.partial j.site.now
    (cost_over j.claimed) n l why)
    c.judge_leaf-in_default.ensures.fails
