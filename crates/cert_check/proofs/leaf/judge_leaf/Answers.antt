use Rattle.std.proofs.Common.{◌∙◌, sym, ap, ap₂, Bool, Option, List, ℤ, SFits, rules, to_z, of_z}
use Rattle.std.specs.Int.{w128}
use Rattle.std.proofs.lemmas.Int.{to_z-of_z}
use Rattle.charges.specs.pgraph.View.{node_of}
use Rattle.tree_text_rules.specs.tree_rules.declared.why.Why.{Why}
use Rattle.tree_text_rules.specs.tree_rules.Claim as claims
use Rattle.tree_text_rules.specs.tree_rules.Tree.{leaf}
use Rattle.tree_text_rules.specs.flow_rules.ChargeLeaf.{Handed}
use Rattle.tree_text_rules.specs.tree_rules.Leaf.{Leaf, dead, clash, refuted, bounded, charged}
use Rattle.tree_text_rules.specs.tree_rules.Leaf.{untried, LeafPasses}
use Rattle.tree_text_rules.specs.tree_rules.Leaf.{LeafFails}
use Rattle.branch_tree.specs.View.{end_of}
use Rattle.charges.specs.Known.{facts_of}
use Rattle.tree_text_rules.specs.tree_rules.Headed.{LeafPassesBy, LeafFailsBy}
use Rattle.cert_check.specs.Shown.{cost_over}
use Rattle.cert_check.proofs.LeafLemmas.{passes_at, fails_at}
use Rattle.cert_check.proofs.leaf.judge_leaf.Goals as goal

pub returns-in-Dead-clause-passes : goal.returns-in-Dead-clause-passes
returns-in-Dead-clause-passes c =
    let j = c.args.judge.now in
    let p = j.site.now in
    let f = facts_of j.facts.now in
    let n = node_of c.args.node.now in
    let k = cost_over j.claimed in
    passes_at (end_of c.args.end.now) (dead c.in-Dead.x) (ap end_of c.in-Dead.is)
    (λ (l : Leaf). LeafPassesBy f j.partial p k n l)
    ((partial : Bool) (claimed : Option claims.CostOver)
    → LeafPasses partial p claimed n (dead c.in-Dead.x))
    c.judge_dead.result (λ q. q j.partial k) c.judge_dead.ensures.passes

pub returns-in-Dead-clause-fails : goal.returns-in-Dead-clause-fails
returns-in-Dead-clause-fails c =
    let j = c.args.judge.now in
    let p = j.site.now in
    let f = facts_of j.facts.now in
    let n = node_of c.args.node.now in
    let k = cost_over j.claimed in
    fails_at (end_of c.args.end.now) (dead c.in-Dead.x) (ap end_of c.in-Dead.is)
    (λ (l : Leaf) (why : Why). LeafFailsBy f j.partial p k n l why)
    (λ (why : Why). (partial : Bool) (claimed : Option claims.CostOver)
    → LeafFails partial p claimed n (dead c.in-Dead.x) why)
    c.judge_dead.result (λ why q. q j.partial k) c.judge_dead.ensures.fails

pub returns-in-Clash-clause-passes : goal.returns-in-Clash-clause-passes
returns-in-Clash-clause-passes c =
    let j = c.args.judge.now in
    let p = j.site.now in
    let f = facts_of j.facts.now in
    let n = node_of c.args.node.now in
    let k = cost_over j.claimed in
    passes_at (end_of c.args.end.now) (clash c.in-Clash.k) (ap end_of c.in-Clash.is)
    (λ (l : Leaf). LeafPassesBy f j.partial p k n l)
    ((partial : Bool) (claimed : Option claims.CostOver)
    → LeafPasses partial p claimed n (clash c.in-Clash.k))
    c.judge_clash.result (λ q. q j.partial k) c.judge_clash.ensures.passes

pub returns-in-Clash-clause-fails : goal.returns-in-Clash-clause-fails
returns-in-Clash-clause-fails c =
    let j = c.args.judge.now in
    let p = j.site.now in
    let f = facts_of j.facts.now in
    let n = node_of c.args.node.now in
    let k = cost_over j.claimed in
    fails_at (end_of c.args.end.now) (clash c.in-Clash.k) (ap end_of c.in-Clash.is)
    (λ (l : Leaf) (why : Why). LeafFailsBy f j.partial p k n l why)
    (λ (why : Why). (partial : Bool) (claimed : Option claims.CostOver)
    → LeafFails partial p claimed n (clash c.in-Clash.k) why)
    c.judge_clash.result (λ why q. q j.partial k) c.judge_clash.ensures.fails

pub returns-in-Refuted-clause-passes : goal.returns-in-Refuted-clause-passes
returns-in-Refuted-clause-passes c =
    let j = c.args.judge.now in
    let p = j.site.now in
    let f = facts_of j.facts.now in
    let n = node_of c.args.node.now in
    let k = cost_over j.claimed in
    passes_at (end_of c.args.end.now) (refuted c.numbers.result.now)
    (ap end_of c.in-Refuted.is
    ∙ ap (λ (ys : List ℤ). leaf (refuted ys)) (sym c.numbers.ensures))
    (λ (l : Leaf). LeafPassesBy f j.partial p k n l)
    ((partial : Bool) (claimed : Option claims.CostOver)
    → LeafPasses partial p claimed n (refuted c.numbers.result.now))
    c.judge_refutation.result (λ q. q j.partial k) c.judge_refutation.ensures.passes

pub returns-in-Refuted-clause-fails : goal.returns-in-Refuted-clause-fails
returns-in-Refuted-clause-fails c =
    let j = c.args.judge.now in
    let p = j.site.now in
    let f = facts_of j.facts.now in
    let n = node_of c.args.node.now in
    let k = cost_over j.claimed in
    fails_at (end_of c.args.end.now) (refuted c.numbers.result.now)
    (ap end_of c.in-Refuted.is
    ∙ ap (λ (ys : List ℤ). leaf (refuted ys)) (sym c.numbers.ensures))
    (λ (l : Leaf) (why : Why). LeafFailsBy f j.partial p k n l why)
    (λ (why : Why). (partial : Bool) (claimed : Option claims.CostOver)
    → LeafFails partial p claimed n (refuted c.numbers.result.now) why)
    c.judge_refutation.result (λ why q. q j.partial k) c.judge_refutation.ensures.fails

pub returns-in-Bound-clause-passes : goal.returns-in-Bound-clause-passes
returns-in-Bound-clause-passes c =
    let j = c.args.judge.now in
    let p = j.site.now in
    let f = facts_of j.facts.now in
    let n = node_of c.args.node.now in
    let k = cost_over j.claimed in
    let fits : SFits w128 c.d.result = search rules in
    passes_at (end_of c.args.end.now) (bounded (to_z w128 (of_z w128 c.d.result)) c.ys.result.now)
    (ap end_of c.in-Bound.is
    ∙ ap₂ (λ (d : ℤ) (ys : List ℤ). leaf (bounded d ys))
    (sym (c.d.ensures) ∙ sym (to_z-of_z w128 c.d.result fits)) (sym c.ys.ensures))
    (λ (l : Leaf). LeafPassesBy f j.partial p k n l)
    ((partial : Bool)
    → LeafPasses partial p k n (bounded (to_z w128 (of_z w128 c.d.result)) c.ys.result.now))
    c.judge_bound.result (λ q. q j.partial) c.judge_bound.ensures.passes

pub returns-in-Bound-clause-fails : goal.returns-in-Bound-clause-fails
returns-in-Bound-clause-fails c =
    let j = c.args.judge.now in
    let p = j.site.now in
    let f = facts_of j.facts.now in
    let n = node_of c.args.node.now in
    let k = cost_over j.claimed in
    let fits : SFits w128 c.d.result = search rules in
    fails_at (end_of c.args.end.now) (bounded (to_z w128 (of_z w128 c.d.result)) c.ys.result.now)
    (ap end_of c.in-Bound.is
    ∙ ap₂ (λ (d : ℤ) (ys : List ℤ). leaf (bounded d ys))
    (sym (c.d.ensures) ∙ sym (to_z-of_z w128 c.d.result fits)) (sym c.ys.ensures))
    (λ (l : Leaf) (why : Why). LeafFailsBy f j.partial p k n l why)
    (λ (why : Why). (partial : Bool)
    → LeafFails partial p k n (bounded (to_z w128 (of_z w128 c.d.result)) c.ys.result.now) why)
    c.judge_bound.result (λ why q. q j.partial) c.judge_bound.ensures.fails

pub returns-in-Charge-clause-passes : goal.returns-in-Charge-clause-passes
returns-in-Charge-clause-passes c =
    let j = c.args.judge.now in
    let p = j.site.now in
    let f = facts_of j.facts.now in
    let n = node_of c.args.node.now in
    let k = cost_over j.claimed in
    let h : Handed =
    record {
      d = c.in-Charge.scaled.d;
      ys = c.in-Charge.scaled.ys;
      covers =
          c.in-Charge.covers;
    } in
    passes_at (end_of c.args.end.now) (charged h) (ap end_of c.in-Charge.is)
    (λ (l : Leaf). LeafPassesBy f j.partial p k n l)
    (LeafPassesBy f j.partial p k n (charged h))
    c.judge_charged.result (λ q. q) c.judge_charged.ensures.passes

pub returns-in-Charge-clause-fails : goal.returns-in-Charge-clause-fails
returns-in-Charge-clause-fails c =
    let j = c.args.judge.now in
    let p = j.site.now in
    let f = facts_of j.facts.now in
    let n = node_of c.args.node.now in
    let k = cost_over j.claimed in
    let h : Handed =
    record {
      d = c.in-Charge.scaled.d;
      ys = c.in-Charge.scaled.ys;
      covers =
          c.in-Charge.covers;
    } in
    fails_at (end_of c.args.end.now) (charged h) (ap end_of c.in-Charge.is)
    (λ (l : Leaf) (why : Why). LeafFailsBy f j.partial p k n l why)
    (λ (why : Why). LeafFailsBy f j.partial p k n (charged h) why)
    c.judge_charged.result (λ why q. q) c.judge_charged.ensures.fails

pub returns-in-Open-clause-passes : goal.returns-in-Open-clause-passes
returns-in-Open-clause-passes c =
    let j = c.args.judge.now in
    let p = j.site.now in
    let f = facts_of j.facts.now in
    let n = node_of c.args.node.now in
    let k = cost_over j.claimed in
    passes_at (end_of c.args.end.now) (untried c.in-Open.low) (ap end_of c.in-Open.is)
    (λ (l : Leaf). LeafPassesBy f j.partial p k n l)
    ((claimed : Option claims.CostOver)
    → LeafPasses j.partial p claimed n (untried c.in-Open.low))
    c.judge_untried.result (λ q. q k) c.judge_untried.ensures.passes

pub returns-in-Open-clause-fails : goal.returns-in-Open-clause-fails
returns-in-Open-clause-fails c =
    let j = c.args.judge.now in
    let p = j.site.now in
    let f = facts_of j.facts.now in
    let n = node_of c.args.node.now in
    let k = cost_over j.claimed in
    fails_at (end_of c.args.end.now) (untried c.in-Open.low) (ap end_of c.in-Open.is)
    (λ (l : Leaf) (why : Why). LeafFailsBy f j.partial p k n l why)
    (λ (why : Why). (claimed : Option claims.CostOver)
    → LeafFails j.partial p claimed n (untried c.in-Open.low) why)
    c.judge_untried.result (λ why q. q k) c.judge_untried.ensures.fails
