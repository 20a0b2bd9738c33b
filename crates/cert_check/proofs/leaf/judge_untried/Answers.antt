use Rattle.std.proofs.Common.{◌∙◌, Option, Some, SFits, OnOk, IfErr, rules, ap, sym, subst}
use Rattle.std.specs.Int.{w128}
use Rattle.std.proofs.lemmas.Int.{to_z-of_z}
use Rattle.charges.specs.pgraph.View.{node_of}
use Rattle.tree_text_rules.specs.tree_rules.declared.why.Why.{Why}
use Rattle.tree_text_rules.specs.tree_rules.Claim.{CostOver}
use Rattle.tree_text_rules.specs.tree_rules.Leaf.{Scaled, untried, LeafPasses, LeafFails}
use Rattle.cert_check.proofs.LeafLemmas.{scaled_is}
use Rattle.cert_check.proofs.leaf.judge_untried.Goals as goal

pub returns-in-None-clause-passes : goal.returns-in-None-clause-passes
returns-in-None-clause-passes c =
    subst
    (λ (low : Option Scaled). OnOk c.judge_open.result
    ((claimed : Option CostOver)
    → LeafPasses c.args.partial c.args.site.now claimed (node_of c.args.node.now) (untried low)))
    (sym c.in-None.is) c.judge_open.ensures.passes

pub returns-in-None-clause-fails : goal.returns-in-None-clause-fails
returns-in-None-clause-fails c =
    subst
    (λ (low : Option Scaled). IfErr c.judge_open.result
    (λ (why : Why). (claimed : Option CostOver)
    → LeafFails c.args.partial c.args.site.now claimed (node_of c.args.node.now) (untried low)
    why))
    (sym c.in-None.is) c.judge_open.ensures.fails

pub returns-in-Some-clause-passes : goal.returns-in-Some-clause-passes
returns-in-Some-clause-passes c =
    let fits : SFits w128 c.d.result = search rules in
    subst
    (λ (low : Option Scaled). OnOk c.judge_low.result
    ((claimed : Option CostOver)
    → LeafPasses c.args.partial c.args.site.now claimed (node_of c.args.node.now) (untried low)))
    (ap Some
    (scaled_is _ _ c.in-Some.low (to_z-of_z w128 c.d.result fits ∙ c.d.ensures) c.ys.ensures)
    ∙ sym c.in-Some.is) c.judge_low.ensures.passes

pub returns-in-Some-clause-fails : goal.returns-in-Some-clause-fails
returns-in-Some-clause-fails c =
    let fits : SFits w128 c.d.result = search rules in
    subst
    (λ (low : Option Scaled). IfErr c.judge_low.result
    (λ (why : Why). (claimed : Option CostOver)
    → LeafFails c.args.partial c.args.site.now claimed (node_of c.args.node.now) (untried low)
    why))
    (ap Some
    (scaled_is _ _ c.in-Some.low (to_z-of_z w128 c.d.result fits ∙ c.d.ensures) c.ys.ensures)
    ∙ sym c.in-Some.is) c.judge_low.ensures.fails
