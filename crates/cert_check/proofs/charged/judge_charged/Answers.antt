use Rattle.std.proofs.Common.{◌∙◌, List, SFits, refl, rules, sym, subst}
use Rattle.std.specs.Int.{w128}
use Rattle.std.proofs.lemmas.Int.{to_z-of_z}
use Rattle.charges.specs.pgraph.View.{node_of}
use Rattle.tree_text_rules.specs.flow_rules.Cover.{Cover}
use Rattle.tree_text_rules.specs.flow_rules.ChargeLeaf.{Handed, ChargePasses, ChargeFails}
use Rattle.charges.specs.Known.{facts_of}
use Rattle.charges.specs.pgraph.Kept.{AreKept}
use Rattle.tree_text_rules.specs.tree_rules.Claim.{IsAtLeast}
use Rattle.tree_text_rules.specs.tree_rules.Leaf.{IsClaimed}
use Rattle.cert_check.specs.Shown.{cost_over}
use Rattle.cert_check.proofs.LineLemmas.{handed_is}
use Rattle.cert_check.proofs.charged.judge_charged.Goals as goal

pub judge_charge-requires-clause-covers : goal.judge_charge-requires-clause-covers
judge_charge-requires-clause-covers c =
    subst (λ (cs : List Cover). AreKept cs) (sym c.covers.ensures) c.are_kept.ensures

pub returns-in-Ok-clause-passes : goal.returns-in-Ok-clause-passes
returns-in-Ok-clause-passes c =
    let fits : SFits w128 c.d.result = search rules in
    let p = c.args.site.now in
    let k = cost_over c.args.given.now.claimed in
    subst
    (λ (h : Handed). ChargePasses p (IsClaimed k) (IsAtLeast k) (node_of c.args.known.now.node)
    (facts_of c.args.known.now.facts) h)
    (handed_is _ c.args.given.now.scaled.now.d _ c.args.given.now.scaled.now.ys _
    c.args.given.now.covers.now
    (to_z-of_z w128 c.d.result fits ∙ c.d.ensures) c.ys.ensures c.covers.ensures)
    c.in-Ok.ensures.passes

pub returns-in-Err-clause-fails : goal.returns-in-Err-clause-fails
returns-in-Err-clause-fails c =
    let fits : SFits w128 c.d.result = search rules in
    let p = c.args.site.now in
    let k = cost_over c.args.given.now.claimed in (
      c.in-Err.why,
      c.line_why.ensures,
      subst
          (λ (h : Handed). ChargeFails p (IsClaimed k) (IsAtLeast k) (node_of c.args.known.now.node)
          (facts_of c.args.known.now.facts) h c.in-Err.why)
          (handed_is _ c.args.given.now.scaled.now.d _ c.args.given.now.scaled.now.ys _
          c.args.given.now.covers.now
          (to_z-of_z w128 c.d.result fits ∙ c.d.ensures) c.ys.ensures c.covers.ensures)
          c.in-Err.ensures.fails,
    )
