use Rattle.std.proofs.Common.{◌≡◌, ◌∙◌, sym, ap, subst, Bool, OnOk, IfErr, SFits, rules, to_z, of_z}
use Rattle.std.specs.Int.{w128}
use Rattle.std.proofs.lemmas.Int.{to_z-of_z}
use Rattle.tree_text_rules.specs.tree_rules.declared.why.Why.{Why}
use Rattle.tree_text_rules.specs.tree_rules.Claim as claims
use Rattle.branch_tree.specs.View.{claim_of}
use Rattle.cert_check.proofs.LeafLemmas.{weaker_fault}
use Rattle.cert_check.proofs.claim.judge_claim.Goals as goal

pub returns-in-Network-clause-passes : goal.returns-in-Network-clause-passes
returns-in-Network-clause-passes c =
    let p = c.args.site.now in
    let d_fits : SFits w128 c.d.result = search rules in
    let cost_fits : SFits w128 c.cost.result = search rules in
    let d_is = to_z-of_z w128 c.d.result d_fits ∙ c.d.ensures in
    let cost_is = to_z-of_z w128 c.cost.result cost_fits ∙ c.cost.ensures in
    let judged : claims.Network =
    record {
      units = c.units.result;
      sizes = c.sizes.result.now;
      d =
          to_z w128 (of_z w128 c.d.result);
      cost = to_z w128 (of_z w128 c.cost.result);
    } in
    let same : judged ≡ c.in-Network.network =
    λ i. record {
      units = c.units.ensures i;
      sizes = c.sizes.ensures i;
      d = d_is i;
      cost =
          cost_is i;
    } in
    subst
    (λ (q : claims.Claim). OnOk c.judge_network.result (claims.ClaimPasses c.args.partial p q))
    (sym (ap claim_of c.in-Network.is))
    (subst (λ (w : claims.Network). OnOk c.judge_network.result (claims.IsFeasible p w)) same
    c.judge_network.ensures.passes)

pub returns-in-Network-clause-fails : goal.returns-in-Network-clause-fails
returns-in-Network-clause-fails c =
    let p = c.args.site.now in
    let d_fits : SFits w128 c.d.result = search rules in
    let cost_fits : SFits w128 c.cost.result = search rules in
    let d_is = to_z-of_z w128 c.d.result d_fits ∙ c.d.ensures in
    let cost_is = to_z-of_z w128 c.cost.result cost_fits ∙ c.cost.ensures in
    let judged : claims.Network =
    record {
      units = c.units.result;
      sizes = c.sizes.result.now;
      d =
          to_z w128 (of_z w128 c.d.result);
      cost = to_z w128 (of_z w128 c.cost.result);
    } in
    let same : judged ≡ c.in-Network.network =
    λ i. record {
      units = c.units.ensures i;
      sizes = c.sizes.ensures i;
      d = d_is i;
      cost =
          cost_is i;
    } in
    subst
    (λ (q : claims.Claim). IfErr c.judge_network.result
    (λ (why : Why). claims.ClaimFails c.args.partial p q why))
    (sym (ap claim_of c.in-Network.is))
    (subst
    (λ (w : claims.Network). IfErr c.judge_network.result
    (λ (why : Why). claims.ClaimFails c.args.partial p (claims.network w) why)) same
    (weaker_fault (λ (why : Why). (partial : Bool)
    → claims.ClaimFails partial p (claims.network judged) why)
    (λ (why : Why). claims.ClaimFails c.args.partial p (claims.network judged) why)
    c.judge_network.result (λ why f. f c.args.partial) c.judge_network.ensures.fails))
