use Rattle.std.proofs.Common.{◌≡◌, ◌∙◌, false, Bool, subst, OnOk, IfErr, SFits, rules, to_z, of_z}
use Rattle.std.specs.Int.{w128}
use Rattle.std.proofs.lemmas.Int.{to_z-of_z}
use Rattle.rank_laws.specs.tree_rules.declared.why.Why.{Why}
use Rattle.rank_laws.specs.tree_rules.Claim as claims
use Rattle.cert_check.proofs.Cited.{weaker_fault}
use Rattle.rank_check.proofs.networks.judge_alone.Goals as goal

pub returns-clause-passes : goal.returns-clause-passes
returns-clause-passes c =
    let p = c.args.site.now in
    let d_fits : SFits w128 c.d.result = search rules in
    let cost_fits : SFits w128 c.cost.result = search rules in
    let d_is = to_z-of_z w128 c.d.result d_fits ∙ c.d.ensures in
    let cost_is = to_z-of_z w128 c.cost.result cost_fits ∙ c.cost.ensures in
    let judged : claims.Network =
    record {
      units = c.units.result;
      sizes = c.sizes.result.now;
      d =
          to_z w128 (of_z w128 c.d.result);
      cost = to_z w128 (of_z w128 c.cost.result);
    } in
    let same : judged ≡ c.args.network.now =
    λ i. record {
      units = c.units.ensures i;
      sizes = c.sizes.ensures i;
      d = d_is i;
      cost =
          cost_is i;
    } in
    subst (λ (w : claims.Network). OnOk c.judge_network.result (claims.IsFeasible p w)) same
    c.judge_network.ensures.passes

pub returns-clause-fails : goal.returns-clause-fails
returns-clause-fails c =
    let p = c.args.site.now in
    let d_fits : SFits w128 c.d.result = search rules in
    let cost_fits : SFits w128 c.cost.result = search rules in
    let d_is = to_z-of_z w128 c.d.result d_fits ∙ c.d.ensures in
    let cost_is = to_z-of_z w128 c.cost.result cost_fits ∙ c.cost.ensures in
    let judged : claims.Network =
    record {
      units = c.units.result;
      sizes = c.sizes.result.now;
      d =
          to_z w128 (of_z w128 c.d.result);
      cost = to_z w128 (of_z w128 c.cost.result);
    } in
    let same : judged ≡ c.args.network.now =
    λ i. record {
      units = c.units.ensures i;
      sizes = c.sizes.ensures i;
      d = d_is i;
      cost =
          cost_is i;
    } in
    subst
    (λ (w : claims.Network). IfErr c.judge_network.result
    (λ (why : Why). claims.ClaimFails false p (claims.network w) why)) same
    (weaker_fault (λ (why : Why). (partial : Bool)
    → claims.ClaimFails partial p (claims.network judged) why)
    (λ (why : Why). claims.ClaimFails false p (claims.network judged) why)
    c.judge_network.result (λ why f. f false) c.judge_network.ensures.fails)
