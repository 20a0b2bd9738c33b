use Rattle.std.proofs.Common.{◌≡◌, sym, subst, ap, None}
use Rattle.std.specs.Prelude.{IfOk}
use Rattle.std.proofs.lemmas.Result.{IfOk-weaker}
use Rattle.rank_text.specs.tree_rules.Claim.{Claim}
use Rattle.rank_text.specs.branch_tree.View.{claim_of}
use Rattle.json_text.specs.report_rules.Marginal.{Marginals, AreClaimMarginals}
use Rattle.network_commands.specs.studio_rules.Lines.{text_of}
use Rattle.network_commands.specs.studio_rules.Json.{lines_behind}
use Rattle.report_commands.proofs.json_lines.text_behind.Goals as goal

pub returns-in-Network : goal.returns-in-Network
returns-in-Network c =
    let p = c.args.site.now in
    subst
    (λ (k : Claim). IfOk c.network_text.result (λ bytes. (m : Marginals) × AreClaimMarginals p k m
    × (bytes.items ≡ text_of (lines_behind c.args.head.now p m k))))
    (sym (ap claim_of c.in-Network.is)) c.network_text.ensures

pub returns-in-Infeasible : goal.returns-in-Infeasible
returns-in-Infeasible c =
    let p = c.args.site.now in
    subst
    (λ (k : Claim). IfOk c.bare_of.result (λ bytes. (m : Marginals) × AreClaimMarginals p k m
    × (bytes.items ≡ text_of (lines_behind c.args.head.now p m k))))
    (sym (ap claim_of c.in-Infeasible.is))
    (IfOk-weaker c.bare_of.result _ _ (λ bytes is. (None, tt, is)) c.bare_of.ensures)

pub returns-in-Unknown : goal.returns-in-Unknown
returns-in-Unknown c =
    let p = c.args.site.now in
    subst
    (λ (k : Claim). IfOk c.bare_of-in-Unknown.result (λ bytes. (m : Marginals)
    × AreClaimMarginals p k m
    × (bytes.items ≡ text_of (lines_behind c.args.head.now p m k))))
    (sym (ap claim_of c.in-Unknown.is))
    (IfOk-weaker c.bare_of-in-Unknown.result _ _ (λ bytes is. (None, tt, is))
    c.bare_of-in-Unknown.ensures)
