use Rattle.std.proofs.Common.{◌≡◌, sym, subst, ap, None}
use Rattle.std.specs.Prelude.{IfOk}
use Rattle.verdicts.specs.tree_rules.Claim.{Claim}
use Rattle.verdicts.specs.branch_tree.View.{claim_of}
use Rattle.verdicts.specs.report_rules.Marginal.{Marginals, AreClaimMarginals}
use Rattle.command_files.specs.studio_rules.Lines.{text_of}
use Rattle.command_files.specs.studio_rules.Report.{headed_tables}
use Rattle.network_commands.proofs.headed.tables_of.Goals as goal

pub returns-in-Network : goal.returns-in-Network
returns-in-Network c =
    let p = c.args.plant.now.site.now in
    let ms = c.args.plant.now.measures.now in
    subst
    (λ (k : Claim). IfOk c.network_text.result (λ bytes. (m : Marginals) × AreClaimMarginals p k m
    × (bytes.items ≡ text_of (headed_tables ms p m k))))
    (sym (ap claim_of c.in-Network.is)) c.network_text.ensures

pub returns-in-Infeasible : goal.returns-in-Infeasible
returns-in-Infeasible c =
    let p = c.args.plant.now.site.now in
    let ms = c.args.plant.now.measures.now in
    subst
    (λ (k : Claim). (m : Marginals) × AreClaimMarginals p k m
    × (c.new.result.items ≡ text_of (headed_tables ms p m k)))
    (sym (ap claim_of c.in-Infeasible.is)) (None, tt, c.new.ensures.items)

pub returns-in-Unknown : goal.returns-in-Unknown
returns-in-Unknown c =
    let p = c.args.plant.now.site.now in
    let ms = c.args.plant.now.measures.now in
    subst
    (λ (k : Claim). (m : Marginals) × AreClaimMarginals p k m
    × (c.new-in-Unknown.result.items ≡ text_of (headed_tables ms p m k)))
    (sym (ap claim_of c.in-Unknown.is)) (None, tt, c.new-in-Unknown.ensures.items)
