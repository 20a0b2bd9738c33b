use Rattle.std.proofs.Common.{◌≡◌, ◌∙◌, sym, subst, Bool}
use Rattle.std.specs.Prelude.{IfErr}
use Rattle.std.proofs.lemmas.Result.{IfOk-weaker}
use Rattle.verdicts.specs.branch_tree.View.{claim_of}
use Rattle.verdicts.specs.Unjudged.{IsUnjudgedIf}
use Rattle.network_commands.proofs.HeadLemmas.{plain_says, headed_says}
use Rattle.network_commands.proofs.headed.headed_report_text.Goals as goal

pub returns-then-is_plain-clause-says : goal.returns-then-is_plain-clause-says
returns-then-is_plain-clause-says c =
    let p = c.args.plant.now.site.now in
    let ms = c.args.plant.now.measures.now in
    let claim = claim_of c.args.claim.now in
    let plain = sym c.is_plain.ensures ∙ c.if-is_plain.true in
    IfOk-weaker c.plain_report.result _ _
    (λ bytes told. (
      told.0,
      plain_says ms p claim c.args.head.now c.args.tree.now told.0 plain told.1,
      told.2,
    )) c.plain_report.ensures.says

pub returns-then-is_plain-clause-unjudged : goal.returns-then-is_plain-clause-unjudged
returns-then-is_plain-clause-unjudged c =
    subst
    (λ (partial : Bool). IfErr c.plain_report.result
    (IsUnjudgedIf partial c.args.plant.now.site.now (claim_of c.args.claim.now)))
    (sym (sym c.is_plain.ensures ∙ c.if-is_plain.true)) c.plain_report.ensures.unjudged

pub returns-else-is_plain-clause-says : goal.returns-else-is_plain-clause-says
returns-else-is_plain-clause-says c =
    let p = c.args.plant.now.site.now in
    let ms = c.args.plant.now.measures.now in
    let claim = claim_of c.args.claim.now in
    let plain = sym c.is_plain.ensures ∙ c.if-is_plain.false in
    IfOk-weaker c.report_text_by.result _ _
    (λ bytes told. (
      told.0,
      headed_says ms p claim c.args.head.now c.args.tree.now told.0 plain told.1,
      told.2,
    )) c.report_text_by.ensures.says

pub returns-else-is_plain-clause-unjudged : goal.returns-else-is_plain-clause-unjudged
returns-else-is_plain-clause-unjudged c =
    subst
    (λ (partial : Bool). IfErr c.report_text_by.result
    (IsUnjudgedIf partial c.args.plant.now.site.now (claim_of c.args.claim.now)))
    (sym (sym c.is_plain.ensures ∙ c.if-is_plain.false)) c.report_text_by.ensures.unjudged
