use Rattle.std.proofs.Common.{◌≡◌, ◌∙◌, sym, subst, Bool}
use Rattle.std.specs.Prelude.{IfErr}
use Rattle.std.proofs.lemmas.Result.{IfOk-weaker}
use Rattle.rank_text.specs.branch_tree.View.{claim_of}
use Rattle.network_commands.specs.verdicts.Unjudged.{IsUnjudgedIf}
use Rattle.report_commands.proofs.HeadLemmas.{plain_says, headed_says}
use Rattle.report_commands.proofs.headed.object_of.Goals as goal

pub returns-then-is_plain-clause-says : goal.returns-then-is_plain-clause-says
returns-then-is_plain-clause-says c =
    let p = c.args.site.now in
    let claim = claim_of c.args.claim.now in
    let plain = sym c.is_plain.ensures ∙ c.if-is_plain.true in
    IfOk-weaker c.plain_object.result _ _
    (λ bytes told. (
      told.0,
      plain_says p claim c.args.head.now c.args.tree.now told.0 plain told.1,
      told.2,
    )) c.plain_object.ensures.says

pub returns-then-is_plain-clause-unjudged : goal.returns-then-is_plain-clause-unjudged
returns-then-is_plain-clause-unjudged c =
    subst
    (λ (partial : Bool). IfErr c.plain_object.result
    (IsUnjudgedIf partial c.args.site.now (claim_of c.args.claim.now)))
    (sym (sym c.is_plain.ensures ∙ c.if-is_plain.true)) c.plain_object.ensures.unjudged

pub returns-else-is_plain-clause-says : goal.returns-else-is_plain-clause-says
returns-else-is_plain-clause-says c =
    let p = c.args.site.now in
    let claim = claim_of c.args.claim.now in
    let plain = sym c.is_plain.ensures ∙ c.if-is_plain.false in
    IfOk-weaker c.headed_object.result _ _
    (λ bytes told. (
      told.0,
      headed_says p claim c.args.head.now c.args.tree.now told.0 plain told.1,
      told.2,
    )) c.headed_object.ensures.says

pub returns-else-is_plain-clause-unjudged : goal.returns-else-is_plain-clause-unjudged
returns-else-is_plain-clause-unjudged c =
    subst
    (λ (partial : Bool). IfErr c.headed_object.result
    (IsUnjudgedIf partial c.args.site.now (claim_of c.args.claim.now)))
    (sym (sym c.is_plain.ensures ∙ c.if-is_plain.false)) c.headed_object.ensures.unjudged
