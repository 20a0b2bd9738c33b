use Rattle.std.proofs.Common.{IfOk, IfErr, SFits, rules, sym, subst}
use Rattle.std.specs.Int.{w128}
use Rattle.std.proofs.lemmas.Int.{to_z-of_z}
use Rattle.cert_check.specs.Shown.{cost_over}
use Rattle.branch_tree.specs.HeadView.{line_of}
use Rattle.branch_tree.specs.declared.line.HeadLine.{HeadLine}
use Rattle.cert_check.specs.Lines.{IsJudged, Fails}
use Rattle.cert_check.specs.View.{known_of}
use Rattle.cert_check.proofs.line.judge_line.Goals as goal

pub returns-in-Step-clause-passes : goal.returns-in-Step-clause-passes
returns-in-Step-clause-passes c =
    subst
    (λ (l : HeadLine). IfOk c.judge_step.result
    (IsJudged c.args.site.now (cost_over c.args.claimed) (known_of c.args.known.now) (line_of l)))
    (sym c.in-Step.is) c.judge_step.ensures.passes

pub returns-in-Step-clause-fails : goal.returns-in-Step-clause-fails
returns-in-Step-clause-fails c =
    subst
    (λ (l : HeadLine). IfErr c.judge_step.result
    (Fails c.args.site.now (cost_over c.args.claimed) (known_of c.args.known.now) (line_of l)))
    (sym c.in-Step.is) c.judge_step.ensures.fails

pub returns-in-Cap-clause-passes : goal.returns-in-Cap-clause-passes
returns-in-Cap-clause-passes c =
    let fits : SFits w128 c.in-Cap.size = search rules in
    subst
    (λ (l : HeadLine). IfOk c.judge_cap.result
    (IsJudged c.args.site.now (cost_over c.args.claimed) (known_of c.args.known.now) (line_of l)))
    (sym c.in-Cap.is) (simp to_z-of_z at c.judge_cap.ensures.passes)

pub returns-in-Cap-clause-fails : goal.returns-in-Cap-clause-fails
returns-in-Cap-clause-fails c =
    let fits : SFits w128 c.in-Cap.size = search rules in
    subst
    (λ (l : HeadLine). IfErr c.judge_cap.result
    (Fails c.args.site.now (cost_over c.args.claimed) (known_of c.args.known.now) (line_of l)))
    (sym c.in-Cap.is) (simp to_z-of_z at c.judge_cap.ensures.fails)

pub returns-in-Out-clause-passes : goal.returns-in-Out-clause-passes
returns-in-Out-clause-passes c =
    subst
    (λ (l : HeadLine). IfOk c.judge_out.result
    (IsJudged c.args.site.now (cost_over c.args.claimed) (known_of c.args.known.now) (line_of l)))
    (sym c.in-Out.is) c.judge_out.ensures.passes

pub returns-in-Out-clause-fails : goal.returns-in-Out-clause-fails
returns-in-Out-clause-fails c =
    subst
    (λ (l : HeadLine). IfErr c.judge_out.result
    (Fails c.args.site.now (cost_over c.args.claimed) (known_of c.args.known.now) (line_of l)))
    (sym c.in-Out.is) c.judge_out.ensures.fails

pub returns-in-Trim-clause-passes : goal.returns-in-Trim-clause-passes
returns-in-Trim-clause-passes c =
    subst
    (λ (l : HeadLine). IfOk c.judge_trim.result
    (IsJudged c.args.site.now (cost_over c.args.claimed) (known_of c.args.known.now) (line_of l)))
    (sym c.in-Trim.is) c.judge_trim.ensures.passes

pub returns-in-Trim-clause-fails : goal.returns-in-Trim-clause-fails
returns-in-Trim-clause-fails c =
    subst
    (λ (l : HeadLine). IfErr c.judge_trim.result
    (Fails c.args.site.now (cost_over c.args.claimed) (known_of c.args.known.now) (line_of l)))
    (sym c.in-Trim.is) c.judge_trim.ensures.fails

pub returns-in-Use-clause-passes : goal.returns-in-Use-clause-passes
returns-in-Use-clause-passes c =
    let amount : SFits w128 c.in-Use.amount = search rules in
    let worth : SFits w128 c.in-Use.worth = search rules in
    subst
    (λ (l : HeadLine). IfOk c.judge_use.result
    (IsJudged c.args.site.now (cost_over c.args.claimed) (known_of c.args.known.now) (line_of l)))
    (sym c.in-Use.is) (simp to_z-of_z at c.judge_use.ensures.passes)

pub returns-in-Use-clause-fails : goal.returns-in-Use-clause-fails
returns-in-Use-clause-fails c =
    let amount : SFits w128 c.in-Use.amount = search rules in
    let worth : SFits w128 c.in-Use.worth = search rules in
    subst
    (λ (l : HeadLine). IfErr c.judge_use.result
    (Fails c.args.site.now (cost_over c.args.claimed) (known_of c.args.known.now) (line_of l)))
    (sym c.in-Use.is) (simp to_z-of_z at c.judge_use.ensures.fails)
