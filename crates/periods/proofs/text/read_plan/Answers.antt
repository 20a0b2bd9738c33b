use Rattle.std.proofs.Common.{◌≡◌, Result, Ok, IfOk, IfErr, sym, subst}
use Rattle.plan_laws.specs.plan_rules.Meaning.{read_plan}
use Rattle.plan_laws.specs.plan_rules.Plan.{Plan}
use Rattle.plan_laws.specs.plan_rules.Read.{Fault}
use Rattle.text_lines.specs.Tells.{Tells}
use Rattle.periods.specs.Reading.{rest_read}
use Rattle.periods.proofs.Valid.{read_valid}
use Rattle.periods.proofs.Whole.{typed}
use Rattle.periods.proofs.text.read_plan.Goals as goal

pub returns-in-Some-clause-read : goal.returns-in-Some-clause-read
returns-in-Some-clause-read c =
    let same : read_plan c.args.problem.now c.args.bytes.now
    ≡ rest_read c.args.problem.now c.in-Some.lines =
    typed c.args.problem.now c.args.bytes.now c.in-Some.lines c.in-Some.ensures.number
    c.in-Some.ensures.typed in
    subst (λ (r : Result Plan Fault). IfOk c.read_rest.result (λ plan. r ≡ Ok plan)) (sym same)
    c.read_rest.ensures.read

pub returns-in-Some-clause-valid : goal.returns-in-Some-clause-valid
returns-in-Some-clause-valid c =
    let same : read_plan c.args.problem.now c.args.bytes.now
    ≡ rest_read c.args.problem.now c.in-Some.lines =
    typed c.args.problem.now c.args.bytes.now c.in-Some.lines c.in-Some.ensures.number
    c.in-Some.ensures.typed in
    read_valid c.args.problem.now c.args.bytes.now c.read_rest.result c.is_valid.ensures.well_formed
    (subst (λ (r : Result Plan Fault). IfOk c.read_rest.result (λ plan. r ≡ Ok plan)) (sym same)
    c.read_rest.ensures.read)

pub returns-in-Some-clause-fault : goal.returns-in-Some-clause-fault
returns-in-Some-clause-fault c =
    let same : read_plan c.args.problem.now c.args.bytes.now
    ≡ rest_read c.args.problem.now c.in-Some.lines =
    typed c.args.problem.now c.args.bytes.now c.in-Some.lines c.in-Some.ensures.number
    c.in-Some.ensures.typed in
    subst (λ (r : Result Plan Fault). IfErr c.read_rest.result (Tells r)) (sym same)
    c.read_rest.ensures.fault
