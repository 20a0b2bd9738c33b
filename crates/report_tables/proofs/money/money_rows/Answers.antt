use Rattle.std.proofs.Common.{◌<◌, ◌++◌, ◌∷◌, [], ◌∙◌, sym, ap, subst, length, codes, ℕ, List}
use Rattle.text_lines.specs.problem_rules.Problem.{Problem}
use Rattle.report_amounts.specs.report_rules.declared.amount.UnitAmount.TheVariants.{Fixed}
use Rattle.report_amounts.specs.report_rules.declared.amount.UnitAmount.TheVariants.{Proportional}
use Rattle.report_amounts.specs.report_rules.declared.amount.UnitAmount.TheVariants.{Investment}
use Rattle.report_amounts.specs.report_rules.declared.cost_part.CostPart.TheVariants.{Costs}
use Rattle.report_amounts.specs.report_rules.declared.cost_part.CostPart.TheVariants.{Incomes}
use Rattle.report_amounts.specs.report_rules.Amounts.{unit_sum, cost_sum}
use Rattle.report_amounts.specs.report_rules.Report.{money_row, total_row, money_rows}
use Rattle.report_tables.proofs.Pieces.{after_six, row_of}
use Rattle.report_tables.proofs.money.money_rows.Goals as goal

pub unit_money-requires : goal.unit_money-requires
unit_money-requires c u h =
    subst (λ (p : Problem). u < length p.units) (sym c.problem-problem.ensures.same)
    (c.requires.feasible.structure.s3 u h)

pub unit_money-requires-2 : goal.unit_money-requires-2
unit_money-requires-2 c u h =
    subst (λ (p : Problem). u < length p.units) (sym c.problem-problem.ensures.same)
    (c.requires.feasible.structure.s3 u h)

pub unit_money-requires-3 : goal.unit_money-requires-3
unit_money-requires-3 c u h =
    subst (λ (p : Problem). u < length p.units) (sym c.problem-problem.ensures.same)
    (c.requires.feasible.structure.s3 u h)

pub returns : goal.returns
returns c =
    let p = c.args.site.now in
    let same = c.problem-problem.ensures.same in
    let w = c.args.network.now in
    row_of c.new-rows.result.items c.push-6.new.self.items [] (money_rows p w)
    c.new-rows.ensures.items
    (after_six c.new-rows.result.items c.push.new.self.items c.push-2.new.self.items
    c.push-3.new.self.items c.push-4.new.self.items c.push-5.new.self.items
    c.push-6.new.self.items
    (money_row (codes "fixed costs") (unit_sum Fixed p w) ∷ [])
    (money_row (codes "proportional costs") (unit_sum Proportional p w) ∷ [])
    (money_row (codes "investment costs") (unit_sum Investment p w) ∷ [])
    (money_row (codes "material costs") (cost_sum Costs p w) ∷ [])
    (money_row (codes "material incomes") (cost_sum Incomes p w) ∷ [])
    (total_row p w ∷ [])
    (c.in_ok-push.ensures.items
    ∙ (λ i. c.new-rows.result.items
    ++ (c.in_ok-unit_money.ensures
    ∙ ap (λ (p : Problem). money_row (codes "fixed costs") (unit_sum Fixed p w)) same) i ∷ []))
    (c.in_ok-push-2.ensures.items
    ∙ (λ i. c.push.new.self.items
    ++ (c.in_ok-unit_money-2.ensures
    ∙ ap (λ (p : Problem). money_row (codes "proportional costs") (unit_sum Proportional p w))
    same) i ∷ []))
    (c.in_ok-push-3.ensures.items
    ∙ (λ i. c.push-2.new.self.items
    ++ (c.in_ok-unit_money-3.ensures
    ∙ ap (λ (p : Problem). money_row (codes "investment costs") (unit_sum Investment p w)) same)
    i ∷ []))
    (c.in_ok-push-4.ensures.items
    ∙ ap (λ (row : List (List ℕ)). c.push-3.new.self.items ++ row ∷ [])
    c.in_ok-material_money.ensures)
    (c.in_ok-push-5.ensures.items
    ∙ ap (λ (row : List (List ℕ)). c.push-4.new.self.items ++ row ∷ [])
    c.in_ok-material_money-2.ensures)
    (c.in_ok-push-6.ensures.items
    ∙ (λ i. c.push-5.new.self.items
    ++ (c.in_ok-total_row.ensures ∙ ap (λ (p : Problem). total_row p w) same) i ∷ [])))
