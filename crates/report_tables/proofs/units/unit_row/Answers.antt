use Rattle.std.proofs.Common.{◌++◌, ◌∷◌, [], ◌∙◌, ap, ℕ, List}
use Rattle.text_lines.specs.problem_rules.Problem.{unit_at}
use Rattle.report_amounts.specs.report_rules.Number.{Number}
use Rattle.report_amounts.specs.report_rules.declared.amount.UnitAmount.TheVariants.{Fixed}
use Rattle.report_amounts.specs.report_rules.declared.amount.UnitAmount.TheVariants.{Proportional}
use Rattle.report_amounts.specs.report_rules.declared.amount.UnitAmount.TheVariants.{Investment}
use Rattle.report_amounts.specs.report_rules.declared.amount.UnitAmount.TheVariants.{Total}
use Rattle.report_amounts.specs.report_rules.Amounts.{size, amount}
use Rattle.report_amounts.specs.report_rules.Marginal.{unit_marginal}
use Rattle.report_amounts.specs.report_rules.Report.{number_cell, share_cell, unit_limit}
use Rattle.report_amounts.specs.report_rules.Report.{marginal_cell}
use Rattle.report_tables.proofs.Pieces.{after_five, row_of}
use Rattle.report_tables.proofs.units.unit_row.Goals as goal

pub returns : goal.returns
returns c =
    let p = c.args.problem.now in
    let w = c.args.network.now in
    let u = c.args.u in
    let m = c.args.marginals.now in
    let r0 = c.in_ok-row.row in
    let r2 = c.push_share.new.row in
    let costs = number_cell (amount Fixed p w u) ∷ number_cell (amount Proportional p w u)
    ∷ number_cell (amount Investment p w u) ∷ number_cell (amount Total p w u) ∷ [] in
    let last = marginal_cell m (unit_marginal p m u) ∷ [] in
    row_of r0 c.push_unit_marginal.new.row ((unit_at p u).name ∷ [])
    (number_cell (size w u) ∷ share_cell p w u ∷ unit_limit p w u
    ∷ number_cell (amount Fixed p w u)
    ∷ number_cell (amount Proportional p w u) ∷ number_cell (amount Investment p w u)
    ∷ number_cell (amount Total p w u) ∷ last)
    (c.in_ok-row.ensures ∙ ap (λ (t : List ℕ). t ∷ []) c.unit_name.ensures)
    (after_five r0 c.push_number.new.row r2 c.push_words.new.row c.push_costs.new.row
    c.push_unit_marginal.new.row
    (number_cell (size w u) ∷ []) (share_cell p w u ∷ []) (unit_limit p w u ∷ []) costs last
    (c.in_ok-push_number.ensures ∙ ap (λ (n : Number). r0 ++ number_cell n ∷ []) c.size.ensures)
    c.in_ok-push_share.ensures
    (c.in_ok-push_words.ensures ∙ ap (λ (t : List ℕ). r2 ++ t ∷ []) c.unit_limit.ensures)
    c.in_ok-push_costs.ensures c.in_ok-push_unit_marginal.ensures)
