use Rattle.std.proofs.Common.{◌++◌, ◌∷◌, [], ◌∙◌, ap, ℕ, List}
use Rattle.text_lines.specs.problem_rules.Problem.{material_at}
use Rattle.text_lines.specs.text_rules.Canonical.{kind_word}
use Rattle.report_amounts.specs.report_rules.Number.{Number}
use Rattle.report_amounts.specs.report_rules.declared.amount.UnitAmount.TheVariants.{Made, Used}
use Rattle.report_amounts.specs.report_rules.Amounts.{unit_sum, net, price, cost}
use Rattle.report_amounts.specs.report_rules.Marginal.{marginal}
use Rattle.report_amounts.specs.report_rules.Report.{number_cell, material_limit, marginal_cell}
use Rattle.report_tables.proofs.Pieces.{after_six, row_of}
use Rattle.report_tables.proofs.materials.material_row.Goals as goal

pub returns : goal.returns
returns c =
    let p = c.args.problem.now in
    let w = c.args.network.now in
    let j = c.args.j in
    let m = c.args.marginals.now in
    let r2 = c.push_flows.new.row in
    let r3 = c.push_words.new.row in
    let r4 = c.push_number.new.row in
    row_of c.in_ok-row.row c.push_material_marginal.new.row ((material_at p j).name ∷ [])
    (kind_word (material_at p j).kind ∷ number_cell (unit_sum (Made j) p w)
    ∷ number_cell (unit_sum (Used j) p w) ∷ number_cell (net p w j)
    ∷ material_limit p w j ∷ number_cell (price p j) ∷ number_cell (cost p w j)
    ∷ marginal_cell m (marginal p m j) ∷ [])
    (c.in_ok-row.ensures ∙ ap (λ (t : List ℕ). t ∷ []) c.material_name.ensures)
    (after_six c.in_ok-row.row c.push_kind.new.row r2 r3 r4 c.push_number-2.new.row
    c.push_material_marginal.new.row
    (kind_word (material_at p j).kind ∷ [])
    (number_cell (unit_sum (Made j) p w) ∷ number_cell (unit_sum (Used j) p w)
    ∷ number_cell (net p w j) ∷ [])
    (material_limit p w j ∷ []) (number_cell (price p j) ∷ []) (number_cell (cost p w j) ∷ [])
    (marginal_cell m (marginal p m j) ∷ [])
    c.in_ok-push_kind.ensures
    c.in_ok-push_flows.ensures
    (c.in_ok-push_words.ensures ∙ ap (λ (t : List ℕ). r2 ++ t ∷ []) c.material_limit.ensures)
    (c.in_ok-push_number.ensures ∙ ap (λ (n : Number). r3 ++ number_cell n ∷ []) c.price.ensures)
    (c.in_ok-push_number-2.ensures ∙ ap (λ (n : Number). r4 ++ number_cell n ∷ []) c.cost.ensures)
    c.in_ok-push_material_marginal.ensures)
