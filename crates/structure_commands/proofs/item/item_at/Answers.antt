use Rattle.std.proofs.Common.{◌∙◌, ap, sym, option_map, ℕ, List}
use Rattle.text_lines.specs.problem_rules.Problem.{OperatingUnit, unit_names}
use Rattle.text_lines.specs.problem_rules.Names.{is_among}
use Rattle.text_lines.specs.text_rules.declared.Section.{Section}
use Rattle.text_lines.specs.text_rules.Line.{head_of}
use Rattle.text_lines.specs.View.{texts}
use Rattle.command_files.specs.report_rules.Item.{number_of, rates_item, item_at}
use Rattle.structure_commands.proofs.item.item_at.Goals as goal

pub returns-in-Rates-clause-item : goal.returns-in-Rates-clause-item
returns-in-Rates-clause-item c =
    let p = c.args.problem.now in
    let own = texts c.args.own.now in
    let name = head_of c.args.line.now.text in
    c.rates_at.ensures.item
    ∙ ap
    (λ (us : List OperatingUnit). option_map (rates_item (is_among own c.head-name.result.now))
    (number_of (unit_names us) c.head-name.result.now)) c.units-in-Rates.ensures
    ∙ ap
    (λ (word : List ℕ). option_map (rates_item (is_among own word))
    (number_of (unit_names p.units) word)) c.head-name.ensures
    ∙ ap (λ (s : Section). item_at p own s name) (sym c.in-Rates.is ∙ c.section.ensures)
