use Rattle.std.proofs.Common.{◌∙◌, ap, sym}
use Rattle.text_lines.specs.number_sets.Sets.{has}
use Rattle.text_lines.specs.problem_rules.Problem.{exclusion_at}
use Rattle.command_files.specs.report_rules.Warned.{is_alone, exclusion_stands}
use Rattle.structure_commands.specs.Judged.{Judged}
use Rattle.structure_commands.proofs.plant.Plant.exclusion_stands.Goals as goal

pub returns-in-Alone : goal.returns-in-Alone
returns-in-Alone c =
    let j = c.args.self.now in
    let k = c.args.k in
    c.is_alone.ensures ∙ ap (is_alone (has c.self.inside.units)) c.exclusion_of.ensures.same
    ∙ ap (λ (j : Judged). is_alone (has j.units) (exclusion_at j.problem k)) c.self.view_is
    ∙ ap (exclusion_stands j.problem (has j.units) k) (sym c.in-Alone.is)
