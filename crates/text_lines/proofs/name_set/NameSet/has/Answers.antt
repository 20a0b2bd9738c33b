use Rattle.std.proofs.Common.{ap, ◌∙◌}
use Rattle.edit_rules.specs.problem_rules.Names.{is_among}
use Rattle.text_lines.proofs.Naming.{has_listed}
use Rattle.text_lines.proofs.name_set.NameSet.has.Goals as goal

pub returns : goal.returns
returns c = c.contains.ensures
    ∙ (has_listed c.args.name.now c.self.inside.names.keys
    ∙ ap (λ names. is_among names c.args.name.now) c.self.view_is)
